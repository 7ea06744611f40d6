-- A file that was written of the tree of another.
use Rattle.std.proofs.Common.{◌≡◌, ◌≢◌, ◌≤◌, ◌∙◌, ℕ, List, Option, Some, None, IfSome, length, refl, ap, subst, sym}
use Rattle.std.proofs.Math.Logic.{∥∥₁_elim, ∥∥₁_map, ∥∥₁_prop}
use Rattle.std.specs.Io.KnownBytes.{Appends}
use Rattle.cfb_entries.specs.Tree.{Tree}
use Rattle.write_parts.proofs.Blank.{outline-blank}
use Rattle.cfb_file.specs.Denotes.{Denotes}
use Rattle.cfb_file.specs.Refusals.{Refuses, writable}
use Rattle.read_outlines.specs.View.{outline_view}
use Rattle.write_files.specs.Laid.{file_of}
use Rattle.write_files.specs.Sending.{WritesFile}
use Rattle.write_cleaned.specs.Cleaning.{Cleans, MayRefuseClean}
use Rattle.write_cleaned.specs.Moves.{MayRefuseMove}
use Rattle.write_cleaned.specs.Opened.{IsOpenedOf}
use Rattle.write_cleaned.specs.Sizes.{blank_of}
use Rattle.write_cleaned.specs.Sources.{MayRefuseSource}
use Rattle.write_cleaned.specs.declared.moving_fault.SourceFault.{SourceFault}
use Rattle.write_cleaned.specs.declared.moving_fault.SourceFault.TheVariants as source
use Rattle.write_cleaned.specs.declared.moving.MoveFault.{MoveFault}
use Rattle.write_cleaned.specs.declared.moving.MoveFault.TheVariants as move
use Rattle.write_cleaned.specs.declared.reading.Opened.{Opened}
use Rattle.read_streams.specs.declared.fault.CopyFault.TheVariants as copy
use Rattle.text_io.specs.Input.{most}
use Rattle.text_io.specs.declared.input.InputFault.TheVariants as input
use Rattle.write_cleaned.proofs.Settled.{appended, has_file, one_writable, same_number}
use Rattle.write_cleaned.specs.Faults.{of_move_fault, of_source_fault}

-- what was opened of a file, of whichever tree that is
abbrev pub IsOpened : List ℕ → Opened → Type 0
IsOpened file opened = (t : Tree) × ∥ IsOpenedOf file t opened ∥₁

-- the tree of zeros fits where that tree does
fits_too : (file : List ℕ) (t : Tree) (opened : Opened) → ∥ IsOpenedOf file t opened ∥₁
    → writable (blank_of opened.outline) ≡ writable t
fits_too file t opened is = one_writable (blank_of opened.outline) t
    (∥∥₁_map is (λ x. outline-blank (outline_view opened.outline) ∙ x.placed.outlined))

cleans : (file : List ℕ) (opened : Opened) (old new : Option (List ℕ)) (count : ℕ)
    → length file ≤ most → IsOpened file opened
    → ((t : Tree) → IsOpenedOf file t opened → WritesFile t old new count) → Cleans file old new count
cleans file opened old new count few q w =
    let t : Tree = q.0 in
    let denotes : ∥ Denotes file t ∥₁ = ∥∥₁_map q.1 (λ x. x.placed.denotes) in
    record {
      t = t;
      denotes = denotes;
      few = few;
      fits = has_file t (∥∥₁_map q.1 (λ x. (w t x).fits));
      clean = file_of t;
      same = ∥∥₁_elim q.1 ∥∥₁_prop (λ x. subst (λ (f : List ℕ). ∥ Denotes f t ∥₁) (w t x).laid_out
          ((w t x).denotes (∥∥₁_map denotes (λ d. d.is_tree))));
      laid_out = refl;
      written = appended old new (file_of t)
          (∥∥₁_map q.1 (λ x. subst (λ (f : List ℕ). Appends old new f) (w t x).laid_out (w t x).written));
      counted = same_number count (length (file_of t))
          (∥∥₁_map q.1 (λ x. (w t x).counted ∙ ap (λ (f : List ℕ). length f) (w t x).laid_out));
    }

pub known_cleans : (known : Option (List ℕ)) (opened : Opened) (old new : Option (List ℕ)) (count : ℕ)
    → IfSome known (λ file. length file ≤ most) → IfSome known (λ file. IsOpened file opened)
    → IfSome known (λ file. (t : Tree) → IsOpenedOf file t opened → WritesFile t old new count)
    → IfSome known (λ file. Cleans file old new count)
known_cleans None opened old new count few d w = tt
known_cleans (Some file) opened old new count few d w = cleans file opened old new count few d w

-- ---- why it isn't written
source_fault : (file : List ℕ) (fault : SourceFault) → MayRefuseSource file fault
    → MayRefuseClean file (of_source_fault fault)
source_fault file (source.Input fault) r = r
source_fault file (source.Read fault) r = r

pub source_refused : (known : Option (List ℕ)) (fault : SourceFault)
    → IfSome known (λ file. MayRefuseSource file fault)
    → IfSome known (λ file. MayRefuseClean file (of_source_fault fault))
source_refused None fault r = tt
source_refused (Some file) fault r = source_fault file fault r

unreadable : input.Unreadable ≢ input.TooBig
unreadable e = cc

no_memory : input.NoMemory ≢ input.TooBig
no_memory e = cc

move_fault : (file : List ℕ) (opened : Opened) (fault : MoveFault) → IsOpened file opened
    → MayRefuseMove (blank_of opened.outline) fault → MayRefuseClean file (of_move_fault fault)
move_fault file opened (move.Write fault) q r =
    (q.0, ∥∥₁_map q.1 (λ x. x.placed.denotes), subst (λ told. Refuses told fault) (fits_too file q.0 opened q.1) r)
move_fault file opened (move.Copy copy.Unreadable) q r =
    (q.0, ∥∥₁_map q.1 (λ x. x.placed.denotes), sym (fits_too file q.0 opened q.1) ∙ r, unreadable)
move_fault file opened (move.Copy copy.NoMemory) q r =
    (q.0, ∥∥₁_map q.1 (λ x. x.placed.denotes), sym (fits_too file q.0 opened q.1) ∙ r, no_memory)
move_fault file opened (move.Copy copy.Unwritable) q r =
    (q.0, ∥∥₁_map q.1 (λ x. x.placed.denotes), sym (fits_too file q.0 opened q.1) ∙ r)

pub move_refused : (known : Option (List ℕ)) (opened : Opened) (fault : MoveFault)
    → IfSome known (λ file. IsOpened file opened) → MayRefuseMove (blank_of opened.outline) fault
    → IfSome known (λ file. MayRefuseClean file (of_move_fault fault))
move_refused None opened fault q r = tt
move_refused (Some file) opened fault q r = move_fault file opened fault q r
