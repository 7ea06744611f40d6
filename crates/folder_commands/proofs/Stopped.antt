-- What was made of a file, and where that stops.
use Rattle.std.proofs.Common.{◌≡◌, ◌<◌, ◌∙◌, ℕ, zero, suc, List, [], ◌∷◌, Option, Some, None, IfSome, length, map, refl}
use Rattle.std.proofs.Common.{sym, ap, subst, take, arith}
use Rattle.std.proofs.Math.Decide.{ℕ_discrete}
use Rattle.std.proofs.Math.Logic.{∥∥₁_elim, ∥∥₁_map}
use Rattle.std.proofs.lemmas.List.{length-map}
use Rattle.std.specs.Prelude.{slice_get}
use Rattle.cfb_entries.specs.Tree.{Tree}
use Rattle.folder_commands.specs.Plan.{Entry, plan}
use Rattle.cfb_file.specs.Denotes.{Denotes}
use Rattle.write_cleaned.specs.Opened.{IsOpenedOf}
use Rattle.write_cleaned.specs.Sources.{MayRefuseSource}
use Rattle.write_cleaned.specs.declared.moving_fault.SourceFault.{SourceFault}
use Rattle.write_cleaned.specs.declared.moving_fault.SourceFault.TheVariants as source
use Rattle.write_cleaned.specs.declared.reading.Opened.{Opened}
use Rattle.read_outlines.specs.View.{shown}
use Rattle.read_outlines.specs.declared.outline.Place.{Place}
use Rattle.write_cleaned.specs.Windows.{IsWindow}
use Rattle.read_streams.proofs.Shown.{shown_read}
use Rattle.read_streams.specs.Tables.{read_by}
use Rattle.folder_commands.specs.Chosen.{AllStand, asked}
use Rattle.folder_commands.specs.Extracting.{Extracts, IsCutShort, IsLate, MayRefusePlan, MayStop, of_folder_fault}
use Rattle.folder_commands.specs.Extracting.{of_source_fault}
use Rattle.folder_commands.specs.Made.{Adds}
use Rattle.folder_commands.specs.Planned.{entries_of, entry_at}
use Rattle.folder_commands.specs.declared.fault.ExtractFault.{ExtractFault}
use Rattle.folder_commands.specs.declared.fault.ExtractFault.TheVariants.{Input, Read, NoMemory, Missing, Cut}
use Rattle.folder_commands.specs.declared.fault.ExtractFault.TheVariants.{Entry as InFolder}
use Rattle.folder_commands.specs.declared.folder.FolderFault.{FolderFault}
use Rattle.folder_commands.specs.declared.folder.FolderFault.TheVariants as why
use Rattle.folder_commands.specs.declared.planning.Planned.{Planned}

-- what was opened of a file, of whichever tree that is
abbrev pub IsOpened : List ℕ → Opened → Type 0
IsOpened file opened = (t : Tree) × ∥ IsOpenedOf file t opened ∥₁

-- ---- what can be told is so where it is so by some witness
⊥_prop : (a b : ⊥) → a ≡ b
⊥_prop a b = absurd a

settled : {P : Type 0} → Dec P → ∥ P ∥₁ → P
settled (yes p) h = p
settled (no n) h = absurd (∥∥₁_elim h ⊥_prop n)

-- ---- what is read of a file by its tables
module _ (file : List ℕ) (opened : Opened) where
  abbrev pub content : Place → List ℕ
  content = read_by file opened.tables

  -- the tree that is shown is one that the file denotes
  abbrev pub told : Tree
  told = shown content opened.outline

  module _ (is : IsOpened file opened) where
    pub as_long : length file ≡ opened.tables.len
    as_long = settled (ℕ_discrete (length file) opened.tables.len) (∥∥₁_map is.1 (λ x. x.len))

    pub denoted : ∥ Denotes file told ∥₁
    denoted = ∥∥₁_map is.1 (λ x. subst (λ (t : Tree). Denotes file t)
        (sym (shown_read file is.0 opened.outline x.placed opened.tables x.tables)) x.placed.denotes)

-- ---- before anything is made
source_fault : (paths : List (List (List ℕ))) (file : List ℕ) (old new : Option (List Entry)) (fault : SourceFault)
    → MayRefuseSource file fault → MayStop paths file old new 0 (of_source_fault fault)
source_fault paths file old new (source.Input fault) r = r
source_fault paths file old new (source.Read fault) r = r

pub unopened : (paths : List (List (List ℕ))) (known : Option (List ℕ)) (old new : Option (List Entry))
    (fault : SourceFault)
    → IfSome known (λ file. MayRefuseSource file fault)
    → IfSome known (λ file. MayStop paths file old new 0 (of_source_fault fault))
unopened paths None old new fault r = tt
unopened paths (Some file) old new fault r = source_fault paths file old new fault r

unplanned_at : (paths : List (List (List ℕ))) (file : List ℕ) (t : Tree) (old new : Option (List Entry))
    (fault : ExtractFault) → ∥ Denotes file t ∥₁ → MayRefusePlan paths t fault
    → MayStop paths file old new 0 fault
unplanned_at paths file t old new (Input fault) denotes why = absurd why
unplanned_at paths file t old new (Read fault) denotes why = absurd why
unplanned_at paths file t old new (Missing n fault) denotes why = (t, denotes, why)
unplanned_at paths file t old new NoMemory denotes why = (t, denotes)
unplanned_at paths file t old new (InFolder path fault) denotes why = absurd why
unplanned_at paths file t old new Cut denotes why = absurd why

pub unplanned : (paths : List (List (List ℕ))) (known : Option (List ℕ)) (opened : Opened)
    (old new : Option (List Entry)) (fault : ExtractFault)
    → IfSome known (λ file. IsOpened file opened)
    → ((content : Place → List ℕ) → MayRefusePlan paths (shown content opened.outline) fault)
    → IfSome known (λ file. MayStop paths file old new 0 fault)
unplanned paths None opened old new fault is why = tt
unplanned paths (Some file) opened old new fault is why =
    unplanned_at paths file (told file opened) old new fault (denoted file opened is) (why (content file opened))

pub no_memory : (paths : List (List (List ℕ))) (known : Option (List ℕ)) (opened : Opened)
    (old new : Option (List Entry))
    → IfSome known (λ file. IsOpened file opened) → IfSome known (λ file. MayStop paths file old new 0 NoMemory)
no_memory paths None opened old new is = tt
no_memory paths (Some file) opened old new is = (told file opened, denoted file opened is)

pub as_told : (paths : List (List (List ℕ))) (known : Option (List ℕ)) (old new : Option (List Entry))
    (made count : ℕ) (fault same : ExtractFault) → made ≡ count → fault ≡ same
    → IfSome known (λ file. MayStop paths file old new count same)
    → IfSome known (λ file. MayStop paths file old new made fault)
as_told paths known old new made count fault same counts is h =
    subst (λ n. IfSome known (λ file. MayStop paths file old new n fault)) (sym counts)
    (subst (λ f. IfSome known (λ file. MayStop paths file old new count f)) (sym is) h)

-- ---- all of it was made
pub extracts : (paths : List (List (List ℕ))) (known : Option (List ℕ)) (opened : Opened)
    (planned slice : List Planned) (old new : Option (List Entry)) (count : ℕ)
    → IfSome known (λ file. IsOpened file opened)
    → ((content : Place → List ℕ) → AllStand paths (shown content opened.outline))
    → ((content : Place → List ℕ) → entries_of content planned ≡ plan (asked paths (shown content opened.outline)))
    → slice ≡ planned → count ≡ length planned
    → ((a : List ℕ) → known ≡ Some a → length a ≡ opened.tables.len
    → Adds old new (entries_of (read_by a opened.tables) slice))
    → IfSome known (λ file. Extracts paths file old new count)
extracts paths None opened planned slice old new count is there plans same counted made = tt
extracts paths (Some file) opened planned slice old new count is there plans same counted made =
    let f : Place → List ℕ = content file opened in
    record {
      t = told file opened;
      denotes = denoted file opened is;
      there = there f;
      made = subst (λ es. Adds old new es) (ap (entries_of f) same ∙ plans f) (made file refl (as_long file opened is));
      counted = counted ∙ sym (length-map planned (λ p. entry_at f p.path p.what)) ∙ ap length (plans f);
    }

-- ---- the next isn't made
there : (ps : List Planned) (n : ℕ) → n < length ps → (p : Planned) × (slice_get ps n ≡ Some p)
there [] n less = absurd (omega (arith, less))
there (p ∷ ps) zero less = (p, refl)
there (p ∷ ps) (suc n) less = there ps n (omega (arith, less))

planned_there : (f : Place → List ℕ) (ps : List Planned) (n : ℕ) (p : Planned) → slice_get ps n ≡ Some p
    → slice_get (entries_of f ps) n ≡ Some (entry_at f p.path p.what)
planned_there f [] n p at = absurd (nothing at)
  where
    nothing : ◌≡◌ {A = Option Planned} None (Some p) → ⊥
    nothing e = cc
planned_there f (q ∷ ps) zero p at = ap (λ (x : Option Planned). out x) at
  where
    out : Option Planned → Option Entry
    out None = None
    out (Some x) = Some (entry_at f x.path x.what)
planned_there f (q ∷ ps) (suc n) p at = planned_there f ps n p at

cut_at : (paths : List (List (List ℕ))) (file : List ℕ) (opened : Opened) (planned slice : List Planned)
    (old new : Option (List Entry)) (made : ℕ) (path : List ℕ)
    → IsOpened file opened → ((content : Place → List ℕ) → entries_of content planned
    ≡ plan (asked paths (shown content opened.outline))) → slice ≡ planned → made < length slice
    → Adds old new (take made (entries_of (read_by file opened.tables) slice))
    → ((p : Planned) → slice_get planned made ≡ Some p → path ≡ p.path)
    → IsCutShort paths file old new made path
cut_at paths file opened planned slice old new made path is plans same less adds at =
    let f : Place → List ℕ = content file opened in
    let next = there planned made (subst (λ (ps : List Planned). made < length ps) same less) in
    record {
      t = told file opened;
      denotes = denoted file opened is;
      made = subst (λ es. Adds old new (take made es)) (ap (entries_of f) same ∙ plans f) adds;
      next = entry_at f next.0.path next.0.what;
      stands = ap (λ es. slice_get es made) (sym (plans f)) ∙ planned_there f planned made next.0 next.1;
      at = at next.0 next.1;
    }

by_fault : (paths : List (List (List ℕ))) (file : List ℕ) (old new : Option (List Entry)) (made : ℕ) (path : List ℕ)
    (fault : FolderFault)
    → IsCutShort paths file old new made path → MayStop paths file old new made (of_folder_fault path fault)
by_fault paths file old new made path why.Exists h = h
by_fault paths file old new made path why.Unwritable h = h
by_fault paths file old new made path why.NoMemory h = h
by_fault paths file old new made path why.Unreadable h = (path, h)

pub cut_short : (paths : List (List (List ℕ))) (known : Option (List ℕ)) (opened : Opened)
    (planned slice : List Planned) (old new : Option (List Entry)) (made : ℕ) (path : List ℕ) (fault : FolderFault)
    → IfSome known (λ file. IsOpened file opened)
    → ((content : Place → List ℕ) → entries_of content planned
    ≡ plan (asked paths (shown content opened.outline)))
    → slice ≡ planned → made < length slice
    → ((a : List ℕ) → known ≡ Some a → length a ≡ opened.tables.len
    → Adds old new (take made (entries_of (read_by a opened.tables) slice)))
    → ((p : Planned) → slice_get planned made ≡ Some p → path ≡ p.path)
    → IfSome known (λ file. MayStop paths file old new made (of_folder_fault path fault))
cut_short paths None opened planned slice old new made path fault is plans same less adds at = tt
cut_short paths (Some file) opened planned slice old new made path fault is plans same less adds at =
    by_fault paths file old new made path fault
    (cut_at paths file opened planned slice old new made path is plans same less
    (adds file refl (as_long file opened is)) at)

-- a fault of the folder, or of a file that isn't read further, is late
pub is_late : (path : List ℕ) (fault : FolderFault) → IsLate (of_folder_fault path fault)
is_late path why.Exists = tt
is_late path why.Unwritable = tt
is_late path why.NoMemory = tt
is_late path why.Unreadable = tt
