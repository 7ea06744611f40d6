-- The file that changes make of another.
use Rattle.std.proofs.Common.{◌≡◌, ◌<◌, ℕ, List, [], Result, Ok, Err, IfErr, IfOk, length, refl, sym, ap, ◌∙◌, subst}
use Rattle.std.proofs.Common.{rules}
use Rattle.std.specs.Prelude.{IsOk}
use Rattle.cfb_entries.specs.Tree.{Tree}
use Rattle.tree_storage.specs.Kept.{Kept}
use Rattle.cfb_file.specs.Denotes.{Denotes}
use Rattle.cfb_file.specs.Limits.{MOST_BYTES}
use Rattle.cfb_file.specs.Refusals.{Refuses, writable}
use Rattle.cfb_file.specs.declared.fault.WriteFault.{WriteFault}
use Rattle.cfb_file.specs.declared.fault.WriteFault.TheVariants.{NoMemory}
use Rattle.tree_descriptions.specs.declared.fault.LineFault.{LineFault}
use Rattle.tree_edits.specs.declared.change.Change.{Change}
use Rattle.tree_edits.specs.Edited.{RefusesEdit, edited, outside}
use Rattle.store_edits.specs.Edits.{IsEdit, IsUpdate, MakesTree, MayRefuseTree, MayRefuseUpdate}
use Rattle.store_edits.specs.declared.fault.EditFault.{EditFault}
use Rattle.store_edits.specs.declared.fault.EditFault.TheVariants.{Store, Read, Line, Write}
use Rattle.store_edits.specs.declared.files.Renewed.{Renewed}

outside_is : (k : Kept) → k.saved ≡ [] → k ≡ outside k.now
outside_is k is = ap (λ (s : List Tree). record { now = k.now; saved = s }) is

pub makes : (changes : List (ℕ × Change)) (document : List ℕ) (k next : Kept) → ∥ Denotes document k.now ∥₁
    → k.saved ≡ [] → edited changes k ≡ Ok next → MakesTree changes document next
makes changes document k next denotes closed is = (k.now, denotes, ap (edited changes) (sym (outside_is k closed)) ∙ is)

pub refused_line : (changes : List (ℕ × Change)) (document : List ℕ) (k : Kept) (n : ℕ) (fault : LineFault)
    → ∥ Denotes document k.now ∥₁ → k.saved ≡ [] → RefusesEdit changes k (n, fault)
    → MayRefuseUpdate changes document (Line n fault)
refused_line changes document k n fault denotes closed why =
    (k.now, denotes, subst (λ (q : Kept). RefusesEdit changes q (n, fault)) (outside_is k closed) why)

pub edit_of : (changes : List (ℕ × Change)) (document bytes : List ℕ) (k : Kept) → MakesTree changes document k
    → ∥ Denotes bytes k.now ∥₁ → IsEdit changes document bytes
edit_of changes document bytes k made denotes = (k, made, denotes)

pub edit_told : (changes : List (ℕ × Change)) (document : List ℕ) (k : Kept) (r : Result Renewed EditFault)
    → MakesTree changes document k → IfOk r (λ u. IsUpdate document k.now u)
    → IfOk r (λ u. IsEdit changes document u.image)
edit_told changes document k (Ok u) made is = (k, made, is.denotes)
edit_told changes document k (Err e) made is = tt

pub refused_tree : (changes : List (ℕ × Change)) (document : List ℕ) (k : Kept) (r : Result Renewed EditFault)
    → MakesTree changes document k → IfErr r (MayRefuseTree document k.now)
    → IfErr r (MayRefuseUpdate changes document)
refused_tree changes document k (Ok u) made why = tt
refused_tree changes document k (Err (Read fault)) made why = why
refused_tree changes document k (Err (Line n fault)) made why = absurd why
refused_tree changes document k (Err (Write fault)) made why = (k, made, why)
refused_tree changes document k (Err (Store fault)) made why = (why.0, why.1, (k, made, why.2), why.3)

pub lacking : (t : Tree) → writable t ≡ Ok tt → Refuses (writable t) NoMemory
lacking t is = let P : Result (Unit {0}) WriteFault → Type 0 = IsOk in subst P (sym is) refl
