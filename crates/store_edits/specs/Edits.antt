-- What an edit makes of a document, and when it is refused.
use Rattle.std.specs.Prelude.{◌≡◌, ◌<◌, ◌≤◌, ℕ, List, length, Ok}
use Rattle.cfb_entries.specs.Tree.{Tree}
use Rattle.tree_storage.specs.Kept.{Kept}
use Rattle.cfb_file.specs.Denotes.{Denotes}
use Rattle.cfb_file.specs.Limits.{MOST_BYTES}
use Rattle.cfb_file.specs.Refusals.{Refuses, writable}
use Rattle.store_images.specs.Changed.{changed_blocks}
use Rattle.store_model.specs.declared.fault.StoreFault.TheVariants.{TooBig}
use Rattle.read_files.specs.Reads.{MayRefuseFile}
use Rattle.tree_edits.specs.declared.change.Change.{Change}
use Rattle.tree_edits.specs.Edited.{RefusesEdit, edited, outside}
use Rattle.store_edits.specs.declared.fault.EditFault.{EditFault}
use Rattle.store_edits.specs.declared.fault.EditFault.TheVariants.{Store, Read, Line, Write}
use Rattle.store_edits.specs.declared.files.Renewed.{Renewed}

-- the tree that changes make of the one that a document denotes
abbrev pub MakesTree : List (ℕ × Change) → List ℕ → Kept → Type 0
MakesTree changes document k = (t : Tree) × ∥ Denotes document t ∥₁ × (edited changes (outside t) ≡ Ok k)

-- These bytes are a file of it.
abbrev pub IsEdit : List (ℕ × Change) → (document bytes : List ℕ) → Type 0
IsEdit changes document bytes = (k : Kept) × MakesTree changes document k × ∥ Denotes bytes k.now ∥₁

-- a file of a tree in the place of another
pub record IsUpdate (document : List ℕ) (t : Tree) (u : Renewed) : Type 0 where
  pub denotes : ∥ Denotes u.image t ∥₁
  pub counted : u.blocks ≡ length (changed_blocks document u.image)

-- when there is none
abbrev pub MayRefuseTree : List ℕ → Tree → EditFault → Type 0
MayRefuseTree document t (Read fault) = MayRefuseFile document fault
MayRefuseTree document t (Line n fault) = ⊥
MayRefuseTree document t (Write fault) = Refuses (writable t) fault
MayRefuseTree document t (Store fault) = (fault ≡ TooBig) × (bytes : List ℕ) × ∥ Denotes bytes t ∥₁
    × (MOST_BYTES < length bytes)

-- when changes make no file of a document
abbrev pub MayRefuseUpdate : List (ℕ × Change) → List ℕ → EditFault → Type 0
MayRefuseUpdate changes document (Read fault) = MayRefuseFile document fault
MayRefuseUpdate changes document (Line n fault) = (t : Tree) × ∥ Denotes document t ∥₁
    × RefusesEdit changes (outside t) (n, fault)
MayRefuseUpdate changes document (Write fault) = (k : Kept) × MakesTree changes document k
    × Refuses (writable k.now) fault
MayRefuseUpdate changes document (Store fault) = (fault ≡ TooBig) × (bytes : List ℕ) × IsEdit changes document bytes
    × (MOST_BYTES < length bytes)
