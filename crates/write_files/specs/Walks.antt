-- What a walk over the children of a storage comes to.
use Rattle.std.specs.Prelude.{◌≡◌, ℕ, List, length}
use Rattle.tree_storage.specs.Child.{Seen, bytes, inner, child}
use Rattle.cfb_entries.specs.Tree.{Children, Tree}
use Rattle.write_files.specs.declared.walks.What.{What}
use Rattle.write_files.specs.declared.walks.What.TheVariants.{Stream, Storage}

-- what is told of a child: how many bytes a stream has, and what a storage stands for
abbrev pub Is : {B : Type 0} → (B → Tree) → What B → Seen → Type 0
Is stands (Stream size) (bytes b) = size ≡ length b
Is stands (Stream size) (inner t) = ⊥
Is stands (Storage s) (bytes b) = ⊥
Is stands (Storage s) (inner t) = stands s ≡ t

-- a walk steps over a child of this name, which is this
pub record Steps {B : Type 0} (stands : B → Tree) (old : Children) (name : List ℕ) (what : What B)
    (new : Children) : Type 0 where
  pub key : List ℕ
  pub seen : Seen
  pub first : old ≡ child key (name, seen) new
  pub is : Is stands what seen
