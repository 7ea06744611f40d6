use Rattle.std.proofs.Math.Logic.{∥∥₁_map}
use Rattle.tree_storage.proofs.tree.Tree.from_root.Goals as goal

pub invariant_of-result : goal.invariant_of-result
invariant_of-result c = record { whole = ∥∥₁_map c.requires (λ w. (w, rw c.new.ensures.items tt)) }
