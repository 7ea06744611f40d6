use Rattle.std.proofs.Math.Logic.{∥∥₁_map}
use Rattle.tree_storage.proofs.tree.Tree.root.Goals as goal

pub returns-clause-whole : goal.returns-clause-whole
returns-clause-whole c = ∥∥₁_map c.args.self.now.whole (λ w. w.0)
