use Rattle.std.proofs.Math.Logic.{∥∥₁_map}
use Rattle.tree_storage.proofs.Wholes.{all-front}
use Rattle.tree_storage.proofs.tree.Tree.commit.Goals as goal

pub invariant_of-self : goal.invariant_of-self
invariant_of-self c =
    record {
      whole = ∥∥₁_map c.args.self.now.whole
          (λ w. (w.0, all-front c.pop.new.self.items _ (rw c.pop.ensures.items at w.1)));
    }
