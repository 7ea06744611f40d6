use Rattle.std.proofs.Math.Logic.{∥∥₁_map}
use Rattle.tree_storage.specs.View.{view}
use Rattle.tree_storage.specs.declared.storage.Edit.TheVariants.{Add}
use Rattle.tree_storage.proofs.Wholes.{outcome_keeps}
use Rattle.tree_storage.proofs.tree.Tree.make_stream.Goals as goal

pub invariant_of-self : goal.invariant_of-self
invariant_of-self c =
    record {
      whole = ∥∥₁_map c.args.self.now.whole
          (λ w. (
            outcome_keeps c.edit_at.result (Add c.args.bytes) c.args.path.now (view c.args.self.now.root)
                (view c.edit_at.new.storage) c.edit_at.ensures.names tt w.0 c.edit_at.ensures.change,
            w.1,
          ));
    }
