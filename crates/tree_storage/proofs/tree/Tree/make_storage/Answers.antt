use Rattle.std.proofs.Common.{ℕ, nat_le, ◌≡◌, ◌≤◌, length, true, arith}
use Rattle.std.proofs.Math.Logic.{∥∥₁_map}
use Rattle.tree_storage.specs.View.{view}
use Rattle.tree_storage.specs.declared.storage.Edit.TheVariants.{Make}
use Rattle.tree_storage.proofs.Wholes.{outcome_keeps}
use Rattle.tree_storage.proofs.tree.Tree.make_storage.Goals as goal

le_from : (a b : ℕ) → nat_le a b ≡ true → a ≤ b
le_from a b h = grind (arith, h)

pub invariant_of-self : goal.invariant_of-self
invariant_of-self c =
    record {
      whole = ∥∥₁_map c.args.self.now.whole
          (λ w. (
            outcome_keeps c.edit_at.result (Make c.args.class c.args.state (nat_le (length c.args.path.now) 32))
                c.args.path.now (view c.args.self.now.root) (view c.edit_at.new.storage) c.edit_at.ensures.names
                (λ h. le_from _ _ h) w.0 c.edit_at.ensures.change,
            w.1,
          ));
    }
