use Rattle.std.proofs.Common.{◌∷◌, [], ◌++◌, map, if◌then◌else◌, true, false}
use Rattle.std.proofs.Math.Logic.{∥∥₁_map}
use Rattle.std.specs.Result.{is_ok}
use Rattle.cfb_entries.specs.Whole.{AllWhole}
use Rattle.tree_storage.specs.View.{view}
use Rattle.tree_storage.proofs.Wholes.{all-push}
use Rattle.tree_storage.proofs.tree.Tree.begin.Goals as goal

pub invariant_of-self-2 : goal.invariant_of-self-2
invariant_of-self-2 c =
    record {
      whole = ∥∥₁_map c.args.self.now.whole
          (λ w. (
            w.0,
            rw c.push.ensures.items
                (elim (is_ok c.push.result) as (λ b. AllWhole
                (map view (if b then (c.args.self.now.saved.items ++ c.in-Ok.copy ∷ [])
                else c.args.self.now.saved.items))) [
                  | true ↦ all-push c.args.self.now.saved.items c.in-Ok.copy w.1 (rw c.in-Ok.ensures w.0)
                  | false ↦ w.1
                ]),
          ));
    }
