use Rattle.std.proofs.Math.Logic.{∥∥₁_map}
use Rattle.tree_storage.specs.View.{view}
use Rattle.tree_edits.proofs.Marked.{outcome_keeps}
use Rattle.tree_edits.proofs.editing.set_mark.Goals as goal

pub from_root-requires : goal.from_root-requires
from_root-requires c =
    ∥∥₁_map c.into_root-root.ensures.whole (λ w. outcome_keeps c.mark_at-done.result c.args.mark c.args.path.now
    (view c.into_root-root.result) (view c.mark_at-done.new.storage) w c.mark_at-done.ensures)
