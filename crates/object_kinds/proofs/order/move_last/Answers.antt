use Rattle.std.proofs.Common.{length, refl, ◌-◌}
use Rattle.object_kinds.proofs.Moved.{turned}
use Rattle.object_kinds.proofs.order.move_last.Goals as goal

pub returns : goal.returns
returns c =
    turned c.args.index (length c.args.figures.now - c.args.index) c.args.figures.now c.rotate_left.new.self refl
    c.requires c.rotate_left.ensures.after
