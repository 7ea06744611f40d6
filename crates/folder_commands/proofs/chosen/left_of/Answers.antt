use Rattle.std.proofs.Common.{sym}
use Rattle.folder_commands.specs.Chosen.{one, step}
use Rattle.folder_commands.proofs.Picked.{left_next}
use Rattle.folder_commands.proofs.chosen.left_of.Goals as goal

pub loop-path-preserved : goal.loop-path-preserved
loop-path-preserved c =
    left_next (λ path. one (step c.args.key.now path)) c.args.paths.now c.loop-path.path-index c.path-item.result
    c.loop-path.left.items c.push_left.new.left.items c.loop-path-test.true (sym c.path-item.is)
    c.loop-path.invariant c.in_ok-push_left.ensures
