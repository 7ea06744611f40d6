use Rattle.std.proofs.Common.{◌≤◌, length, subst}
use Rattle.world_host.specs.View.{bare}
use Rattle.world_host.proofs.Stopping.{made_end}
use Rattle.world_host.proofs.host.Host.made_files.Goals as goal

pub returns : goal.returns
returns c = made_end (bare c.args.self.now) c.args.frames.now c.args.self.now.core.frames c.loop-i.i c.loop-i.made.items
    (subst (λ frames. length frames ≤ c.loop-i.i) c.all_frames-frame-items.ensures c.loop-i-test.false)
    c.loop-i.invariant
