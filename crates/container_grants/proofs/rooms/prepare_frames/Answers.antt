use Rattle.std.proofs.Common.{arith}
use Rattle.container_grants.proofs.AskedAway.{frames_end}
use Rattle.container_grants.proofs.rooms.prepare_frames.Goals as goal

pub returns : goal.returns
returns c = frames_end c.args.more c.args.frames.now c.args.objects.now c.loop-i.i c.loop-i.all.items (omega arith)
    c.loop-i.invariant
