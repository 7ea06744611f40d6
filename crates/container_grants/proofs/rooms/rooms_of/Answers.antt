use Rattle.std.proofs.Common.{arith}
use Rattle.container_grants.proofs.AskedAway.{rooms_end}
use Rattle.container_grants.proofs.rooms.rooms_of.Goals as goal

pub returns : goal.returns
returns c = rooms_end c.args.more c.args.f c.args.objects.now c.loop-object.object-index c.loop-object.rooms.items
    (omega arith) c.loop-object.invariant
