use Rattle.world_host.proofs.Stopping.{LackNone}
use Rattle.world_host.proofs.host.Host.may_stop.Given as goal

abbrev pub invariant-loop-i : goal.invariant-loop-i
invariant-loop-i l = LackNone l.self.core l.frames l.i
