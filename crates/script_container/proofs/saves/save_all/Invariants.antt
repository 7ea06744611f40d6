use Rattle.std.proofs.Common.{◌≡◌, take}
use Rattle.script_model.specs.Courses.{course}
use Rattle.script_container.specs.Done.{AreCarriedOut, OnlyDone}
use Rattle.script_container.specs.Known.{IsKnown}
use Rattle.script_container.specs.Servers.{servers}
use Rattle.script_container.proofs.saves.save_all.Given as goal

abbrev pub invariant-loop-action : goal.invariant-loop-action
invariant-loop-action g l = record {
  known : IsKnown g.H.Disk.Disk (g.H.Host.told l.host) l.core l.noticed;
  serving : servers (g.H.Host.told l.host) ≡ servers (g.H.Host.told l.fn.host);
  ordered : course (g.H.Host.told l.host) ≡ course (g.H.Host.told l.fn.host);
  others : OnlyDone l.fn.core l.core;
  done : AreCarriedOut l.fn.core l.core (take l.action-index l.action-items);
}
