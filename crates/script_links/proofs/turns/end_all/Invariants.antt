use Rattle.std.proofs.Common.{◌≡◌}
use Rattle.script_model.specs.Errors.{before_ends}
use Rattle.script_model.specs.Orders.{orders}
use Rattle.script_links.specs.Going.{IsLawful}
use Rattle.script_links.specs.Links.{AreLinked}
use Rattle.script_links.proofs.turns.end_all.Given as goal

abbrev pub invariant-loop-link : goal.invariant-loop-link
invariant-loop-link g l = record {
  lawful : IsLawful g.H.Disk.Disk (g.H.Host.told l.host);
  linked : AreLinked (g.H.Host.told l.host) l.links.items;
  ends : before_ends (g.H.Host.told l.host) ≡ before_ends (g.H.Host.told l.fn.host);
  ordered : orders (g.H.Host.told l.host) ≡ orders (g.H.Host.told l.fn.host);
}

abbrev pub decreases-loop-link : goal.decreases-loop-link
decreases-loop-link g l = goal.left-loop-link g l
