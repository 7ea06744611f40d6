use Rattle.std.proofs.Common.{◌≡◌, Bool, ℕ, drop}
use Rattle.script_model.specs.Courses.{but_starts, course, starts_in}
use Rattle.script_container.specs.Servers.{turned}
use Rattle.script_links.specs.Going.{IsGoingOn}
use Rattle.script_links.specs.Links.{AreHeld}
use Rattle.script_commands.specs.Starts.{AreIn}
use Rattle.script_commands.proofs.launching.start_asked.Given as goal

abbrev pub invariant-loop-action : goal.invariant-loop-action
invariant-loop-action g l = record {
  going : IsGoingOn g.H.Disk.Disk (g.H.Host.told l.host) l.progress;
  same : l.progress.core ≡ l.fn.progress.core;
  turning : turned (g.H.Host.told l.host) ≡ turned (g.H.Host.told l.fn.host);
  holding : (f : ℕ → Bool) → AreHeld f l.fn.progress.links.items → AreHeld f l.progress.links.items;
  ordered : but_starts (course (g.H.Host.told l.host)) ≡ but_starts (course (g.H.Host.told l.fn.host));
  wanted : AreIn (course (g.H.Host.told l.host)).unstarted (starts_in (drop l.action-index l.answer.actions));
}
