use Rattle.std.proofs.Common.{◌≡◌, Bool, ℕ}
use Rattle.script_model.specs.Courses.{course}
use Rattle.script_container.specs.Servers.{turned}
use Rattle.script_links.specs.Going.{IsGoingOn}
use Rattle.script_links.specs.Links.{HoldFor}
use Rattle.script_commands.proofs.ending.end_asked.Given as goal

abbrev pub invariant-loop-action : goal.invariant-loop-action
invariant-loop-action g l = record {
  going : IsGoingOn g.H.Disk.Disk (g.H.Host.told l.host) l.progress;
  turning : turned (g.H.Host.told l.host) ≡ turned (g.H.Host.told l.fn.host);
  holding : (f : ℕ → Bool) → HoldFor f l.fn.progress.links.items → HoldFor f l.progress.links.items;
  ordered : course (g.H.Host.told l.host) ≡ course (g.H.Host.told l.fn.host);
}
