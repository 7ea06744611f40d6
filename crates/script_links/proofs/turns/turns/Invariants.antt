use Rattle.std.proofs.Common.{◌≤◌, ◌+◌, ℕ}
use Rattle.script_model.specs.Bounds.{pace}
use Rattle.script_links.specs.Going.{IsGoingOn, KeepsHeld}
use Rattle.script_links.specs.Ready.{AreDue, AreReady}
use Rattle.script_links.proofs.turns.turns.Given as goal

abbrev pub invariant-loop-done : goal.invariant-loop-done
invariant-loop-done g l = record {
  going : IsGoingOn g.H.Disk.Disk (g.H.Host.told l.host) l.progress;
  ready : AreReady (l.done + 1) (g.H.Host.told l.host) l.progress.links.items;
  kept : KeepsHeld (g.H.Host.told l.fn.host) (g.H.Host.told l.host) l.fn.progress.links.items l.progress.links.items;
  due : AreDue (l.done + 1) (g.H.Host.told l.host) l.progress.links.items;
  anew : (s : ℕ) → (pace s (g.H.Host.told l.fn.host)).links ≤ (pace s (g.H.Host.told l.host)).links;
}
