use Rattle.std.proofs.Common.{length, ◌≤◌, ◌-◌, ℕ}
use Rattle.script_model.specs.Bounds.{pace}
use Rattle.script_links.specs.Going.{IsGoingOn, KeepsHeld}
use Rattle.script_links.specs.Ready.{AreDue, AreReady, HaveHad, IsUnderway}
use Rattle.script_links.proofs.turns.turn.Given as goal

abbrev pub invariant-loop-place : goal.invariant-loop-place
invariant-loop-place g l = record {
  going : IsGoingOn g.H.Disk.Disk (g.H.Host.told l.host) l.progress;
  each : (n : ℕ) → AreReady n (g.H.Host.told l.fn.host) l.fn.progress.links.items
      → IsUnderway n (g.H.Host.told l.host) l.progress.links.items l.place;
  kept : KeepsHeld (g.H.Host.told l.fn.host) (g.H.Host.told l.host) l.fn.progress.links.items l.progress.links.items;
  due : (n : ℕ) → AreDue n (g.H.Host.told l.fn.host) l.fn.progress.links.items
      → HaveHad n (g.H.Host.told l.host) l.progress.links.items l.place;
  anew : (s : ℕ) → (pace s (g.H.Host.told l.fn.host)).links ≤ (pace s (g.H.Host.told l.host)).links;
}

abbrev pub decreases-loop-place : goal.decreases-loop-place
decreases-loop-place g l = length l.progress.links.items - l.place
