use Rattle.std.proofs.Common.{◌-◌, ◌≡◌, ◌≤◌, length, take}
use Rattle.store_model.specs.Crash.{Quiet}
use Rattle.store_core.proofs.held.holds_document.Given as goal

abbrev pub invariant-loop-done : goal.invariant-loop-done
invariant-loop-done g l = record {
  piece : length l.piece ≡ 65536;
  within : l.done ≤ l.all;
  same : g.D.Disk.follows_model → g.D.Disk.reads l.disk ≡ g.D.Disk.reads l.fn.disk;
  quiet : g.D.Disk.follows_model → Quiet g.D.Disk.may_leave g.D.Disk.moment g.D.Disk.left_since l.fn.disk l.disk;
  told : g.D.Disk.follows_model → take l.done (g.D.Disk.reads l.fn.disk).document ≡ take l.done l.document;
  count : g.D.Disk.failed l.disk ≡ g.D.Disk.failed l.fn.disk;
}

abbrev pub decreases-loop-done : goal.decreases-loop-done
decreases-loop-done g l = l.all - l.done
