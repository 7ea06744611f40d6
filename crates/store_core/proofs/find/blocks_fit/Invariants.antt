use Rattle.std.proofs.Common.{◌-◌, ◌≡◌, ◌≤◌, ◌+◌, ◌*◌, ◌^◌}
use Rattle.store_model.specs.Crash.{Quiet}
use Rattle.store_model.specs.Journal.{blocks_from, fit}
use Rattle.store_core.proofs.find.blocks_fit.Given as goal

abbrev pub invariant-loop-index : goal.invariant-loop-index
invariant-loop-index g l = record {
  within : l.index ≤ l.count;
  small : l.least ≤ 2 ^ 32;
  same : g.D.Disk.follows_model → g.D.Disk.reads l.disk ≡ g.D.Disk.reads l.fn.disk;
  quiet : g.D.Disk.follows_model → Quiet g.D.Disk.may_leave g.D.Disk.moment g.D.Disk.left_since l.fn.disk l.disk;
  fits : g.D.Disk.follows_model → fit l.size 0 l.end (blocks_from l.count 13 (g.D.Disk.reads l.fn.disk).journal)
      ≡ fit l.size l.least l.reached (blocks_from (l.count - l.index) (13 + 516 * l.index)
      (g.D.Disk.reads l.fn.disk).journal);
  count : g.D.Disk.failed l.disk ≡ g.D.Disk.failed l.fn.disk;
}

abbrev pub decreases-loop-index : goal.decreases-loop-index
decreases-loop-index g l = l.count - l.index
