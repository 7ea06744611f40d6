use Rattle.std.proofs.Common.{◌-◌, ◌≡◌, ◌≤◌, ◌+◌, ◌*◌, length}
use Rattle.store_model.specs.Crash.{StaysIn}
use Rattle.store_model.specs.Journal.{blocks_from, changed_document}
use Rattle.store_model.specs.Patches.{Agrees}
use Rattle.store_core.specs.Steps.{IsInstalling}
use Rattle.store_core.proofs.carry.write_blocks.Given as goal

abbrev pub invariant-loop-done : goal.invariant-loop-done
invariant-loop-done g l = record {
  entries : length l.entries ≡ 65532;
  run : length l.run ≡ 65024;
  within : l.done ≤ l.all;
  some : 1 ≤ l.many;
  few : l.many ≤ 127;
  stays : g.D.Disk.follows_model → StaysIn g.D.Disk.may_leave g.D.Disk.moment g.D.Disk.left_since l.fn.disk l.disk
      (IsInstalling (g.D.Disk.reads l.fn.disk));
  agrees : g.D.Disk.follows_model → Agrees (changed_document (g.D.Disk.reads l.fn.disk)) l.size
      (blocks_from (l.all - l.done) (13 + 516 * l.done) (g.D.Disk.reads l.fn.disk).journal)
      (g.D.Disk.reads l.disk).document;
  count : g.D.Disk.failed l.disk ≡ g.D.Disk.failed l.fn.disk;
}

abbrev pub decreases-loop-done : goal.decreases-loop-done
decreases-loop-done g l = l.all - l.done
