use Rattle.std.proofs.Common.{◌-◌, ◌≡◌, ◌≤◌, length, take, drop}
use Rattle.store_model.specs.Crash.{StaysIn}
use Rattle.store_core.specs.Steps.{IsInstalling}
use Rattle.store_core.proofs.carry.write_whole.Given as goal

abbrev pub invariant-loop-done : goal.invariant-loop-done
invariant-loop-done g l = record {
  piece : length l.piece ≡ 65536;
  within : l.done ≤ l.all;
  stays : g.D.Disk.follows_model → StaysIn g.D.Disk.may_leave g.D.Disk.moment g.D.Disk.left_since l.fn.disk l.disk
      (IsInstalling (g.D.Disk.reads l.fn.disk));
  reached : g.D.Disk.follows_model → l.done ≤ length (g.D.Disk.reads l.disk).document;
  copied : g.D.Disk.follows_model → take l.done (g.D.Disk.reads l.disk).document
      ≡ take l.done (drop 9 (g.D.Disk.reads l.fn.disk).journal);
  count : g.D.Disk.failed l.disk ≡ g.D.Disk.failed l.fn.disk;
}

abbrev pub decreases-loop-done : goal.decreases-loop-done
decreases-loop-done g l = l.all - l.done
