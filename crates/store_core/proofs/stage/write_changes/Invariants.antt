use Rattle.std.proofs.Common.{◌-◌, ◌≡◌, ◌≤◌, ◌+◌, ◌*◌, ◌++◌, length, take}
use Rattle.store_model.specs.Changes.{changes_from, spelled}
use Rattle.store_model.specs.Crash.{StaysIn}
use Rattle.store_core.specs.Steps.{IsStaging}
use Rattle.store_core.proofs.stage.write_changes.Given as goal

abbrev pub invariant-loop-first : goal.invariant-loop-first
invariant-loop-first g l = record {
  held : length l.held ≡ 65536;
  out : length l.out ≡ 66048;
  within : l.first ≤ l.blocks;
  few : l.count ≤ l.first;
  stays : g.D.Disk.follows_model → StaysIn g.D.Disk.may_leave g.D.Disk.moment g.D.Disk.left_since l.fn.disk l.disk
      (IsStaging (g.D.Disk.reads l.fn.disk));
  document : g.D.Disk.follows_model → (g.D.Disk.reads l.disk).document ≡ (g.D.Disk.reads l.fn.disk).document;
  reached : g.D.Disk.follows_model → 13 + 516 * l.count ≤ length (g.D.Disk.reads l.disk).journal;
  blocks : g.D.Disk.follows_model
      → l.count ≡ length (changes_from 0 l.first (g.D.Disk.reads l.fn.disk).document l.document);
  written : g.D.Disk.follows_model → take (13 + 516 * l.count) (g.D.Disk.reads l.disk).journal
      ≡ take 13 (g.D.Disk.reads l.fn.disk).journal ++ spelled
      (changes_from 0 l.first (g.D.Disk.reads l.fn.disk).document l.document);
  count : g.D.Disk.failed l.disk ≡ g.D.Disk.failed l.fn.disk;
}

abbrev pub decreases-loop-first : goal.decreases-loop-first
decreases-loop-first g l = l.blocks - l.first
