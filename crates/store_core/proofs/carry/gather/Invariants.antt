use Rattle.std.proofs.Common.{◌-◌, ◌≡◌, ◌≤◌, ◌*◌, length, take}
use Rattle.store_model.specs.Journal.{block_at, blocks_from}
use Rattle.store_model.specs.Patches.{Follow, joined}
use Rattle.store_core.proofs.carry.gather.Given as goal

abbrev pub invariant-loop-taken : goal.invariant-loop-taken
invariant-loop-taken l = record {
  within : l.taken ≤ l.all;
  run : length l.run ≡ length l.fn.run;
  follow : Follow (block_at 0 l.entries).number (blocks_from l.taken 0 l.entries);
  joined : take (512 * l.taken) l.run ≡ joined (blocks_from l.taken 0 l.entries);
}

abbrev pub decreases-loop-taken : goal.decreases-loop-taken
decreases-loop-taken l = l.all - l.taken
