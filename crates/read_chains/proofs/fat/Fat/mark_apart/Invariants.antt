use Rattle.std.proofs.Common.{◌≡◌, take}
use Rattle.cfb_chains.specs.Fat.{AreFree, set_all}
use Rattle.read_chains.proofs.fat.Fat.mark_apart.Given as goal

abbrev pub invariant-loop-n : goal.invariant-loop-n
invariant-loop-n l = record {
  next : l.self-inside.next ≡ l.initial.self-inside.next;
  pieces : l.self-inside.pieces ≡ l.initial.self-inside.pieces;
  used : l.self-inside.used.items ≡ set_all l.initial.self-inside.used.items (take l.n-index l.sectors);
  free : AreFree l.fn.self (take l.n-index l.sectors);
}
