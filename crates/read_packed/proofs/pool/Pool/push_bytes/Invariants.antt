use Rattle.std.proofs.Common.{◌≡◌, ◌++◌, drop, take}
use Rattle.read_packed.proofs.pool.Pool.push_bytes.Given as goal

abbrev pub invariant-loop-k : goal.invariant-loop-k
invariant-loop-k l = l.out.items ≡ l.initial.out.items ++ take l.k (drop l.at l.self)
