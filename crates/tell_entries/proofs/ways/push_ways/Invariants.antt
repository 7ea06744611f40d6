use Rattle.std.specs.List.{All}
use Rattle.tell_entries.specs.Ways.{IsWay}
use Rattle.tell_entries.proofs.ways.push_ways.Given as goal

abbrev pub invariant-loop-child : goal.invariant-loop-child
invariant-loop-child l = All (λ w. IsWay l.directory w.items) l.ways.items
