use Rattle.std.proofs.Common.{◌≡◌, ◌≤◌, length}
use Rattle.object_kinds.specs.Lines.{shapes_on}
use Rattle.object_kinds.proofs.Listed.{are_few}
use Rattle.object_kinds.proofs.stored.is_drawing.Given as goal

abbrev pub invariant-loop-rest : goal.invariant-loop-rest
invariant-loop-rest l = record {
  small : l.count ≤ 256;
  same : are_few l.count (shapes_on l.rest) ≡ are_few 0 (shapes_on l.bytes);
}

abbrev pub decreases-loop-rest : goal.decreases-loop-rest
decreases-loop-rest l = length l.rest
