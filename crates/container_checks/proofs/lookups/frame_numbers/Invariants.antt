use Rattle.std.proofs.Common.{◌≡◌, ◌+◌, ◌-◌, ◌++◌, length}
use Rattle.std.specs.List.{range_with_len}
use Rattle.container_checks.proofs.lookups.frame_numbers.Given as goal

abbrev pub invariant-loop-i : goal.invariant-loop-i
invariant-loop-i l = l.numbers.items ++ range_with_len (l.i + 1) (length l.frames - l.i)
    ≡ range_with_len 1 (length l.frames)
