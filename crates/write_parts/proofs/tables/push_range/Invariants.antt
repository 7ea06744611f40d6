use Rattle.std.proofs.Common.{◌≡◌, ◌+◌, ◌-◌, ◌++◌}
use Rattle.std.specs.List.{range_with_len}
use Rattle.write_parts.proofs.tables.push_range.Given as goal

abbrev pub invariant-loop-n : goal.invariant-loop-n
invariant-loop-n l = l.numbers.items ++ range_with_len l.n (l.at + l.count - l.n) ≡ l.initial.numbers.items
    ++ range_with_len l.at l.count
