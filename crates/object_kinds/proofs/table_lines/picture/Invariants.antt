use Rattle.std.proofs.Common.{◌≡◌, ◌-◌, ◌++◌}
use Rattle.object_kinds.specs.Placed.{entries_at}
use Rattle.object_kinds.proofs.Written.{shown}
use Rattle.object_kinds.proofs.table_lines.picture.Given as goal

abbrev pub invariant-loop : goal.invariant-loop
invariant-loop l = l.lines.items ++ shown (20 - l.counter) (entries_at l.left) ≡ shown 20 (entries_at l.cells.entries)
