use Rattle.std.proofs.Common.{◌≡◌, ◌++◌}
use Rattle.object_core.specs.Content.{stream_bytes, table}
use Rattle.object_kinds.specs.Placed.{entries_at}
use Rattle.object_kinds.proofs.table_lines.stream.Given as goal

abbrev pub invariant-loop-place : goal.invariant-loop-place
invariant-loop-place l = l.bytes.items ++ stream_bytes (table (entries_at l.place-iterator))
    ≡ stream_bytes (table (entries_at l.cells.entries))
