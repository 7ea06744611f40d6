use Rattle.std.proofs.Common.{◌≡◌, length}
use Rattle.std.specs.Option.{is_some}
use Rattle.object_kinds.specs.Listed.{behind, entries_of}
use Rattle.object_kinds.proofs.entries.are_entries.Given as goal

abbrev pub invariant-loop-rest : goal.invariant-loop-rest
invariant-loop-rest l = is_some (behind l.place (entries_of l.rest)) ≡ is_some (behind 0 (entries_of l.fn.bytes))

abbrev pub decreases-loop-rest : goal.decreases-loop-rest
decreases-loop-rest l = length l.rest
