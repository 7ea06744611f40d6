use Rattle.std.proofs.Common.{◌≡◌, ◌++◌, length, nat_le, true}
use Rattle.std.specs.Prelude.{option_map}
use Rattle.std.specs.List.{list_all}
use Rattle.object_kinds.specs.Listed.{behind, entries_of}
use Rattle.object_kinds.specs.Placed.{entries_at}
use Rattle.object_kinds.proofs.entries.collect.Given as goal

abbrev pub invariant-loop-rest : goal.invariant-loop-rest
invariant-loop-rest l = record {
  whole : option_map (λ es. entries_at l.cells.entries ++ es) (behind l.place (entries_of l.rest))
      ≡ behind 0 (entries_of l.fn.bytes);
  before : list_all (λ e. nat_le e.0 l.place) l.cells.entries ≡ true;
}

abbrev pub decreases-loop-rest : goal.decreases-loop-rest
decreases-loop-rest l = length l.rest
