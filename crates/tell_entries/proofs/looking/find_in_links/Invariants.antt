use Rattle.std.specs.List.{All}
use Rattle.tell_entries.specs.Ways.{IsMet, IsWay}
use Rattle.tell_entries.proofs.looking.find_in_links.Given as goal

abbrev pub invariant-loop-at : goal.invariant-loop-at
invariant-loop-at l = All (λ w. IsWay l.directory w.items) l.search.ways.items
    × IsMet l.directory l.search.entries l.search.opened.items
