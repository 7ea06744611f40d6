use Rattle.std.proofs.Common.{◌≡◌, ◌-◌}
use Rattle.cfb_chains.proofs.Followed.{Marking}
use Rattle.read_chains.proofs.fat.Fat.mark_from.Given as goal

abbrev pub invariant-loop : goal.invariant-loop
invariant-loop l =
    (l.self-inside.next ≡ l.initial.self-inside.next) × (l.self-inside.pieces ≡ l.initial.self-inside.pieces)
    × Marking l.initial.self-inside.next l.start l.at (l.count - l.counter) l.initial.self-inside.used.items
    l.self-inside.used.items
