use Rattle.std.proofs.Common.{◌≡◌, take}
use Rattle.cfb_chains.specs.Fat.{set_all}
use Rattle.read_chains.proofs.fat.Fat.mark.Given as goal

abbrev pub invariant-loop-n : goal.invariant-loop-n
invariant-loop-n l =
    (l.self-inside.next ≡ l.initial.self-inside.next) × (l.self-inside.pieces ≡ l.initial.self-inside.pieces)
    × (l.self-inside.used.items ≡ set_all l.initial.self-inside.used.items (take l.n-index l.sectors))
