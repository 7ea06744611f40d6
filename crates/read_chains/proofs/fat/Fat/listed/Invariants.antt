use Rattle.std.proofs.Common.{◌≡◌, ◌+◌, ℕ, List, get_or, ◌-◌, length}
use Rattle.std.specs.List.{All}
use Rattle.cfb_chains.specs.Chain.{Leads, END_OF_CHAIN}
use Rattle.cfb_chains.specs.Fat.{IsFree}
use Rattle.read_chains.proofs.fat.Fat.listed.Given as goal

abbrev pub invariant-loop-at : goal.invariant-loop-at
invariant-loop-at l = (rest : List ℕ) × Leads (λ n. get_or l.self.table n 0) l.start l.sectors.items l.at
    × Leads (λ n. get_or l.self.table n 0) l.at rest END_OF_CHAIN × All (IsFree l.self) l.sectors.items
    × All (IsFree l.self) rest
    × (length l.sectors.items + length rest ≡ l.count)

abbrev pub decreases-loop-at : goal.decreases-loop-at
decreases-loop-at l = l.count - length l.sectors.items
