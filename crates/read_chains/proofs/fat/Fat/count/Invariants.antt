use Rattle.std.proofs.Common.{◌≡◌, ◌≤◌, ◌⊎◌, ℕ, List, get_or, ◌-◌, length}
use Rattle.std.specs.List.{All, Contains}
use Rattle.cfb_chains.specs.Chain.{Leads, END_OF_CHAIN}
use Rattle.cfb_chains.specs.Fat.{IsFree}
use Rattle.read_chains.proofs.fat.Fat.count.Given as goal

abbrev pub invariant-loop-at : goal.invariant-loop-at
invariant-loop-at l = (ns : List ℕ) × Leads (λ n. get_or l.self.table n 0) l.start ns l.at × All (IsFree l.self) ns
    × (length ns ≡ l.count) × (l.count ≤ length l.self.table) × ((l.met ≡ END_OF_CHAIN) ⊎ Contains ns l.met)

abbrev pub decreases-loop-at : goal.decreases-loop-at
decreases-loop-at l = length l.self.table - l.count
