use Rattle.std.proofs.Common.{◌<◌, ◌≢◌, ℕ, slice_index}
use Rattle.cfb_chains.specs.Chain.{FREE_SECTOR}
use Rattle.cfb_chains.specs.Fat.{IsFree}
use Rattle.read_chains.proofs.fat.Fat.free_sector.Given as goal

abbrev pub invariant-loop-n : goal.invariant-loop-n
invariant-loop-n l = (k : ℕ) → k < l.n → IsFree l.self k → slice_index l.self.table k ≢ FREE_SECTOR
