-- Blocks of bytes, one of which is being filled.
use Rattle.std.specs.Prelude.{◌≡◌, ◌≤◌, ◌<◌, ℕ, zero, suc, List, [], ◌∷◌, get_or, length, take}

-- blocks with this one in a place among them, or behind them
abbrev pub laid : List (List ℕ) → ℕ → List ℕ → List (List ℕ)
laid [] at block = block ∷ []
laid (b ∷ blocks) zero block = block ∷ blocks
laid (b ∷ blocks) (suc at) block = b ∷ laid blocks at block

-- Bytes were put only behind the blocks' own, and blocks only behind them.
pub record Grows (old new : List (List ℕ)) : Type 0 where
  pub more : length old ≤ length new
  pub kept : (k : ℕ) → k < length old → take (length (get_or old k [])) (get_or new k []) ≡ get_or old k []
