-- Where bytes lie in blocks.
use Rattle.std.specs.Prelude.{◌≡◌, ◌+◌, ◌≤◌, ◌<◌, ℕ, List, [], drop, get_or, length, take}
use Rattle.tree_rising.specs.declared.blocks.Spot.{Spot}

-- the bytes that lie there
abbrev pub bytes_at : List (List ℕ) → Spot → List ℕ
bytes_at blocks spot = take spot.len (drop spot.start (get_or blocks spot.block []))

-- it is a place within one of the blocks
pub record LiesIn (blocks : List (List ℕ)) (spot : Spot) : Type 0 where
  pub there : spot.block < length blocks
  pub inside : spot.start + spot.len ≤ length (get_or blocks spot.block [])

-- it is a place within one of the blocks, at which these bytes lie
pub record Holds (blocks : List (List ℕ)) (spot : Spot) (bytes : List ℕ) : Type 0 where
  pub lies : LiesIn blocks spot
  pub is : bytes_at blocks spot ≡ bytes
