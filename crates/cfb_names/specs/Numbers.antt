-- Keys a few bytes at a time: as numbers, which are ordered as the bytes are.
use Rattle.std.specs.Prelude.{◌≡◌, ◌<◌, ◌+◌, ◌*◌, ℕ, List, [], ◌∷◌, length, take, drop, slice_index_or}

-- the number that bytes spell behind another, the first of them worth most
abbrev pub spelled : ℕ → List ℕ → ℕ
spelled n [] = n
spelled n (b ∷ bytes) = spelled (n * 256 + b) bytes

-- eight bytes of a key as a number
unfoldable pub eight : List ℕ → ℕ → ℕ
eight key at = spelled 0 (take 8 (drop at key))

-- each number is one of a byte, and there are as many as a key has
pub record AreBytes (key : List ℕ) : Type 0 where
  pub small : (k : ℕ) → slice_index_or key k 0 < 256
  pub count : length key ≡ 32
