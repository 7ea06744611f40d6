-- Numbers and blocks in a file, which is the list of its bytes (MS-CFB 1.3.4).
use Rattle.std.specs.Prelude.{ℕ, ◌-◌, List, ◌++◌, length, take, drop, replicate}
use Rattle.std.specs.Int.{w16, w32, from_le_bytes}

-- the number in two bytes, or in four, at a place, least byte first
unfoldable pub u16_at : List ℕ → ℕ → ℕ
u16_at bytes at = from_le_bytes w16 (take 2 (drop at bytes))

unfoldable pub u32_at : List ℕ → ℕ → ℕ
u32_at bytes at = from_le_bytes w32 (take 4 (drop at bytes))

-- `size` bytes from a place, zero bytes standing for those past the end
unfoldable pub block : ℕ → List ℕ → ℕ → List ℕ
block size bytes at = take size (drop at bytes) ++ replicate (size - length (drop at bytes)) 0
