-- Chains of sectors, each naming the next (MS-CFB 2.1, 2.3, 2.4).
use Rattle.std.specs.Prelude.{◌≡◌, ◌<◌, ◌≤◌, ◌*◌, ℕ, zero, suc, List, [], ◌∷◌, length}
use Rattle.std.specs.List.{All}
pub use Rattle.cfb_bytes.specs.Marks.{AreDistinct}
pub use Rattle.cfb_header.specs.Header.{END_OF_CHAIN}

-- the value of a sector that isn't used
abbrev pub FREE_SECTOR : ℕ
FREE_SECTOR = 0xFFFFFFFF

-- the value of a sector that holds a part of the FAT, and of one that lists sectors of the FAT
abbrev pub FAT_SECTOR : ℕ
FAT_SECTOR = 0xFFFFFFFD

abbrev pub DIFAT_SECTOR : ℕ
DIFAT_SECTOR = 0xFFFFFFFC

-- The sectors of a file, or the mini sectors of its mini stream: how many there are, of how many bytes, the bytes
-- of each, and the table of what follows each.
pub record Store : Type 0 where
  pub count : ℕ
  pub width : ℕ
  pub piece : ℕ → List ℕ
  pub next : ℕ → ℕ

-- from `start` the sectors are met one after another, and after them `last`
abbrev pub Leads : (ℕ → ℕ) → ℕ → List ℕ → ℕ → Type 0
Leads next start [] last = start ≡ last
Leads next start (n ∷ ns) last = (start ≡ n) × Leads next (next n) ns last

-- the number of a sector that is there
abbrev pub IsPresent : Store → ℕ → Type 0
IsPresent s n = (n ≤ 0xFFFFFFF9) × (n < s.count)

-- the whole chain from `start`, which has room for some bytes
pub record IsChain (s : Store) (start : ℕ) (bytes : ℕ) (ns : List ℕ) : Type 0 where
  pub linked : Leads s.next start ns END_OF_CHAIN
  pub present : All (IsPresent s) ns
  pub enough : bytes ≤ s.width * length ns

-- a chain, or none where there is nothing
abbrev pub IsChainOf : Store → ℕ → ℕ → List ℕ → Type 0
IsChainOf s start zero ns = ns ≡ []
IsChainOf s start (suc n) ns = IsChain s start (suc n) ns
