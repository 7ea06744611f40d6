-- Files that a listing can't tell apart.
use Rattle.std.specs.Prelude.{◌≡◌, ◌*◌, ℕ, List, length, take}
use Rattle.std.specs.List.{All}
use Rattle.cfb_header.specs.Bytes.{sector}
use Rattle.cfb_chains.specs.Chain.{IsChain, IsChainOf}
use Rattle.cfb_chains.specs.Fat.{sectors_of}
use Rattle.cfb_header.specs.Header.{IsHeader, difat, first_directory, first_mini_fat, listed, mini_fat_count}

-- the same bytes in some sectors
abbrev pub AgreeOn : List ℕ → List ℕ → List ℕ → Type 0
AgreeOn a b ns = All (λ n. sector a n ≡ sector b n) ns

-- Two files that a listing can't tell apart: equally long, with the same header, and the same bytes in the sectors of
-- the DIFAT and of the FAT, of the directory's chain and of the mini FAT's.
pub record Alike (a b : List ℕ) : Type 0 where
  pub is_header : IsHeader a
  pub len : length a ≡ length b
  pub header : take 512 a ≡ take 512 b
  pub difat : AgreeOn a b (difat a)
  pub fat : AgreeOn a b (listed a)
  pub directory : (ns : List ℕ) → IsChain (sectors_of a (listed a)) (first_directory a) 0 ns → AgreeOn a b ns
  pub mini_fat : (ns : List ℕ) → IsChainOf (sectors_of a (listed a)) (first_mini_fat a) (512 * mini_fat_count a) ns
      → AgreeOn a b ns
