-- Sectors and mini sectors that follow one another.
use Rattle.std.specs.Prelude.{◌≡◌, ◌<◌, ◌≤◌, ◌+◌, ◌*◌, ◌/◌, ◌%◌, ℕ, zero, suc, List, [], ◌∷◌, length, map, nat_lt}
use Rattle.std.specs.Prelude.{if◌then◌else◌, slice_index}
use Rattle.std.specs.List.{range_with_len}
use Rattle.cfb_chains.specs.Chain.{END_OF_CHAIN, Store}
use Rattle.cfb_file.specs.Denotes.{Layout, sectors}

-- the FAT's entries of a file whose parts lie so
pub record IsFatOf (file : List ℕ) (l : Layout) (table : List ℕ) : Type 0 where
  pub few : length table ≤ END_OF_CHAIN
  pub count : length table ≡ (sectors file l).count
  pub next : (n : ℕ) → n < length table → slice_index table n ≡ (sectors file l).next n

-- what follows each sector of a store, as a table
abbrev pub table_of : Store → List ℕ
table_of s = map s.next (range_with_len 0 s.count)

-- so many numbers from one on, each followed by the next
abbrev pub walked : (ℕ → ℕ) → ℕ → ℕ → List ℕ
walked next at zero = []
walked next at (suc count) = at ∷ walked next (next at) count

-- where a mini sector begins, given the sectors of the mini stream
abbrev pub begins_at : List ℕ → ℕ → ℕ
begins_at mini_stream m = if nat_lt (m / 8) (length mini_stream) then 512 * (slice_index mini_stream (m / 8) + 1)
    + 64 * (m % 8) else 0
