-- Balanced trees of siblings, which stand at the places of a list in name order (MS-CFB 2.6.4).
use Rattle.std.specs.Prelude.{◌≡◌, ◌<◌, ◌+◌, ◌-◌, ◌/◌, ℕ, List, [], ◌∷◌, ◌++◌, length, slice_index, slice_index_or}
use Rattle.std.specs.Prelude.{nat_eq, if◌then◌else◌}
use Rattle.std.specs.List.{AllPairs, range_with_len}
use Rattle.std.specs.List.Sorted.{IsPermutation}
use Rattle.std.specs.declared.cmp.Ordering.TheVariants.{Less, Equal}
use Rattle.cfb_names.specs.Names.{name_cmp}
use Rattle.cfb_names.specs.declared.fault.DirFault.{DirFault}
use Rattle.cfb_names.specs.declared.fault.DirFault.TheVariants.{DuplicateName, NoMemory}
use Rattle.cfb_entries.specs.declared.links.Links.{Links}
use Rattle.cfb_entries.specs.Entries.{NO_STREAM}

-- the place on top of those from `lo` up to `hi`
abbrev pub middle : ℕ → ℕ → ℕ
middle lo hi = lo + (hi - lo) / 2

-- The links of the places from `lo` up to `hi`, with the top: those before it are on its left, those after it on its
-- right.
pub data IsSearchTree (lefts rights : List ℕ) : ℕ → ℕ → ℕ → Type 0 where
  empty : (lo : ℕ) → IsSearchTree lefts rights lo lo NO_STREAM
  node : (lo hi : ℕ)
      → lo < hi
      → IsSearchTree lefts rights lo (middle lo hi) (slice_index lefts (middle lo hi))
      → IsSearchTree lefts rights (middle lo hi + 1) hi (slice_index rights (middle lo hi))
      → IsSearchTree lefts rights lo hi (middle lo hi)

-- Siblings that links reach from one: those on its left, itself, those on its right. It stands in their middle.
pub data IsTree (lefts rights : List ℕ) : ℕ → List ℕ → Type 0 where
  nobody : IsTree lefts rights NO_STREAM []
  somebody : (k : ℕ) (before after : List ℕ)
      → length before ≡ length (before ++ (k ∷ after)) / 2
      → IsTree lefts rights (slice_index lefts k) before
      → IsTree lefts rights (slice_index rights k) after
      → IsTree lefts rights k (before ++ (k ∷ after))

-- links of the siblings with these names, by the places of the names, a left and a right one for each: a balanced
-- search tree of just them
pub record IsBuilt (names : List (List ℕ)) (l : Links) : Type 0 where
  pub left_count : length l.left.items ≡ length names
  pub right_count : length l.right.items ≡ length names
  pub siblings : List ℕ
  pub tree : IsTree l.left.items l.right.items l.top siblings
  pub all : IsPermutation (range_with_len 0 (length names)) siblings
  pub ordered : AllPairs (λ j k. name_cmp (slice_index_or names j []) (slice_index_or names k []) ≡ Less) siblings

-- two names are equal in upper case
abbrev pub HasTwins : List (List ℕ) → Type 0
HasTwins names = (j : ℕ) × (k : ℕ) × (j < k) × (k < length names)
    × (name_cmp (slice_index_or names j []) (slice_index_or names k []) ≡ Equal)

-- When a fault may be answered for names: two of them are equal in upper case. Want of memory is told only where none
-- are.
abbrev pub MayRefuseBuild : List (List ℕ) → DirFault → Type 0
MayRefuseBuild names DuplicateName = HasTwins names
MayRefuseBuild names NoMemory = HasTwins names → ⊥
MayRefuseBuild names _ = ⊥

-- the link to the entry that stands for a place, or to nobody
abbrev pub link_to : (ℕ → ℕ) → ℕ → ℕ
link_to id_of place = if nat_eq place NO_STREAM then NO_STREAM else id_of place

-- other links have the same values outside the places from `lo` up to `hi`
pub record AreKept (old new : List ℕ) (lo hi : ℕ) : Type 0 where
  pub before : (k : ℕ) → k < lo → slice_index new k ≡ slice_index old k
  pub after : (k : ℕ) → hi < k + 1 → slice_index new k ≡ slice_index old k
