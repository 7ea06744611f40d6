-- Steps of building a tree of siblings.
use Rattle.std.specs.Prelude.{◌≡◌, ◌≢◌, ◌⊎◌, ◌<◌, ◌+◌, ℕ, List, [], ◌∷◌, length, map, slice_index, slice_index_or}
use Rattle.std.specs.List.{All}
use Rattle.cfb_names.specs.Names.{key}
use Rattle.cfb_names.specs.declared.fault.DirFault.{DirFault}
use Rattle.cfb_names.specs.declared.fault.DirFault.TheVariants.{DuplicateName, NoMemory}
use Rattle.cfb_entries.specs.SearchTree.{HasTwins}

-- the keys of names, each with its place
abbrev pub keyed_from : ℕ → List (List ℕ) → List (List ℕ × ℕ)
keyed_from at [] = []
keyed_from at (name ∷ names) = (key name, at) ∷ keyed_from (at + 1) names

abbrev pub keyed_names : List (List ℕ) → List (List ℕ × ℕ)
keyed_names names = keyed_from 0 names

abbrev pub places : List (List ℕ × ℕ) → List ℕ
places siblings = map (λ s. s.1) siblings

-- no two neighbours have one key
abbrev pub AllAdjacentApart : List (List ℕ × ℕ) → Type 0
AllAdjacentApart siblings = (k : ℕ) (d : List ℕ × ℕ) → k + 1 < length siblings
    → (slice_index_or siblings k d).0 ≢ (slice_index_or siblings (k + 1) d).0

-- two neighbours have one key
abbrev pub HasEqualNeighbours : List (List ℕ × ℕ) → Type 0
HasEqualNeighbours siblings = (k : ℕ) × (d : List ℕ × ℕ) × (k + 1 < length siblings)
    × ((slice_index_or siblings k d).0 ≡ (slice_index_or siblings (k + 1) d).0)

-- why names are refused before each two of them were looked at: two are equal in upper case, or memory is short
abbrev pub IsFirstRefusal : List (List ℕ) → DirFault → Type 0
IsFirstRefusal names fault = (fault ≡ NoMemory) ⊎ ((fault ≡ DuplicateName) × HasTwins names)

-- what stands elsewhere than at some places is kept
abbrev pub KeepsOthers : List ℕ → List ℕ → List ℕ → Type 0
KeepsOthers places old new = (k : ℕ) → All (λ m. m ≢ k) places → slice_index new k ≡ slice_index old k
