-- Which blocks of 512 bytes change as one file takes another's place.
use Rattle.std.specs.Prelude.{ℕ, List, [], ◌∷◌, ◌++◌, ◌-◌, length, map, replicate, take, if◌then◌else◌}
use Rattle.std.specs.Str.{bytes_eq}
use Rattle.store_model.specs.Changes.{changes, changes_from}

-- the number of a block, unless it had the same bytes, and as many
abbrev pub numbers_between : ℕ → List ℕ → List ℕ → List ℕ
numbers_between n was now = if bytes_eq was now then [] else n ∷ []

-- The numbers of the blocks of the new file that differ from the old one's, or that are new, rising: those that a
-- commit of the one over the other writes.
abbrev pub changed_blocks : List ℕ → List ℕ → List ℕ
changed_blocks old new = map (λ b. b.number) (changes old new)

-- those of its first n blocks
abbrev pub changed_before : ℕ → List ℕ → List ℕ → List ℕ
changed_before n old new = map (λ b. b.number) (changes_from 0 n old new)

-- A block with these bytes: the first 512 of them, and zeros where they are fewer.
abbrev pub whole_block : List ℕ → List ℕ
whole_block bytes = take 512 bytes ++ replicate (512 - length (take 512 bytes)) 0
