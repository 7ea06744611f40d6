-- What the marks of a reader stand for.
use Rattle.std.specs.Prelude.{◌≡◌, ◌⊎◌, ◌<◌, ◌+◌, ◌*◌, ℕ, suc, Bool, true, false, List, ◌∷◌, length, nat_lt}
use Rattle.std.specs.Prelude.{slice_index_or}
use Rattle.std.specs.List.{Contains}
use Rattle.cfb_chains.specs.Chain.{AreDistinct, IsChainOf}
use Rattle.cfb_entries.specs.Entries.{entry_at, first_of, kind, size_of}
use Rattle.cfb_file.specs.Limits.{CUTOFF}
use Rattle.cfb_faults.specs.Faults.{Base, DEEPEST, IsBelow, IsChild, store_in}
use Rattle.read_files.specs.Reads.{IsTaken, base_of}
use Rattle.read_files.specs.declared.read.Reader.{Reader}

-- an entry is marked
abbrev pub IsMet : Reader → ℕ → Type 0
IsMet r n = slice_index_or r.entries.used n true ≡ true

-- and isn't one of those that are still to be read
abbrev pub IsBegun : Reader → List ℕ → ℕ → Type 0
IsBegun r pending n = IsMet r n × (Contains pending n → ⊥)

-- the child of a storage that was begun
pub record IsMetChild (dir : List ℕ) (r : Reader) (pending : List ℕ) (n : ℕ) : Type 0 where
  pub levels : ℕ
  pub parent : ℕ
  pub below : IsBelow dir levels parent
  pub begun : IsBegun r pending parent
  pub child_of : IsChild dir parent n

-- a sector, or a mini sector, in the chain of a stream that was read
pub record IsInRead (b : Base) (r : Reader) (pending : List ℕ) (short : Bool) (n : ℕ) : Type 0 where
  pub levels : ℕ
  pub other : ℕ
  pub below : IsBelow b.directory (suc levels) other
  pub begun : IsBegun r pending other
  pub is_stream : kind (entry_at b.directory other) ≡ 2
  pub in_table : nat_lt (size_of (entry_at b.directory other)) CUTOFF ≡ short
  pub ns : List ℕ
  pub is_chain : IsChainOf (store_in b (size_of (entry_at b.directory other)))
      (first_of (entry_at b.directory other)) (size_of (entry_at b.directory other)) ns
  pub there : Contains ns n

-- How far reading is. The entries that are still to be read are marked. A marked entry is the root, or a child of a
-- storage that was begun; a marked sector is of the system's own parts, or in the chain of a stream that was read, and
-- a marked mini sector in such a chain.
pub record IsUnderway (b : Base) (pending : List ℕ) (r : Reader) : Type 0 where
  pub base : b ≡ base_of b.own r
  pub once : AreDistinct pending
  pub waiting : (n : ℕ) → Contains pending n → IsMet r n
  pub met : (n : ℕ) → 128 * n < length b.directory → IsMet r n → (n ≡ 0) ⊎ IsMetChild b.directory r pending n
  pub taken : (n : ℕ) → IsTaken r.fat n → Contains b.own n ⊎ IsInRead b r pending false n
  pub taken_minis : (n : ℕ) → IsTaken r.mini n → IsInRead b r pending true n

-- an entry so many levels below the root, where it and those on the way to it are marked
pub record IsMetBelow (dir : List ℕ) (r : Reader) (levels id : ℕ) : Type 0 where
  pub below : IsBelow dir levels id
  pub met : (n : ℕ) → Contains (0 ∷ below.way) n → IsMet r n

-- An entry is to be read next, where it and what stands below it have room for so many levels.
pub record IsNext (b : Base) (room id : ℕ) (pending : List ℕ) (r : Reader) : Type 0 where
  pub levels : ℕ
  pub deep : levels + room ≡ suc DEEPEST
  pub stands : IsMetBelow b.directory r levels id
  pub underway : IsUnderway b (id ∷ pending) r
