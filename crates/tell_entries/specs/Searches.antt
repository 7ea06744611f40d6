-- The search of a directory for an entry with a fault of its own: each entry that links reach is met once, whatever
-- else is wrong with the links.
use Rattle.std.specs.Prelude.{◌≡◌, ◌≢◌, ◌⊎◌, ◌<◌, ◌≤◌, ◌+◌, ◌*◌, ℕ, Bool, false, List, get_or, length, replicate}
use Rattle.std.specs.Prelude.{slice_index, slice_index_or, true}
use Rattle.std.specs.List.{All, Contains}
use Rattle.cfb_bytes.specs.Marks.{AreDistinct, set_all}
use Rattle.cfb_entries.specs.Entries.{MayRefuseEntry, NO_STREAM, Reaches, child, entry_at, left, right}
use Rattle.cfb_names.specs.declared.fault.DirFault.{DirFault}
use Rattle.cfb_names.specs.declared.fault.DirFault.TheVariants as directory
use Rattle.cfb_faults.specs.Faults.{IsChild, IsStorage, LeadsOutside}
use Rattle.tell_entries.specs.Ways.{IsWay, end_of}
use Rattle.tell_entries.specs.declared.searching.Ahead.{Ahead}

-- The entries that were met: the root, and others each a child of one that was met before it, all different.
pub record AreMet (dir ids parents : List ℕ) : Type 0 where
  pub root : slice_index ids 0 ≡ 0
  pub some : 0 < length ids
  pub each : length parents ≡ length ids
  pub before : (k : ℕ) → 0 < k → k < length ids → slice_index parents k < k
  pub children : (k : ℕ) → 0 < k → k < length ids → IsChild dir (slice_index ids (slice_index parents k))
      (slice_index ids k)
  pub once : AreDistinct ids

-- a link that is still to be followed: one of a storage that was met
pub record IsAhead (dir ids : List ℕ) (a : Ahead) : Type 0 where
  pub met : a.parent < length ids
  pub storage : IsStorage dir (slice_index ids a.parent)
  pub reached : Reaches dir (child (entry_at dir (slice_index ids a.parent))) a.to

-- one of the links that are still to be followed leads there
abbrev pub Waits : List Ahead → ℕ → Type 0
Waits ahead n = (k : ℕ) × (k < length ahead) × ((d : Ahead) → (get_or ahead k d).to ≡ n)

-- the links that are added for the children of an entry below the root: its own, where it is a storage
pub record IsOpening (dir : List ℕ) (id place : ℕ) (more : List Ahead) : Type 0 where
  pub few : length more ≤ 1
  pub own : All (λ (a : Ahead). (a.parent ≡ place) × (a.to ≡ child (entry_at dir id)) × IsStorage dir id) more
  pub some : IsStorage dir id → Waits more (child (entry_at dir id))

-- A link that is done with, or waits: it leads to nobody, outside where that isn't what is looked for, or to an entry
-- whose own links were added.
abbrev pub IsFollowed : List ℕ → DirFault → List ℕ → List Ahead → ℕ → Type 0
IsFollowed dir fault linked ahead n = (n ≡ NO_STREAM) ⊎ ((length dir ≤ 128 * n) × (fault ≢ directory.BadEntry))
    ⊎ Contains linked n ⊎ Waits ahead n

-- What a search has come to: the entries that were met, none of which has the fault, which entries' links were added,
-- how many others there are, and the links that wait.
pub record IsSearch (dir : List ℕ) (fault : DirFault) (ids parents : List ℕ) (seen : List Bool) (ahead : List Ahead)
    (unseen : ℕ) : Type 0 where
  pub met : AreMet dir ids parents
  pub links : All (IsAhead dir ids) ahead
  pub linked : List ℕ
  pub once : AreDistinct linked
  pub below : All (λ n. n < length seen) linked
  pub sized : length dir ≡ 128 * length seen
  pub marks : seen ≡ set_all (replicate (length seen) false) linked
  pub rest : unseen + length linked ≡ length seen
  pub listed : (n : ℕ) → Contains ids n → (n ≡ 0) ⊎ Contains linked n
  pub noted : (n : ℕ) → Contains linked n → (n ≡ 0) ⊎ Contains ids n
  pub lefts : (n : ℕ) → Contains linked n → IsFollowed dir fault linked ahead (left (entry_at dir n))
  pub rights : (n : ℕ) → Contains linked n → IsFollowed dir fault linked ahead (right (entry_at dir n))
  pub free : (k : ℕ) → k < length ids → MayRefuseEntry dir (slice_index ids k) fault → ⊥
  pub children : (k : ℕ) → k < length ids → IsStorage dir (slice_index ids k)
      → IsFollowed dir fault linked ahead (child (entry_at dir (slice_index ids k)))

-- All entries that links reach were met, and marks tell which these are but for the root.
pub record AreAllMet (dir ids parents : List ℕ) (seen : List Bool) : Type 0 where
  pub met : AreMet dir ids parents
  pub sized : length dir ≡ 128 * length seen
  pub marked : (n : ℕ) → n ≢ 0 → n < length seen → slice_index_or seen n true ≡ true → Contains ids n
  pub reached : (way : List ℕ) → IsWay dir way → end_of way ≢ 0
      → (end_of way < length seen) × (slice_index_or seen (end_of way) true ≡ true)

-- What is found to be wrong with an entry that was met, of which the search tells its place among them.
abbrev pub IsMetAtFault : List ℕ → DirFault → List ℕ → ℕ → Type 0
IsMetAtFault dir fault ids k = (k < length ids)
    × (MayRefuseEntry dir (slice_index ids k) fault
    ⊎ ((fault ≡ directory.BadEntry) × LeadsOutside dir (slice_index ids k)))

-- the same of the entry of a way
abbrev pub IsWayAtFault : List ℕ → DirFault → List ℕ → Type 0
IsWayAtFault dir fault way = MayRefuseEntry dir (end_of way) fault
    ⊎ ((fault ≡ directory.BadEntry) × LeadsOutside dir (end_of way))
