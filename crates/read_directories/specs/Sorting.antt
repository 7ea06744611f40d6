-- Entries with the keys of their names, and what they are refused for as the children of a storage.
use Rattle.std.specs.Prelude.{◌≡◌, ◌≢◌, ◌<◌, ◌+◌, ℕ, List, length, map, slice_index_or}
use Rattle.std.specs.List.{Contains}
use Rattle.cfb_entries.specs.Entries.{MayRefuseEntry}
use Rattle.cfb_names.specs.declared.fault.DirFault.{DirFault}
use Rattle.cfb_names.specs.declared.fault.DirFault.TheVariants.{DuplicateName}
use Rattle.cfb_faults.specs.Faults.{key_at}

-- entries, each behind the key of its name
abbrev pub keyed : List ℕ → List ℕ → List (List ℕ × ℕ)
keyed dir ids = map (λ id. (key_at dir id, id)) ids

abbrev pub places : List (List ℕ × ℕ) → List ℕ
places list = map (λ e. e.1) list

-- no two neighbours have one key
abbrev pub AllAdjacentApart : List (List ℕ × ℕ) → Type 0
AllAdjacentApart list = (k : ℕ) (d : List ℕ × ℕ) → k + 1 < length list → (slice_index_or list k d).0
    ≢ (slice_index_or list (k + 1) d).0

-- two neighbours have one key
abbrev pub HasEqualNeighbours : List (List ℕ × ℕ) → Type 0
HasEqualNeighbours list = (k : ℕ) × (d : List ℕ × ℕ) × (k + 1 < length list)
    × ((slice_index_or list k d).0 ≡ (slice_index_or list (k + 1) d).0)

-- one of the entries is at fault
abbrev pub MayRefuseOneOf : List ℕ → List ℕ → DirFault → Type 0
MayRefuseOneOf dir ids fault = (n : ℕ) × Contains ids n × MayRefuseEntry dir n fault

-- When a fault may be answered for the names of entries. Want of memory is none of these: the names are looked at where
-- all memory for that was taken.
abbrev pub MayRefuseNames : List ℕ → List ℕ → DirFault → Type 0
MayRefuseNames dir ids DuplicateName = (m : ℕ) × (n : ℕ) × Contains ids m × Contains ids n × (m ≢ n)
    × (key_at dir m ≡ key_at dir n)
MayRefuseNames dir ids fault = MayRefuseOneOf dir ids fault
