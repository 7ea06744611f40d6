-- What a file takes, as its links and its tables lead to it.
use Rattle.std.specs.Prelude.{◌≡◌, ◌≢◌, ◌<◌, ◌≤◌, ◌*◌, ℕ, zero, suc, Bool, true, false, List, [], length, slice_index}
use Rattle.std.specs.Prelude.{slice_index_or}
use Rattle.std.specs.List.{All, Contains}
use Rattle.cfb_bytes.specs.Bytes.{u32_at}
use Rattle.cfb_header.specs.Bytes.{joined, sector}
use Rattle.cfb_chains.specs.Chain.{END_OF_CHAIN, Leads}
use Rattle.cfb_entries.specs.Entries.{NO_STREAM, child, entry_at, first_of, kind, left, right, size_of}
use Rattle.cfb_file.specs.Limits.{CUTOFF}

-- all numbers of one list stand in another
abbrev pub AllIn : List ℕ → List ℕ → Type 0
AllIn ns ms = (n : ℕ) → Contains ns n → Contains ms n

-- marks stand at numbers of a list alone
abbrev pub AreWithin : List Bool → List ℕ → Type 0
AreWithin marks ns = (n : ℕ) → slice_index_or marks n false ≡ true → Contains ns n

-- a chain by the entries of a table, or none where there is nothing
abbrev pub IsLinked : List ℕ → ℕ → ℕ → List ℕ → Type 0
IsLinked table start zero ns = ns ≡ []
IsLinked table start (suc size) ns = Leads (slice_index table) start ns END_OF_CHAIN × All (λ n. n < length table) ns

-- the chain of a stream, of which all sectors stand in a list
pub record IsLinkedIn (table : List ℕ) (entry : List ℕ) (ns : List ℕ) : Type 0 where
  pub chain : List ℕ
  pub linked : IsLinked table (first_of entry) (size_of entry) chain
  pub all_in : AllIn chain ns

-- Lists take what entries among them lead to: the links of an entry other entries, and streams their chains.
pub record IsTaken (directory next next_mini : List ℕ) (ids sectors minis : List ℕ) : Type 0 where
  pub below : (id : ℕ) → Contains ids id → kind (entry_at directory id) ≢ 2 → child (entry_at directory id) ≢ NO_STREAM
      → Contains ids (child (entry_at directory id))
  pub before : (id : ℕ) → Contains ids id → id ≢ 0 → left (entry_at directory id) ≢ NO_STREAM
      → Contains ids (left (entry_at directory id))
  pub behind : (id : ℕ) → Contains ids id → id ≢ 0 → right (entry_at directory id) ≢ NO_STREAM
      → Contains ids (right (entry_at directory id))
  pub short : (id : ℕ) → Contains ids id → kind (entry_at directory id) ≡ 2 → size_of (entry_at directory id) < CUTOFF
      → IsLinkedIn next_mini (entry_at directory id) minis
  pub long : (id : ℕ) → Contains ids id → kind (entry_at directory id) ≡ 2 → CUTOFF ≤ size_of (entry_at directory id)
      → IsLinkedIn next (entry_at directory id) sectors

-- a table has the numbers in some sectors
pub record IsTableIn (file sectors table : List ℕ) : Type 0 where
  pub count : length table ≡ 128 * length sectors
  pub each : (k : ℕ) → k < length table → slice_index table k ≡ u32_at (joined (sector file) sectors) (4 * k)
