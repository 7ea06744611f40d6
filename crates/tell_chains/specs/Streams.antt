-- What is wrong with the chain of a stream, and where.
use Rattle.std.specs.Prelude.{◌≡◌, ◌≢◌, ◌<◌, ◌≤◌, ℕ, Bool, true, false, List, get_or, length, nat_lt, slice_index_or}
use Rattle.std.specs.List.{All, Contains}
use Rattle.cfb_chains.specs.Chain.{IsChainOf}
use Rattle.cfb_header.specs.declared.fault.ChainFault.{ChainFault}
use Rattle.cfb_header.specs.declared.fault.ChainFault.TheVariants as chain
use Rattle.cfb_entries.specs.Entries.{entry_at, first_of, kind, size_of}
use Rattle.cfb_file.specs.Limits.{CUTOFF}
use Rattle.cfb_file.specs.Denotes.{IsLaidOut, Layout}
use Rattle.cfb_faults.specs.Faults.{Base, IsFileAtFault, IsTakenFor, base_in, store_in}
use Rattle.tell_faults.specs.Places.{IsLinkAtFault}
use Rattle.tell_faults.specs.Tables.{IsTabled}
use Rattle.tell_entries.specs.Ways.{IsWay, end_of}
use Rattle.tell_chains.specs.declared.parts.Parts.{Parts}
use Rattle.tell_faults.specs.declared.place.Link.{Link}
use Rattle.tell_chains.specs.declared.place.Owner.{Owner}
use Rattle.tell_chains.specs.declared.place.Owner.TheVariants as owner
use Rattle.tell_chains.specs.declared.place.StreamPlace.{StreamPlace}
use Rattle.tell_chains.specs.declared.streams.Stream.{Stream}

-- whether a stream of a size lies in mini sectors
abbrev pub lies_in_minis : ℕ → Bool
lies_in_minis size = nat_lt size CUTOFF

-- a way to the entry of a stream, which isn't the root
pub record IsStreamAt (dir way : List ℕ) : Type 0 where
  pub is_way : IsWay dir way
  pub below : end_of way ≢ 0
  pub kind_is : kind (entry_at dir (end_of way)) ≡ 2

-- Whose a sector is to which the chain of an entry's stream leads: one of the system's own parts has it, where the
-- stream lies in sectors, or the chain of another stream, both in sectors or both in mini sectors.
abbrev pub IsOwner : Base → ℕ → ℕ → Owner → Type 0
IsOwner b id n owner.Nobody = Unit {0}
IsOwner b id n owner.System = (lies_in_minis (size_of (entry_at b.directory id)) ≡ false) × Contains b.own n
IsOwner b id n (owner.Stream way) = IsStreamAt b.directory way.items × (end_of way.items ≢ id)
    × (lies_in_minis (size_of (entry_at b.directory (end_of way.items)))
    ≡ lies_in_minis (size_of (entry_at b.directory id)))
    × ((ns : List ℕ)
    × IsChainOf (store_in b (size_of (entry_at b.directory (end_of way.items))))
    (first_of (entry_at b.directory (end_of way.items))) (size_of (entry_at b.directory (end_of way.items))) ns
    × Contains ns n)

-- What is wrong with the chain of a stream that isn't empty, at which link, and whose the sector is that it names,
-- which is told wherever the chain leads to a taken one.
pub record IsStreamPlace (b : Base) (fault : ChainFault) (p : StreamPlace) : Type 0 where
  pub stream : IsStreamAt b.directory p.way.items
  pub some : 0 < size_of (entry_at b.directory (end_of p.way.items))
  pub minis : p.is_mini ≡ lies_in_minis (size_of (entry_at b.directory (end_of p.way.items)))
  pub at : IsLinkAtFault (store_in b (size_of (entry_at b.directory (end_of p.way.items))))
      (IsTakenFor b (end_of p.way.items))
      (first_of (entry_at b.directory (end_of p.way.items))) (size_of (entry_at b.directory (end_of p.way.items)))
      fault p.link
  pub owned : IsOwner b (end_of p.way.items) p.link.to p.owner
  pub told : fault ≡ chain.CrossLinked → p.owner ≢ owner.Nobody

-- the same of a file
abbrev pub IsFaultOfStream : List ℕ → ChainFault → StreamPlace → Type 0
IsFaultOfStream file fault p = (l : Layout) × IsLaidOut file l × IsStreamPlace (base_in file l) fault p

-- no stream of a file has the fault
abbrev pub IsNoStream : List ℕ → ChainFault → Type 0
IsNoStream file fault = (where_it_is : StreamPlace) → IsFaultOfStream file fault where_it_is → ⊥

-- ---- what is read of a file, and of its streams
-- what storages are read from, by what was read of a file
pub record IsBaseOf (p : Parts) (b : Base) : Type 0 where
  pub directory : p.directory.items ≡ b.directory
  pub own : p.own.items ≡ b.own
  pub tabled : IsTabled p.table.items b.sectors
  pub wide : b.sectors.width ≡ 512
  pub tabled_minis : IsTabled p.minis.items b.minis
  pub narrow : b.minis.width ≡ 64

-- tables of no more entries than there are regular numbers
abbrev pub AreFew : Parts → Type 0
AreFew p = (length p.table.items ≤ 0xFFFFFFF9) × (length p.minis.items ≤ 0xFFFFFFF9)

-- the parts of a file
abbrev pub ArePartsOf : List ℕ → Parts → Type 0
ArePartsOf file p = AreFew p × ((l : Layout) × IsLaidOut file l × IsBaseOf p (base_in file l))

-- a stream that isn't empty, as the entry says that was met
pub record IsStream (dir ids : List ℕ) (s : Stream) : Type 0 where
  pub met : Contains ids s.id
  pub below : s.id ≢ 0
  pub kind_is : kind (entry_at dir s.id) ≡ 2
  pub first : s.first ≡ first_of (entry_at dir s.id)
  pub size : s.size ≡ size_of (entry_at dir s.id)
  pub some : 0 < s.size

-- the stream of an entry is among some
abbrev pub IsAmong : List Stream → ℕ → Type 0
IsAmong ss id = (k : ℕ) × (k < length ss) × ((d : Stream) → (get_or ss k d).id ≡ id)

-- The streams that aren't empty of the first so many entries, of which marks tell whether they were met.
pub record AreStreamsBelow (dir ids : List ℕ) (seen : List Bool) (bound : ℕ) (ss : List Stream) : Type 0 where
  pub each : All (IsStream dir ids) ss
  pub every : (id : ℕ) → id < bound → id ≢ 0 → slice_index_or seen id true ≡ true → kind (entry_at dir id) ≡ 2
      → 0 < size_of (entry_at dir id) → IsAmong ss id

-- All streams of a directory that aren't empty.
pub record AreStreams (dir ids : List ℕ) (ss : List Stream) : Type 0 where
  pub each : All (IsStream dir ids) ss
  pub every : (way : List ℕ) → IsStreamAt dir way → 0 < size_of (entry_at dir (end_of way)) → IsAmong ss (end_of way)

-- at no link the chain of a stream has a fault, where these sectors are taken
abbrev pub IsSparedBy : Parts → List ℕ → ChainFault → Stream → Type 0
IsSparedBy p taken fault s = (b : Base) → IsBaseOf p b → (link : Link)
    → IsLinkAtFault (store_in b s.size) (Contains taken) s.first s.size fault link → ⊥

-- no stream has the fault, by the parts of a file
abbrev pub IsNoPlace : Parts → ChainFault → Type 0
IsNoPlace p fault = (b : Base) → IsBaseOf p b → (where_it_is : StreamPlace) → IsStreamPlace b fault where_it_is → ⊥

-- ---- the law
-- where a place of a stream is told, the file is at fault
abbrev pub StreamIsAtFault : Type 0
StreamIsAtFault = (file : List ℕ) (fault : ChainFault) (where_it_is : StreamPlace)
    → IsFaultOfStream file fault where_it_is → IsFileAtFault file fault
