-- Where a file is at fault: what is wrong with it, with the place told.
use Rattle.std.specs.Prelude.{◌≡◌, ◌≢◌, ◌⊎◌, ◌<◌, ◌≤◌, ◌*◌, ◌++◌, ℕ, List, [], ◌∷◌, length, slice_index, Option, Some}
use Rattle.std.specs.Prelude.{None, Err}
use Rattle.std.specs.List.{All, Contains}
use Rattle.cfb_chains.specs.Chain.{AreDistinct, END_OF_CHAIN, IsChain, IsChainOf, Leads, Store}
use Rattle.cfb_chains.specs.Fat.{sectors_of}
use Rattle.cfb_header.specs.Header.{difat, first_directory, first_mini_fat, header_read, listed, mini_fat_count}
use Rattle.cfb_header.specs.declared.fault.ChainFault.{ChainFault}
use Rattle.cfb_header.specs.declared.fault.ChainFault.TheVariants as chain
use Rattle.cfb_entries.specs.Entries.{entry_at, first_of, size_of}
use Rattle.cfb_faults.specs.Faults.{IsDirectory, IsFatAtFault, IsFileAtFault, Walks}
use Rattle.tell_faults.specs.Tables.{IsTabled}
use Rattle.tell_faults.specs.declared.walking.Chain.{Chain}
use Rattle.tell_faults.specs.declared.walking.Examined.{Examined}
use Rattle.tell_faults.specs.declared.walking.Examined.TheVariants as examined
use Rattle.tell_faults.specs.declared.place.Link.{Link}
use Rattle.tell_faults.specs.declared.place.FaultPlace.{FaultPlace}
use Rattle.tell_faults.specs.declared.place.FaultPlace.TheVariants as place

-- the last of some sectors
abbrev pub last_of : List ℕ → Option ℕ
last_of [] = None
last_of (n ∷ []) = Some n
last_of (n ∷ m ∷ ns) = last_of (m ∷ ns)

-- From a sector on links lead over sectors that are there to a link, which is the last one's.
pub record IsLed (s : Store) (start : ℕ) (ns : List ℕ) (link : Link) : Type 0 where
  pub walks : Walks s start ns link.to
  pub from : link.from ≡ last_of ns

-- the same by a table
pub record IsWalk (table : List ℕ) (start : ℕ) (ns : List ℕ) (link : Link) : Type 0 where
  pub linked : Leads (λ n. slice_index table n) start ns link.to
  pub present : All (λ n. n < length table) ns
  pub from : link.from ≡ last_of ns

-- What is wrong with the chain from a sector, as of any chain that is at fault, with the link at which it is.
abbrev pub IsLinkAtFault : Store → (ℕ → Type 0) → ℕ → ℕ → ChainFault → Link → Type 0
IsLinkAtFault s taken start size chain.OutOfFile link = (ns : List ℕ) × IsLed s start ns link
    × (link.to ≢ END_OF_CHAIN) × (s.count ≤ link.to)
IsLinkAtFault s taken start size chain.Cycle link = (ns : List ℕ) × IsLed s start ns link × Contains ns link.to
IsLinkAtFault s taken start size chain.CrossLinked link = (ns : List ℕ) × IsLed s start ns link
    × (link.to < s.count) × taken link.to
IsLinkAtFault s taken start size chain.ShortChain link = (ns : List ℕ) × IsLed s start ns link
    × (link.to ≡ END_OF_CHAIN) × (s.width * length ns < size)
IsLinkAtFault s taken start size _ link = ⊥

-- A walk by a table stopped at a number: it met each sector once and none of those that are taken, and the number is
-- that of no sector, of one that it met, or of one that is taken.
pub record IsStopped (table taken ns : List ℕ) (to : ℕ) : Type 0 where
  pub once : AreDistinct ns
  pub new : All (λ n. Contains taken n → ⊥) ns
  pub ends : (length table ≤ to) ⊎ Contains ns to ⊎ Contains taken to

-- A walk over sectors with this room stopped at a number, and not for a fault.
abbrev pub IsSpared : ℕ → (ℕ → Type 0) → List ℕ → ℕ → ℕ → ℕ → ChainFault → Type 0
IsSpared count taken ns to room size chain.OutOfFile = (to ≡ END_OF_CHAIN) ⊎ (to < count)
IsSpared count taken ns to room size chain.Cycle = Contains ns to → ⊥
IsSpared count taken ns to room size chain.CrossLinked = (count ≤ to) ⊎ (taken to → ⊥)
IsSpared count taken ns to room size chain.ShortChain = (to ≢ END_OF_CHAIN) ⊎ (size ≤ room)
IsSpared count taken ns to room size _ = Unit {0}

-- at no link a chain has a fault, by a table and where some sectors are taken
abbrev pub IsUnfaulted : List ℕ → List ℕ → Chain → ChainFault → Type 0
IsUnfaulted table taken chain fault = (s : Store) → IsTabled table s → s.width ≡ chain.width → (link : Link)
    → IsLinkAtFault s (Contains taken) chain.first chain.size fault link → ⊥

-- a chain isn't whole, by a table
abbrev pub IsNotWhole : List ℕ → Chain → Type 0
IsNotWhole table chain = (s : Store) → IsTabled table s → s.width ≡ chain.width → (ns : List ℕ)
    → IsChain s chain.first chain.size ns → ⊥

-- What a chain is found to be: of each store that the table tells of, and where some sectors are taken, it has the
-- fault at a link; or it has it nowhere, and these are its sectors, or it isn't whole.
abbrev pub IsExamined : List ℕ → List ℕ → Chain → ChainFault → Examined → Type 0
IsExamined table taken chain fault (examined.AtFault link) = (s : Store) → IsTabled table s → s.width ≡ chain.width
    → IsLinkAtFault s (Contains taken) chain.first chain.size fault link
IsExamined table taken chain fault (examined.Whole ns) =
    ((s : Store) → IsTabled table s → s.width ≡ chain.width → IsChain s chain.first chain.size ns.items)
    × IsUnfaulted table taken chain fault
IsExamined table taken chain fault examined.Other = IsUnfaulted table taken chain fault × IsNotWhole table chain

-- the same of the directory's chain, which begins with this sector
abbrev pub IsDirectoryExamined : List ℕ → List ℕ → ℕ → ChainFault → Examined → Type 0
IsDirectoryExamined table taken first fault found =
    IsExamined table taken (record { first = first; width = 512; size = 0 }) fault found

-- What is wrong with a file, with the place at which it is: as of a file that is at fault, of the header, the FAT, the
-- directory's chain, the mini FAT's and the mini stream's.
abbrev pub IsFaultAt : List ℕ → ChainFault → FaultPlace → Type 0
IsFaultAt file fault place.Header = header_read file ≡ Err fault
IsFaultAt file fault place.Fat = IsFatAtFault file fault
IsFaultAt file fault (place.Directory link) =
    IsLinkAtFault (sectors_of file (listed file)) (Contains (listed file ++ difat file)) (first_directory file) 0
    fault link
IsFaultAt file fault (place.MiniFat link) = (dir : List ℕ) × (d : IsDirectory file dir) × (0 < mini_fat_count file)
    × IsLinkAtFault (sectors_of file (listed file)) (Contains (listed file ++ difat file ++ d.sectors))
    (first_mini_fat file) (512 * mini_fat_count file) fault link
IsFaultAt file fault (place.MiniStream link) = (dir : List ℕ) × (d : IsDirectory file dir) × (mini_fat : List ℕ)
    × IsChainOf (sectors_of file (listed file)) (first_mini_fat file) (512 * mini_fat_count file) mini_fat
    × (0 < size_of (entry_at dir 0))
    × IsLinkAtFault (sectors_of file (listed file)) (Contains (listed file ++ difat file ++ d.sectors ++ mini_fat))
    (first_of (entry_at dir 0)) (size_of (entry_at dir 0)) fault link

-- at no link of this part a file has a fault
abbrev pub IsUnfaultedAt : List ℕ → ChainFault → (Link → FaultPlace) → Type 0
IsUnfaultedAt file fault part = (link : Link) → IsFaultAt file fault (part link) → ⊥

-- none of these places has the fault
abbrev pub IsNowhere : List ℕ → ChainFault → Type 0
IsNowhere file fault = (where_it_is : FaultPlace) → IsFaultAt file fault where_it_is → ⊥

-- ---- the law
-- where a place is told, the file is at fault
abbrev pub ToldIsAtFault : Type 0
ToldIsAtFault = (file : List ℕ) (fault : ChainFault) (where_it_is : FaultPlace) → IsFaultAt file fault where_it_is
    → IsFileAtFault file fault
