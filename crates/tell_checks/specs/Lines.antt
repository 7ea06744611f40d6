-- The line that tells what is wrong with a file, and where.
use Rattle.std.specs.Prelude.{◌++◌, ℕ, Bool, true, false, List, [], ◌∷◌, Option, Some, None, String, codes}
use Rattle.std.specs.Prelude.{string_bytes}
use Rattle.std.specs.Global.{Global}
use Rattle.std.specs.Fmt.{decimal}
use Rattle.tell_entries.specs.Ways.{end_of}
use Rattle.tell_faults.specs.declared.place.Link.{Link}
use Rattle.tell_faults.specs.declared.place.FaultPlace.{FaultPlace}
use Rattle.tell_faults.specs.declared.place.FaultPlace.TheVariants as chain
use Rattle.tell_entries.specs.declared.place.EntryPlace.{EntryPlace}
use Rattle.tell_entries.specs.declared.place.EntryPlace.TheVariants as entry
use Rattle.tell_chains.specs.declared.place.Owner.{Owner}
use Rattle.tell_chains.specs.declared.place.Owner.TheVariants as owner
use Rattle.tell_chains.specs.declared.place.StreamPlace.{StreamPlace}
use Rattle.read_files.specs.Reads.{read_fault_name}
use Rattle.read_files.specs.declared.fault.ReadFault.{ReadFault}
use Rattle.tell_checks.specs.declared.spot.Place.{Place}
use Rattle.tell_checks.specs.declared.spot.Place.TheVariants as place
use Rattle.tell_checks.specs.declared.spot.Spot.{Spot}

-- "ok" and the end of the line
abbrev pub SOUND : List ℕ
SOUND = 111 ∷ 107 ∷ 10 ∷ []

-- words and a number
abbrev pub worded : List ℕ → ℕ → List ℕ
worded words n = words ++ decimal n

-- ---- chains of the system's own parts
abbrev pub step_text : ℕ → ℕ → List ℕ
step_text n to = worded (codes ", whose sector ") n ++ worded (codes " leads to ") to

abbrev pub from_text : Option ℕ → ℕ → List ℕ
from_text None to = worded (codes ", which begins at sector ") to
from_text (Some n) to = step_text n to

abbrev pub link_text : Link → List ℕ
link_text link = from_text link.from link.to

abbrev pub chain_text : FaultPlace → List ℕ
chain_text chain.Header = codes " in the header"
chain_text chain.Fat = codes " in the lists of the FAT and the DIFAT"
chain_text (chain.Directory link) = codes " in the directory" ++ link_text link
chain_text (chain.MiniFat link) = codes " in the mini FAT" ++ link_text link
chain_text (chain.MiniStream link) = codes " in the mini stream" ++ link_text link

-- ---- the path of an entry, where it is known
abbrev pub path_part : Option (String Global) → List ℕ
path_part None = []
path_part (Some path) = codes ", " ++ string_bytes path

-- ---- streams
abbrev pub mini_step_text : ℕ → ℕ → List ℕ
mini_step_text n to = worded (codes ", whose mini sector ") n ++ worded (codes " leads to ") to

abbrev pub mini_from_text : Option ℕ → ℕ → List ℕ
mini_from_text None to = worded (codes ", which begins at mini sector ") to
mini_from_text (Some n) to = mini_step_text n to

abbrev pub stream_link_text : Bool → Link → List ℕ
stream_link_text true link = mini_from_text link.from link.to
stream_link_text false link = from_text link.from link.to

abbrev pub other_text : ℕ → List ℕ
other_text id = worded (codes ", which the stream of entry ") id ++ codes " has"

abbrev pub owner_text : Owner → List ℕ
owner_text owner.Nobody = []
owner_text owner.System = codes ", which a part of the system has"
owner_text (owner.Stream way) = other_text (end_of way.items)

abbrev pub stream_number_text : ℕ → List ℕ
stream_number_text id = worded (codes " in the stream of entry ") id

abbrev pub stream_text : StreamPlace → Option (String Global) → List ℕ
stream_text p path = stream_number_text (end_of p.way.items)
    ++ (path_part path ++ (stream_link_text p.is_mini p.link ++ owner_text p.owner))

-- ---- entries
abbrev pub number_text : ℕ → List ℕ
number_text id = worded (codes " in entry ") id

abbrev pub twin_text : ℕ → List ℕ
twin_text id = worded (codes ", which has the name of entry ") id

abbrev pub one_text : ℕ → Option (String Global) → List ℕ
one_text id path = number_text id ++ path_part path

abbrev pub twins_text : ℕ → ℕ → Option (String Global) → List ℕ
twins_text m n path = number_text n ++ (path_part path ++ twin_text m)

abbrev pub entry_text : EntryPlace → Option (String Global) → List ℕ
entry_text entry.Nowhere path = codes " in the directory, which has no entry"
entry_text (entry.Entry way) path = one_text (end_of way.items) path
entry_text (entry.Twins way m n) path = twins_text m n path

-- ---- a place, with the path of its entry and the byte
abbrev pub place_text : Place → Option (String Global) → List ℕ
place_text (place.Chain p) path = chain_text p
place_text (place.Stream p) path = stream_text p path
place_text (place.Entry p) path = entry_text p path

abbrev pub byte_part : Option ℕ → List ℕ
byte_part None = []
byte_part (Some byte) = worded (codes ", at byte ") byte

abbrev pub known_text : Spot → List ℕ
known_text s = place_text s.place s.path ++ byte_part s.byte

abbrev pub spot_text : Option Spot → List ℕ
spot_text None = []
spot_text (Some s) = known_text s

-- a fault's name, its place where one is told, and the end of the line
abbrev pub told_line : ReadFault → Option Spot → List ℕ
told_line fault spot = read_fault_name fault ++ (spot_text spot ++ 10 ∷ [])
