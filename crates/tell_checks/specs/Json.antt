-- What is wrong with a file, and where, as one JSON value (RFC 8259): an object, whose members are null where they
-- aren't known.
use Rattle.std.specs.Prelude.{◌++◌, ℕ, Bool, true, false, List, [], ◌∷◌, Option, Some, None, String, codes}
use Rattle.std.specs.Prelude.{string_bytes}
use Rattle.std.specs.Global.{Global}
use Rattle.std.specs.Fmt.{decimal}
use Rattle.json.specs.Print.{print}
use Rattle.json.specs.Token.{Token, begin_object, boolean, end_object, key, null, number, string}
use Rattle.text_words.specs.Told.{told}
use Rattle.tell_entries.specs.Ways.{end_of}
use Rattle.tell_faults.specs.declared.place.Link.{Link}
use Rattle.tell_faults.specs.declared.place.FaultPlace.{FaultPlace}
use Rattle.tell_faults.specs.declared.place.FaultPlace.TheVariants as chain
use Rattle.tell_entries.specs.declared.place.EntryPlace.{EntryPlace}
use Rattle.tell_entries.specs.declared.place.EntryPlace.TheVariants as entry
use Rattle.tell_chains.specs.declared.place.Owner.{Owner}
use Rattle.tell_chains.specs.declared.place.Owner.TheVariants as owner
use Rattle.read_files.specs.Reads.{read_fault_name}
use Rattle.read_files.specs.declared.fault.ReadFault.{ReadFault}
use Rattle.tell_checks.specs.Lines.{SOUND, told_line}
use Rattle.tell_checks.specs.declared.spot.Place.{Place}
use Rattle.tell_checks.specs.declared.spot.Place.TheVariants as place
use Rattle.tell_checks.specs.declared.spot.Spot.{Spot}
use Rattle.tell_checks.specs.declared.telling.Form.{Form}
use Rattle.tell_checks.specs.declared.telling.Form.TheVariants as form

-- ---- what is told of a place
-- the part that is at fault; a short stream lies in mini sectors
abbrev pub stream_part : Bool → List ℕ
stream_part true = codes "short_stream"
stream_part false = codes "stream"

abbrev pub chain_part : FaultPlace → List ℕ
chain_part chain.Header = codes "header"
chain_part chain.Fat = codes "fat"
chain_part (chain.Directory link) = codes "directory"
chain_part (chain.MiniFat link) = codes "mini_fat"
chain_part (chain.MiniStream link) = codes "mini_stream"

abbrev pub entry_part : EntryPlace → List ℕ
entry_part entry.Nowhere = codes "directory"
entry_part (entry.Entry way) = codes "entry"
entry_part (entry.Twins way m n) = codes "entry"

abbrev pub part_of : Place → List ℕ
part_of (place.Chain p) = chain_part p
part_of (place.Stream p) = stream_part p.is_mini
part_of (place.Entry p) = entry_part p

-- the link at which a chain goes wrong
abbrev pub chain_link : FaultPlace → Option Link
chain_link chain.Header = None
chain_link chain.Fat = None
chain_link (chain.Directory link) = Some link
chain_link (chain.MiniFat link) = Some link
chain_link (chain.MiniStream link) = Some link

abbrev pub link_of : Place → Option Link
link_of (place.Chain p) = chain_link p
link_of (place.Stream p) = Some p.link
link_of (place.Entry p) = None

-- the entry
abbrev pub entry_id : EntryPlace → Option ℕ
entry_id entry.Nowhere = None
entry_id (entry.Entry way) = Some (end_of way.items)
entry_id (entry.Twins way m n) = Some n

abbrev pub entry_of : Place → Option ℕ
entry_of (place.Chain p) = None
entry_of (place.Stream p) = Some (end_of p.way.items)
entry_of (place.Entry p) = entry_id p

-- the other entry: whose stream has the sector, or which has the name too
abbrev pub owner_id : Owner → Option ℕ
owner_id owner.Nobody = None
owner_id owner.System = None
owner_id (owner.Stream way) = Some (end_of way.items)

abbrev pub twin_id : EntryPlace → Option ℕ
twin_id entry.Nowhere = None
twin_id (entry.Entry way) = None
twin_id (entry.Twins way m n) = Some m

abbrev pub other_of : Place → Option ℕ
other_of (place.Chain p) = None
other_of (place.Stream p) = owner_id p.owner
other_of (place.Entry p) = twin_id p

-- ---- members
abbrev pub text_member : List ℕ → List ℕ → List Token
text_member name text = key name ∷ string text ∷ []

abbrev pub null_member : List ℕ → List Token
null_member name = key name ∷ null ∷ []

abbrev pub number_member : List ℕ → Option ℕ → List Token
number_member name None = null_member name
number_member name (Some n) = key name ∷ number (decimal n) ∷ []

abbrev pub path_member : Option (String Global) → List Token
path_member None = null_member (codes "path")
path_member (Some path) = text_member (codes "path") (string_bytes path)

abbrev pub ok_member : Bool → List Token
ok_member ok = key (codes "ok") ∷ boolean ok ∷ []

-- the sector whose entry is at fault, and what it leads to
abbrev pub link_members : Option Link → List Token
link_members None = null_member (codes "sector") ++ null_member (codes "to")
link_members (Some link) = number_member (codes "sector") link.from ++ number_member (codes "to") (Some link.to)

abbrev pub known_members : Spot → List Token
known_members s = text_member (codes "part") (part_of s.place)
    ++ (link_members (link_of s.place) ++ (number_member (codes "entry") (entry_of s.place)
    ++ (path_member s.path ++ (number_member (codes "byte") s.byte ++ number_member (codes "other")
    (other_of s.place)))))

abbrev pub unknown_members : List Token
unknown_members = null_member (codes "part")
    ++ (link_members None
    ++ (null_member (codes "entry")
    ++ (null_member (codes "path") ++ (null_member (codes "byte") ++ null_member (codes "other")))))

abbrev pub spot_members : Option Spot → List Token
spot_members None = unknown_members
spot_members (Some s) = known_members s

-- ---- the value
-- the name of the file, where it is told
abbrev pub file_member : Option (List ℕ) → List Token
file_member None = []
file_member (Some name) = text_member (codes "file") name

abbrev pub sound_tokens : Option (List ℕ) → List Token
sound_tokens name = begin_object ∷ (file_member name ++ (ok_member true ++ end_object ∷ []))

abbrev pub told_tokens : Option (List ℕ) → ReadFault → Option Spot → List Token
told_tokens name fault spot =
    begin_object
    ∷ (file_member name
    ++ (ok_member false ++ (text_member (codes "fault") (read_fault_name fault)
    ++ (spot_members spot ++ end_object ∷ []))))

-- ---- the text of each form, on a line of its own; a name stands before a line as it is told of faults
abbrev pub sound_text : Form → List ℕ
sound_text form.Line = SOUND
sound_text form.Json = print (sound_tokens None) ++ 10 ∷ []
sound_text (form.LineOf name) = told name.now ++ (codes ": " ++ SOUND)
sound_text (form.JsonOf name) = print (sound_tokens (Some name.now)) ++ 10 ∷ []

abbrev pub told_text : Form → ReadFault → Option Spot → List ℕ
told_text form.Line fault spot = told_line fault spot
told_text form.Json fault spot = print (told_tokens None fault spot) ++ 10 ∷ []
told_text (form.LineOf name) fault spot = told name.now ++ (codes ": " ++ told_line fault spot)
told_text (form.JsonOf name) fault spot = print (told_tokens (Some name.now) fault spot) ++ 10 ∷ []
