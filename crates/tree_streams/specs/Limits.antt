-- How much may be stored of an object.
use Rattle.std.specs.Prelude.{ℕ, Bool, false, ◌+◌, ◌&&◌, ◌||◌, not, List, [], ◌∷◌, length, nat_le}
use Rattle.std.specs.Ordering.{is_eq}
use Rattle.cfb_names.specs.Names.{name_cmp}
use Rattle.tree_streams.specs.declared.streams.NamedStream.{NamedStream}
use Rattle.tree_streams.specs.declared.stored.Stored.{Stored}

-- an object has at most so many streams of its own, and so many bytes in them and its picture together
abbrev pub MOST_STREAMS : ℕ
MOST_STREAMS = 8

abbrev pub MOST_BYTES : ℕ
MOST_BYTES = 262144

-- The names of the three streams that OLE keeps beside an object's own (MS-OLEDS 2.3.3, 2.3.8, 2.3.4): "\1Ole",
-- "\1CompObj" and "\2OlePres000".
abbrev pub OLE : List ℕ
OLE = 1 ∷ 79 ∷ 108 ∷ 101 ∷ []

abbrev pub COMP_OBJ : List ℕ
COMP_OBJ = 1 ∷ 67 ∷ 111 ∷ 109 ∷ 112 ∷ 79 ∷ 98 ∷ 106 ∷ []

abbrev pub OLE_PRES : List ℕ
OLE_PRES = 2 ∷ 79 ∷ 108 ∷ 101 ∷ 80 ∷ 114 ∷ 101 ∷ 115 ∷ 48 ∷ 48 ∷ 48 ∷ []

-- whether a name is one of these, in upper or lower case
abbrev pub is_ole_name : List ℕ → Bool
is_ole_name name = is_eq (name_cmp name OLE) || (is_eq (name_cmp name COMP_OBJ) || is_eq (name_cmp name OLE_PRES))

-- the bytes of all streams
abbrev pub total : List NamedStream → ℕ
total [] = 0
total (s ∷ ss) = length s.bytes + total ss

abbrev pub has_ole_name : List NamedStream → Bool
has_ole_name [] = false
has_ole_name (s ∷ ss) = is_ole_name s.name || has_ole_name ss

-- A content that may be stored: no more streams and bytes than that, and none of the three OLE names.
abbrev pub is_within : Stored → Bool
is_within s = nat_le (length s.streams) MOST_STREAMS &&
    (nat_le (total s.streams + length s.picture) MOST_BYTES && not (has_ole_name s.streams))
