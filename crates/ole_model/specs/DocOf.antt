-- What document a tree holds.
use Rattle.std.specs.Prelude.{ℕ, ◌+◌, ◌&&◌, ◌≡◌, ◌∷◌, ◌++◌, List, [], Bool, cond, length, nat_eq, nat_lt, nat_le}
use Rattle.std.specs.Prelude.{Option, Some, None, Result, Ok, Err}
use Rattle.std.specs.Int.{w32, from_le_bytes}
use Rattle.cfb_names.specs.Names.{key}
use Rattle.tree_streams.specs.Limits.{OLE, COMP_OBJ, OLE_PRES, is_within}
use Rattle.tree_streams.specs.declared.area.Area.{Area}
use Rattle.cfb_entries.specs.Tree.{Tree, Children, tree, none, stream, storage}
use Rattle.tree_storage.specs.Change.{Seen, bytes, inner, find, without}
use Rattle.tree_streams.specs.Streams.{is_next}
use Rattle.tree_streams.specs.declared.streams.NamedStream.{NamedStream}
use Rattle.ole_model.specs.CompObjs.{PAST_USER_TYPE, user_type_read}
use Rattle.ole_model.specs.Documents.{Doc, no_objects}
use Rattle.ole_model.specs.DocTree.{LAYOUT, SESSION, object_name}
use Rattle.ole_model.specs.Fields.{on_ok}
use Rattle.ole_model.specs.Layouts.{MOST_OBJECTS, layout_read}
use Rattle.ole_model.specs.OleStreams.{ole_read}
use Rattle.ole_model.specs.declared.object.DocObject.{DocObject}
use Rattle.ole_model.specs.declared.fault.OleFault.{OleFault}
use Rattle.ole_model.specs.declared.fault.OleFault.TheVariants.{NotADocument, TooManyObjects}

-- the bytes of a stream, and what a storage holds, where they are what stands there
abbrev pub as_stream : Option (List ℕ × Seen) → Result (List ℕ) OleFault
as_stream None = Err NotADocument
as_stream (Some (name, bytes b)) = Ok b
as_stream (Some (name, inner t)) = Err NotADocument

abbrev pub as_storage : Option (List ℕ × Seen) → Result Tree OleFault
as_storage None = Err NotADocument
as_storage (Some (name, bytes b)) = Err NotADocument
as_storage (Some (name, inner t)) = Ok t

-- where there is no stream there is no picture
abbrev pub as_picture : Option (List ℕ × Seen) → Result (List ℕ) OleFault
as_picture None = Ok []
as_picture (Some (name, bytes b)) = Ok b
as_picture (Some (name, inner t)) = Err NotADocument

-- streams behind others, where no storage is among them and each name is greater than the one before
abbrev pub streams_behind : List NamedStream → Children → Result (List NamedStream) OleFault
streams_behind before none = Ok before
streams_behind before (stream k name b cs) = cond (is_next before name)
    (streams_behind (before ++ (record { name = name; bytes = b }) ∷ []) cs) (Err NotADocument)
streams_behind before (storage k name t cs) = Err NotADocument

-- An object's storage, its three OLE streams being read and taken away one after another; what is left are its own.
abbrev pub object_of : Area → List ℕ → List ℕ → List ℕ → Children → Result DocObject OleFault
object_of area class picture user_type cs =
    on_ok
    (λ streams. Ok (record {
      class = class;
      user_type = user_type;
      area = area;
      stored = record { streams = streams; picture = picture };
    })) (streams_behind [] cs)

abbrev pub behind_comp_obj : Area → List ℕ → List ℕ → List ℕ → Children → Result DocObject OleFault
behind_comp_obj area class picture user_type cs =
    on_ok (λ u. object_of area class picture user_type (without (key OLE) cs))
    (on_ok ole_read (as_stream (find (key OLE) cs)))

abbrev pub behind_picture : Area → List ℕ → List ℕ → Children → Result DocObject OleFault
behind_picture area class picture cs =
    on_ok (λ user_type. behind_comp_obj area class picture user_type (without (key COMP_OBJ) cs))
    (on_ok user_type_read (as_stream (find (key COMP_OBJ) cs)))

abbrev pub object_read : Area → Tree → Result DocObject OleFault
object_read area (tree class state cs) =
    on_ok (λ picture. behind_picture area class picture (without (key OLE_PRES) cs))
    (as_picture (find (key OLE_PRES) cs))

-- what a document may hold: a content within its limits, and a user type whose size fits its field
abbrev pub is_object : DocObject → Bool
is_object o = is_within o.stored && nat_lt (length o.user_type) PAST_USER_TYPE

-- a document with one more object
abbrev pub pushed : Doc → DocObject → Result Doc OleFault
pushed d o = cond (nat_le MOST_OBJECTS (length d.objects)) (Err TooManyObjects)
    (cond (is_object o) (Ok (record d { objects = d.objects ++ o ∷ [] })) (Err NotADocument))

-- a document with the object of this number and this area, which stands in the storage of its name
abbrev pub object_pushed : Doc → ℕ → Area → Children → Result Doc OleFault
object_pushed d number area cs =
    on_ok (λ o. pushed d o) (on_ok (λ t. object_read area t) (as_storage (find (key (object_name number)) cs)))

-- The objects behind those of a document, each with its area; there is nothing else.
abbrev pub objects_behind : Doc → ℕ → List Area → Children → Result Doc OleFault
objects_behind before number [] none = Ok before
objects_behind before number [] (stream k name b cs) = Err NotADocument
objects_behind before number [] (storage k name t cs) = Err NotADocument
objects_behind before number (area ∷ areas) cs =
    on_ok (λ d. objects_behind d (number + 1) areas (without (key (object_name number)) cs))
    (object_pushed before number area cs)

-- The session in four bytes, least byte first; where there is no stream it is 0.
abbrev pub session_of_bytes : List ℕ → Result ℕ OleFault
session_of_bytes b = cond (nat_eq (length b) 4) (Ok (from_le_bytes w32 b)) (Err NotADocument)

abbrev pub session_read : Option (List ℕ × Seen) → Result ℕ OleFault
session_read None = Ok 0
session_read (Some (name, bytes b)) = session_of_bytes b
session_read (Some (name, inner t)) = Err NotADocument

-- the document of these areas: its session is read and taken away, then its objects
abbrev pub behind_layout : List Area → Children → Result Doc OleFault
behind_layout areas cs = on_ok (λ session. objects_behind (no_objects session) 1 areas (without (key SESSION) cs))
    (session_read (find (key SESSION) cs))

-- The document of a tree, or why it holds none. Its class and all state bits are free.
abbrev pub doc_read : Tree → Result Doc OleFault
doc_read (tree class state cs) = on_ok (λ areas. behind_layout areas (without (key LAYOUT) cs))
    (on_ok layout_read (as_stream (find (key LAYOUT) cs)))

abbrev pub DocOf : Tree → Doc → Type 0
DocOf t d = doc_read t ≡ Ok d
