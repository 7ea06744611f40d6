-- How far a document is read before memory is wanted: where that is refused, what stands before is as a document has
-- it.
use Rattle.std.specs.Prelude.{ℕ, List, Result, Ok, Err}
use Rattle.cfb_names.specs.Names.{key}
use Rattle.tree_streams.specs.Limits.{COMP_OBJ, OLE, OLE_PRES}
use Rattle.tree_streams.specs.declared.area.Area.{Area}
use Rattle.cfb_entries.specs.Tree.{Tree, Children, tree, none, stream, storage}
use Rattle.tree_storage.specs.Change.{find, without}
use Rattle.ole_model.specs.DocOf.{as_picture, as_storage, as_stream, session_read}
use Rattle.ole_model.specs.DocTree.{LAYOUT, SESSION, object_name}
use Rattle.ole_model.specs.Layouts.{layout_read}
use Rattle.ole_model.specs.CompObjs.{user_type_read}
use Rattle.ole_model.specs.Fields.{on_ok}
use Rattle.ole_model.specs.OleStreams.{ole_read}
use Rattle.ole_model.specs.declared.fault.OleFault.{OleFault}
use Rattle.ole_model.specs.declared.fault.OleFault.TheVariants.{NotADocument}

-- the areas that a tree's stream says
abbrev pub layout_of : Tree → Result (List Area) OleFault
layout_of (tree class state cs) = on_ok layout_read (as_stream (find (key LAYOUT) cs))

-- the first of an object's own streams is a stream
abbrev pub first_stream : Children → Result (Unit {0}) OleFault
first_stream none = Err NotADocument
first_stream (stream k name b cs) = Ok tt
first_stream (storage k name t cs) = Err NotADocument

-- so it is behind the stream of OLE
abbrev pub first_behind_ole : Children → Result (Unit {0}) OleFault
first_behind_ole cs = on_ok (λ u. first_stream (without (key OLE) cs)) (on_ok ole_read (as_stream (find (key OLE) cs)))

-- the user type of an object whose picture is taken away
abbrev pub user_type_in : Children → Result (List ℕ) OleFault
user_type_in cs = on_ok user_type_read (as_stream (find (key COMP_OBJ) cs))

-- the user type of an object's storage, which is read behind its picture
abbrev pub user_type_of : Tree → Result (List ℕ) OleFault
user_type_of (tree class state cs) = on_ok (λ picture. user_type_in (without (key OLE_PRES) cs))
    (as_picture (find (key OLE_PRES) cs))

-- the user type of the object of this number
abbrev pub object_user_type : ℕ → Children → Result (List ℕ) OleFault
object_user_type number cs = on_ok user_type_of (as_storage (find (key (object_name number)) cs))

-- the user type of the first object, which is read behind the session
abbrev pub first_user_type : Children → Result (List ℕ) OleFault
first_user_type cs = on_ok (λ session. object_user_type 1 (without (key SESSION) cs))
    (session_read (find (key SESSION) cs))
