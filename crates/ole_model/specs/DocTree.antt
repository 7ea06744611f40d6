-- The tree of a document.
use Rattle.std.specs.Prelude.{ℕ, zero, suc, ◌+◌, ◌/◌, ◌%◌, ◌∷◌, List, [], cond, map, nat_lt}
use Rattle.std.specs.Int.{w32, to_le_bytes}
use Rattle.cfb_names.specs.Names.{key}
use Rattle.tree_streams.specs.Limits.{OLE, COMP_OBJ, OLE_PRES}
use Rattle.cfb_entries.specs.Tree.{Tree, Children, tree, none}
use Rattle.tree_storage.specs.Change.{Seen, bytes, inner, place}
use Rattle.tree_streams.specs.declared.streams.NamedStream.{NamedStream}
use Rattle.ole_model.specs.CompObjs.{comp_obj_bytes}
use Rattle.ole_model.specs.Documents.{Doc}
use Rattle.ole_model.specs.Layouts.{layout_bytes}
use Rattle.ole_model.specs.OleStreams.{ole_bytes}
use Rattle.ole_model.specs.declared.object.DocObject.{DocObject}

-- 6f1d2a00-3c4b-4e5f-8a9b-0c1d2e3f4051
abbrev pub ROOT_CLASS : List ℕ
ROOT_CLASS = 0x00 ∷ 0x2a ∷ 0x1d ∷ 0x6f ∷ 0x4b ∷ 0x3c ∷ 0x5f ∷ 0x4e ∷ 0x8a ∷ 0x9b ∷ 0x0c ∷ 0x1d ∷ 0x2e ∷ 0x3f ∷ 0x40
    ∷ 0x51 ∷ []

-- "Layout"
abbrev pub LAYOUT : List ℕ
LAYOUT = 76 ∷ 97 ∷ 121 ∷ 111 ∷ 117 ∷ 116 ∷ []

-- "Session"
abbrev pub SESSION : List ℕ
SESSION = 83 ∷ 101 ∷ 115 ∷ 115 ∷ 105 ∷ 111 ∷ 110 ∷ []

-- a number below 100 in decimal
abbrev pub decimal : ℕ → List ℕ
decimal n = cond (nat_lt n 10) ((48 + n) ∷ []) ((48 + n / 10) ∷ (48 + n % 10) ∷ [])

-- the name of an object's storage: "Obj" and its number
abbrev pub object_name : ℕ → List ℕ
object_name number = 79 ∷ 98 ∷ 106 ∷ decimal number

-- children with this one under its name
abbrev pub placed : List ℕ → Seen → Children → Children
placed name seen cs = place (key name) (name, seen) cs

-- children with these streams
abbrev pub with_streams : List NamedStream → Children → Children
with_streams [] cs = cs
with_streams (s ∷ ss) cs = placed s.name (bytes s.bytes) (with_streams ss cs)

-- an empty picture has no stream
abbrev pub with_picture : List ℕ → Children → Children
with_picture [] cs = cs
with_picture (b ∷ bs) cs = placed OLE_PRES (bytes (b ∷ bs)) cs

-- the three OLE streams of an object beside its own
abbrev pub with_ole_streams : List ℕ → List ℕ → List ℕ → Children → Children
with_ole_streams class user_type picture cs =
    with_picture picture (placed COMP_OBJ (bytes (comp_obj_bytes class user_type))
    (placed OLE (bytes ole_bytes) cs))

-- An object's storage: its class, state bits 0, the three OLE streams and its own streams.
abbrev pub object_children : DocObject → Children
object_children o = with_ole_streams o.class o.user_type o.stored.picture (with_streams o.stored.streams none)

abbrev pub object_tree : DocObject → Tree
object_tree o = tree o.class 0 (object_children o)

-- the storages of objects, beside others, the first of them having this number
abbrev pub with_objects : ℕ → List DocObject → Children → Children
with_objects number [] cs = cs
with_objects number (o ∷ os) cs = placed (object_name number) (inner (object_tree o)) (with_objects (number + 1) os cs)

-- the number of a session beside others, in four bytes; session 0 has no stream
abbrev pub with_session : ℕ → Children → Children
with_session zero cs = cs
with_session (suc n) cs = placed SESSION (bytes (to_le_bytes w32 (suc n))) cs

-- The root: its class, state bits 0, a storage for each object, the session, and the layout.
abbrev pub doc_tree : Doc → Tree
doc_tree d = tree ROOT_CLASS 0 (placed LAYOUT (bytes (layout_bytes (map (λ o. o.area) d.objects)))
    (with_session d.session (with_objects 1 d.objects none)))
