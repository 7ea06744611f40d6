-- What a document needs in a file, reckoned object by object. No reader has to believe it: it is shown to be what the
-- document's tree needs.
use Rattle.std.specs.Prelude.{◌≡◌, ◌+◌, ℕ, List, [], ◌∷◌, map, length, zero, suc, nat_lt, if◌then◌else◌}
use Rattle.std.specs.Int.{w32, to_le_bytes}
use Rattle.tree_streams.specs.Streams.{AreInOrder}
use Rattle.tree_streams.specs.declared.streams.NamedStream.{NamedStream}
use Rattle.cfb_file.specs.Limits.{CUTOFF}
use Rattle.cfb_file.specs.Need.{pieces}
use Rattle.ole_model.specs.CompObjs.{CLASS_BYTES, comp_obj_bytes}
use Rattle.ole_model.specs.OleStreams.{ole_bytes}
use Rattle.ole_model.specs.Documents.{Doc}
use Rattle.ole_model.specs.Layouts.{layout_bytes}
use Rattle.ole_model.specs.declared.object.DocObject.{DocObject}

-- a sum over the streams of an object, of a document, where each stream is reckoned by its bytes and each storage alike
abbrev pub streams_sum : (List ℕ → ℕ) → List NamedStream → ℕ
streams_sum f [] = 0
streams_sum f (s ∷ ss) = f s.bytes + streams_sum f ss

abbrev pub picture_sum : (List ℕ → ℕ) → List ℕ → ℕ
picture_sum f [] = 0
picture_sum f (b ∷ bs) = f (b ∷ bs)

abbrev pub object_sum : (List ℕ → ℕ) → ℕ → DocObject → ℕ
object_sum f z o =
    z + (picture_sum f o.stored.picture
    + (f (comp_obj_bytes o.class o.user_type) + (f ole_bytes + streams_sum f o.stored.streams)))

abbrev pub objects_sum : (List ℕ → ℕ) → ℕ → List DocObject → ℕ
objects_sum f z [] = 0
objects_sum f z (o ∷ os) = object_sum f z o + objects_sum f z os

abbrev pub session_sum : (List ℕ → ℕ) → ℕ → ℕ
session_sum f zero = 0
session_sum f (suc n) = f (to_le_bytes w32 (suc n))

abbrev pub document_sum : (List ℕ → ℕ) → ℕ → Doc → ℕ
document_sum f z d = f (layout_bytes (map (λ (o : DocObject). o.area) d.objects))
    + (session_sum f d.session + objects_sum f z d.objects)

-- a stream is one entry of the directory, and lies in mini sectors or in sectors
abbrev pub one : List ℕ → ℕ
one b = 1

abbrev pub one_of : ℕ → ℕ
one_of size = 1

abbrev pub short_of : ℕ → ℕ
short_of size = if nat_lt size CUTOFF then pieces 64 size else 0

abbrev pub long_of : ℕ → ℕ
long_of size = if nat_lt size CUTOFF then 0 else pieces 512 size

abbrev pub picture_of : (ℕ → ℕ) → ℕ → ℕ
picture_of f zero = 0
picture_of f (suc size) = f (suc size)

-- "Session" has four bytes
abbrev pub session_of : (ℕ → ℕ) → ℕ → ℕ
session_of f zero = 0
session_of f (suc session) = f 4

-- how many bytes "\1CompObj" has for a user type of so many bytes
abbrev pub comp_obj_size : ℕ → ℕ
comp_obj_size zero = 40
comp_obj_size (suc size) = 41 + suc size

-- what the types of an object's values promise
pub record IsTyped (o : DocObject) : Type 0 where
  pub class : length o.class ≡ CLASS_BYTES
  pub in_order : AreInOrder o.stored.streams

abbrev pub AreTyped : List DocObject → Type 0
AreTyped [] = Unit {0}
AreTyped (o ∷ os) = IsTyped o × AreTyped os
