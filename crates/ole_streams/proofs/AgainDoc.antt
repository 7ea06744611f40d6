-- The tree of a document holds it.
use Rattle.std.proofs.Common.{◌≡◌, ◌<◌, ◌≤◌, ◌+◌, ◌^◌, ◌/◌, ◌%◌, zero, suc, ◌++◌, ◌∷◌, ◌∙◌, ◌||◌, ℕ, List, [], Bool}
use Rattle.std.proofs.Common.{true, false, cond, not, nat_lt, nat_le, Ok, Err, Some, None, map, length, take, get_or}
use Rattle.std.proofs.Common.{refl, sym, ap, subst, arith, rules, append_assoc, append-nil, length-append}
use Rattle.std.proofs.lemmas.List.{length-map}
use Rattle.std.specs.Char.{to_ascii_uppercase}
use Rattle.std.specs.Int.{w32, to_le_bytes}
use Rattle.std.specs.List.{flat_map}
use Rattle.std.specs.Ordering.{is_eq, is_lt, match_ordering}
use Rattle.std.specs.declared.cmp.Ordering.TheVariants.{Less, Equal, Greater}
use Rattle.std.proofs.lemmas.Nat.{from_le_bytes-to_le_bytes_2, from_le_bytes-to_le_bytes_4}
use Rattle.std.proofs.lemmas.Bool.Decides.{nat_tests}
use Rattle.cfb_names.specs.Names.{key, key_cmp, key_eq, name_cmp}
use Rattle.cfb_names.proofs.Keys.{keys_agree}
use Rattle.tree_streams.specs.Limits.{OLE, COMP_OBJ, OLE_PRES, has_ole_name, is_ole_name, is_within, total}
use Rattle.tree_streams.specs.Limits.{MOST_STREAMS, MOST_BYTES}
use Rattle.tree_streams.specs.declared.area.Area.{Area}
use Rattle.cfb_entries.specs.Tree.{Children, tree, none, stream, storage}
use Rattle.tree_storage.specs.Change.{Seen, bytes, inner, child, find, place, without}
use Rattle.tree_streams.specs.Streams.{AreAfter, AreInOrder, is_next}
use Rattle.tree_streams.specs.declared.streams.NamedStream.{NamedStream}
use Rattle.tree_storage.proofs.Entries.{find-child, key_eq-flip, place-child, reflexive, without-child}
use Rattle.tree_storage.proofs.Lawful.{find-place, find-place-other}
use Rattle.tree_storage.proofs.Wholes.{tied}
use Rattle.ole_model.specs.CompObjs.{comp_obj_bytes, user_type_read}
use Rattle.ole_model.specs.Documents.{Doc, no_objects}
use Rattle.ole_model.specs.DocOf.{as_picture, as_storage, as_stream, behind_comp_obj, behind_layout, behind_picture}
use Rattle.ole_model.specs.DocOf.{is_object, object_of, object_pushed, object_read, objects_behind, pushed}
use Rattle.ole_model.specs.DocOf.{session_read, streams_behind}
use Rattle.ole_model.specs.DocTree.{LAYOUT, SESSION, object_name, object_tree, placed, with_objects, with_picture}
use Rattle.ole_model.specs.DocTree.{with_session, with_streams}
use Rattle.ole_model.specs.Fields.{map_ok, on_ok}
use Rattle.ole_streams.specs.Docs.{AreHeld, IsArea, IsHeld}
use Rattle.ole_streams.specs.Laws.{DocumentIsReadAgain}
use Rattle.ole_model.specs.Layouts.{area_at, area_bytes, areas_read, layout_bytes, layout_read}
use Rattle.ole_model.specs.OleStreams.{ole_bytes, ole_read}
use Rattle.ole_model.specs.declared.object.DocObject.{DocObject}
use Rattle.ole_model.specs.declared.fault.OleFault.TheVariants.{NotADocument, TooManyObjects}
use Rattle.ole_model.proofs.Again.{and_left, and_right, user_type_again}
use Rattle.ole_model.proofs.Tests.{cond_false, cond_true, not_lt}

-- Children that are placed are found, and taken away again.
some_none : {A : Type 0} {P : Type 0} {x : A} → Some x ≡ None → P
some_none h = absurd (search rules)

pub not_found : (k q : List ℕ) (c : List ℕ × Seen) (cs : Children) → find k (child q c cs) ≡ None
    → (key_eq k q ≡ false) × (find k cs ≡ None)
not_found k q c cs h =
    elim (key_eq k q) as (λ b. cond b (Some c) (find k cs) ≡ None → (b ≡ false) × (find k cs ≡ None))
    [ true ↦ λ g. some_none g | false ↦ λ g. (refl, g) ] (sym (find-child k q c cs) ∙ h)

without-step : (k : List ℕ) (c : List ℕ × Seen) (q : List ℕ) (old : List ℕ × Seen) (cs : Children)
    → find k (child q old cs) ≡ None
    → (find k cs ≡ None → without k (place k c cs) ≡ cs) → without k (place k c (child q old cs)) ≡ child q old cs
without-step k c q old cs h ih =
    let f = not_found k q old cs h in
    ap (without k) (place-child k c q old cs)
    ∙ (elim (key_cmp k q) as (λ o. is_eq o ≡ false
    → without k (match_ordering o (child k c (child q old cs)) (child q c cs) (child q old (place k c cs)))
    ≡ child q old cs) [
      | Less ↦ λ e. without-child k k c (child q old cs)
          ∙ ap (λ o. cond (is_eq o) (child q old cs) (child k c (without k (child q old cs)))) (reflexive k)
      | Equal ↦ λ e. absurd (search rules)
      | Greater ↦ λ e. without-child k q old (place k c cs)
          ∙ ap (λ b. cond b (place k c cs) (child q old (without k (place k c cs)))) f.0 ∙ ap (child q old) (ih f.1)
    ] f.0)

without-place : (k : List ℕ) (c : List ℕ × Seen) (cs : Children) → find k cs ≡ None → without k (place k c cs) ≡ cs
without-place k c none h = without-child k k c none ∙ ap (λ o. cond (is_eq o) none (child k c none)) (reflexive k)
without-place k c (stream q n b cs) h = without-step k c q (n, bytes b) cs h (without-place k c cs)
without-place k c (storage q n t cs) h = without-step k c q (n, inner t) cs h (without-place k c cs)

child-none : (k q : List ℕ) (c : List ℕ × Seen) (cs : Children) → find k (child q c cs) ≡ None → without k cs ≡ cs
    → without k (child q c cs) ≡ child q c cs
child-none k q c cs h ih = without-child k q c cs ∙ ap (λ b. cond b cs (child q c (without k cs)))
    (not_found k q c cs h).0 ∙ ap (child q c) ih

without-none : (k : List ℕ) (cs : Children) → find k cs ≡ None → without k cs ≡ cs
without-none k none h = refl
without-none k (stream q n b cs) h = child-none k q (n, bytes b) cs h
    (without-none k cs (not_found k q (n, bytes b) cs h).1)
without-none k (storage q n t cs) h = child-none k q (n, inner t) cs h
    (without-none k cs (not_found k q (n, inner t) cs h).1)

-- An object's own streams.
or_left : (a b : Bool) → a || b ≡ false → a ≡ false
or_left true b h = h
or_left false b h = refl

or_right : (a b : Bool) → a || b ≡ false → b ≡ false
or_right true b h = absurd (search rules)
or_right false b h = h

apart : (n q : List ℕ) → is_eq (name_cmp n q) ≡ false → key_eq (key q) (key n) ≡ false
apart n q h = key_eq-flip (key n) (key q) (ap is_eq (keys_agree n q) ∙ h)

no_stream : (q : List ℕ) (ss : List NamedStream) → has_ole_name ss ≡ false
    → ((n : List ℕ) → is_ole_name n ≡ false → is_eq (name_cmp n q) ≡ false)
    → find (key q) (with_streams ss none) ≡ None
no_stream q [] h f = refl
no_stream q (s ∷ ss) h f =
    find-place-other (key q) (key s.name) (s.name, bytes s.bytes) (with_streams ss none)
    (apart s.name q (f s.name (or_left (is_ole_name s.name) (has_ole_name ss) h)))
    ∙ no_stream q ss (or_right (is_ole_name s.name) (has_ole_name ss) h) f

unfoldable pub listed : List NamedStream → Children
listed [] = none
listed (s ∷ ss) = stream (key s.name) s.name s.bytes (listed ss)

pub in_front : (s : NamedStream) (ss : List NamedStream) → AreAfter s.name ss
    → placed s.name (bytes s.bytes) (listed ss) ≡ listed (s ∷ ss)
unfolding listed
in_front s [] h = refl
in_front s (t ∷ ss) h =
    ap (λ o. match_ordering o (child (key s.name) (s.name, bytes s.bytes) (listed (t ∷ ss)))
    (child (key t.name) (s.name, bytes s.bytes) (listed ss))
    (child (key t.name) (t.name, bytes t.bytes) (placed s.name (bytes s.bytes) (listed ss))))
    (keys_agree s.name t.name ∙ h.0)

pub listed-is : (ss : List NamedStream) → AreInOrder ss → with_streams ss none ≡ listed ss
unfolding listed
listed-is [] h = refl
listed-is (s ∷ ss) h = ap (placed s.name (bytes s.bytes)) (listed-is ss h.1) ∙ in_front s ss h.0

next-in : (before : List NamedStream) (s : NamedStream) (ss : List NamedStream) → AreInOrder (before ++ s ∷ ss)
    → is_next before s.name ≡ true
next-in [] s ss h = refl
next-in (a ∷ []) s ss h = ap is_lt h.0.0
next-in (a ∷ b ∷ before) s ss h = next-in (b ∷ before) s ss h.1

streams-again : (before ss : List NamedStream) → AreInOrder (before ++ ss)
    → streams_behind before (listed ss) ≡ Ok (before ++ ss)
unfolding listed
streams-again before [] h = ap Ok (sym (append-nil before))
streams-again before (s ∷ ss) h =
    let e : (before ++ s ∷ []) ++ ss ≡ before ++ s ∷ ss = append_assoc before (s ∷ []) ss in
    let P : List NamedStream → Type 0 = AreInOrder in
    ap (λ b. cond b (streams_behind (before ++ s ∷ []) (listed ss)) (Err NotADocument)) (next-in before s ss h)
    ∙ streams-again (before ++ s ∷ []) ss (subst P (sym e) h) ∙ ap Ok e

-- An object's storage.
not-true : (b : Bool) → not b ≡ true → b ≡ false
not-true true h = absurd (search rules)
not-true false h = refl

pub own-names : (o : DocObject) → is_object o ≡ true → has_ole_name o.stored.streams ≡ false
own-names o h =
    let w = and_left (is_within o.stored) (nat_lt (length o.user_type) 0xFFFFFFFF) h in
    let r = and_right (nat_le (length o.stored.streams) MOST_STREAMS) _ w in
    not-true (has_ole_name o.stored.streams)
    (and_right (nat_le (total o.stored.streams + length o.stored.picture) MOST_BYTES) _ r)

short-type : (o : DocObject) → is_object o ≡ true → length o.user_type < 0xFFFFFFFF
short-type o h = let w = and_right (is_within o.stored) (nat_lt (length o.user_type) 0xFFFFFFFF) h in
    grind (arith, nat_tests, w)

-- the keys of the three OLE streams are free where each of them is placed
pub no_ole : (ss : List NamedStream) → has_ole_name ss ≡ false → find (key OLE) (with_streams ss none) ≡ None
no_ole ss own = no_stream OLE ss own
    (λ n e. or_left (is_eq (name_cmp n OLE)) (is_eq (name_cmp n COMP_OBJ) || is_eq (name_cmp n OLE_PRES)) e)

pub no_comp_obj : (ss : List NamedStream) → has_ole_name ss ≡ false
    → find (key COMP_OBJ) (placed OLE (bytes ole_bytes) (with_streams ss none)) ≡ None
no_comp_obj ss own = find-place-other (key COMP_OBJ) (key OLE) (OLE, bytes ole_bytes) (with_streams ss none) refl
    ∙ no_stream COMP_OBJ ss own (λ n e. or_left (is_eq (name_cmp n COMP_OBJ)) (is_eq (name_cmp n OLE_PRES))
    (or_right (is_eq (name_cmp n OLE)) (is_eq (name_cmp n COMP_OBJ) || is_eq (name_cmp n OLE_PRES)) e))

pub no_picture : (class user : List ℕ) (ss : List NamedStream) → has_ole_name ss ≡ false
    → find (key OLE_PRES) (placed COMP_OBJ (bytes (comp_obj_bytes class user))
    (placed OLE (bytes ole_bytes) (with_streams ss none))) ≡ None
no_picture class user ss own = find-place-other (key OLE_PRES) (key COMP_OBJ)
    (COMP_OBJ, bytes (comp_obj_bytes class user)) (placed OLE (bytes ole_bytes) (with_streams ss none)) refl
    ∙ find-place-other (key OLE_PRES) (key OLE) (OLE, bytes ole_bytes) (with_streams ss none) refl
    ∙ no_stream OLE_PRES ss own (λ n e. or_right (is_eq (name_cmp n COMP_OBJ)) (is_eq (name_cmp n OLE_PRES))
    (or_right (is_eq (name_cmp n OLE)) (is_eq (name_cmp n COMP_OBJ) || is_eq (name_cmp n OLE_PRES)) e))

module _ (area : Area) (class user : List ℕ) (ss : List NamedStream) (len : length class ≡ 16)
    (short : length user < 0xFFFFFFFF) (own : has_ole_name ss ≡ false) (order : AreInOrder ss) where
  abbrev natives : Children
  natives = with_streams ss none

  abbrev with_ole : Children
  with_ole = placed OLE (bytes ole_bytes) natives

  abbrev with_both : Children
  with_both = placed COMP_OBJ (bytes (comp_obj_bytes class user)) with_ole

  abbrev made : List ℕ → DocObject
  made picture = record {
    class = class;
    user_type = user;
    area = area;
    stored = record { streams = ss; picture = picture };
  }

  streams-read : (picture : List ℕ) → object_of area class picture user natives ≡ Ok (made picture)
  streams-read picture =
      ap (λ cs. object_of area class picture user cs) (listed-is ss order)
      ∙ ap
      (on_ok
      (λ streams. Ok (record {
        class = class;
        user_type = user;
        area = area;
        stored = record { streams = streams; picture = picture };
      }))) (streams-again [] ss order)

  ole-read : (picture : List ℕ) → behind_comp_obj area class picture user with_ole ≡ Ok (made picture)
  ole-read picture =
      ap (λ f. on_ok (λ u. object_of area class picture user (without (key OLE) with_ole))
      (on_ok ole_read (as_stream f))) (find-place (key OLE) (OLE, bytes ole_bytes) natives)
      ∙ ap (object_of area class picture user) (without-place (key OLE) (OLE, bytes ole_bytes) natives (no_ole ss own))
      ∙ streams-read picture

  comp_obj-read : (picture : List ℕ) → behind_picture area class picture with_both ≡ Ok (made picture)
  comp_obj-read picture =
      ap (λ f. on_ok (λ u. behind_comp_obj area class picture u (without (key COMP_OBJ) with_both))
      (on_ok user_type_read (as_stream f)))
      (find-place (key COMP_OBJ) (COMP_OBJ, bytes (comp_obj_bytes class user)) with_ole)
      ∙ ap (on_ok (λ u. behind_comp_obj area class picture u (without (key COMP_OBJ) with_both)))
      (user_type_again class user len short)
      ∙ ap (behind_comp_obj area class picture user)
      (without-place (key COMP_OBJ) (COMP_OBJ, bytes (comp_obj_bytes class user)) with_ole (no_comp_obj ss own))
      ∙ ole-read picture

  picture-read : (picture : List ℕ) → object_read area (tree class 0 (with_picture picture with_both))
      ≡ Ok (made picture)
  picture-read [] =
      ap (λ f. on_ok (λ p. behind_picture area class p (without (key OLE_PRES) with_both)) (as_picture f))
      (no_picture class user ss own)
      ∙ ap (behind_picture area class []) (without-none (key OLE_PRES) with_both (no_picture class user ss own))
      ∙ comp_obj-read []
  picture-read (b ∷ bs) =
      ap (λ f. on_ok (λ p. behind_picture area class p
      (without (key OLE_PRES) (placed OLE_PRES (bytes (b ∷ bs)) with_both))) (as_picture f))
      (find-place (key OLE_PRES) (OLE_PRES, bytes (b ∷ bs)) with_both)
      ∙ ap (behind_picture area class (b ∷ bs))
      (without-place (key OLE_PRES) (OLE_PRES, bytes (b ∷ bs)) with_both (no_picture class user ss own))
      ∙ comp_obj-read (b ∷ bs)

object-again : (o : DocObject) → IsHeld o → object_read o.area (object_tree o) ≡ Ok o
object-again o h = picture-read o.area o.class o.user_type o.stored.streams h.class (short-type o h.within)
    (own-names o h.within) h.in_order o.stored.picture

-- The names of objects.
upper-same : (c : ℕ) → c < 97 → to_ascii_uppercase c ≡ c
upper-same c h = grind (arith, nat_tests)

digits : ℕ → Bool → List ℕ
digits n b = 79 ∷ 98 ∷ 106 ∷ cond b ((48 + n) ∷ []) ((48 + n / 10) ∷ (48 + n % 10) ∷ [])

same-names : (n m : ℕ) (a b : Bool) → nat_lt n 10 ≡ a → nat_lt m 10 ≡ b → n < m → m < 100
    → key (digits n a) ≡ key (digits m b) → ⊥
unfolding digits
same-names n m true true p q h l e =
    let x : n < 10 = grind (arith, nat_tests) in
    let y : m < 10 = grind (arith, nat_tests) in
    let d : 48 + n ≡ 48 + m = sym (upper-same (48 + n) (omega arith)) ∙ ap (λ k. get_or k 4 0) e
    ∙ upper-same (48 + m) (omega arith) in
    omega arith
same-names n m true false p q h l e = let d : ◌≡◌ {A = ℕ} 4 5 = ap (λ k. get_or k 0 0) e in omega arith
same-names n m false true p q h l e =
    let x : 10 ≤ n = grind (arith, nat_tests) in
    let y : m < 10 = grind (arith, nat_tests) in
    omega arith
same-names n m false false p q h l e =
    let x : 10 ≤ n = grind (arith, nat_tests) in
    let tens : 48 + n / 10 ≡ 48 + m / 10 = sym (upper-same (48 + n / 10) (omega arith)) ∙ ap (λ k. get_or k 4 0) e
    ∙ upper-same (48 + m / 10) (omega arith) in
    let ones : 48 + n % 10 ≡ 48 + m % 10 = sym (upper-same (48 + n % 10) (omega arith)) ∙ ap (λ k. get_or k 5 0) e
    ∙ upper-same (48 + m % 10) (omega arith) in
    omega arith

pub names-apart : (n m : ℕ) → n < m → m < 100 → key_eq (key (object_name n)) (key (object_name m)) ≡ false
unfolding digits
names-apart n m h l =
    elim (key_eq (key (object_name n)) (key (object_name m))) as (λ b. key_eq (key (object_name n))
    (key (object_name m)) ≡ b → b ≡ false) [
      | true ↦ λ e. absurd (same-names n m (nat_lt n 10) (nat_lt m 10) refl refl h l
          (tied (key (object_name n)) (key (object_name m)) e))
      | false ↦ λ e. refl
    ] refl

pub layout-apart : (m : ℕ) → key_eq (key LAYOUT) (key (object_name m)) ≡ false
unfolding digits
layout-apart m = elim (nat_lt m 10) as (λ b. key_eq (key LAYOUT) (key (digits m b)) ≡ false) [
  | true ↦ refl
  | false ↦
      refl
]

pub session-apart : (m : ℕ) → key_eq (key SESSION) (key (object_name m)) ≡ false
unfolding digits
session-apart m = elim (nat_lt m 10) as (λ b. key_eq (key SESSION) (key (digits m b)) ≡ false) [
  | true ↦
      refl
  | false ↦ refl
]

pub not_among : (q : List ℕ) (m : ℕ) (os : List DocObject)
    → ((k : ℕ) → m ≤ k → k < m + length os → key_eq q (key (object_name k)) ≡ false)
    → find q (with_objects m os none) ≡ None
not_among q m [] f = refl
not_among q m (o ∷ os) f =
    find-place-other q (key (object_name m)) (object_name m, inner (object_tree o)) (with_objects (m + 1) os none)
    (f m (omega arith) (omega arith))
    ∙ not_among q (m + 1) os (λ k l h. f k (omega (arith, l)) (omega (arith, h)))

-- Objects one behind another.
pushed-ok : (d : Doc) (o : DocObject) → length d.objects < 64 → is_object o ≡ true
    → pushed d o ≡ Ok (record d { objects = d.objects ++ o ∷ [] })
pushed-ok d o h w =
    let e : nat_le 64 (length d.objects) ≡ false = grind (arith, nat_tests) in
    cond_false _ _ _ e ∙ cond_true _ _ _ w

objects-again : (before : Doc) (os : List DocObject) (n : ℕ) → AreHeld os → length before.objects + length os ≤ 64
    → n + length os ≤ 100
    → objects_behind before n (map (λ o. o.area) os) (with_objects n os none)
    ≡ Ok (record before { objects = before.objects ++ os })
objects-again before [] n all few low = ap (λ xs. Ok (record before { objects = xs })) (sym (append-nil before.objects))
objects-again before (o ∷ os) n all few low =
    let after : Doc = record before { objects = before.objects ++ o ∷ [] } in
    let rest = with_objects (n + 1) os none in
    let k = key (object_name n) in
    let c : List ℕ × Seen = (object_name n, inner (object_tree o)) in
    let here : object_pushed before n o.area (place k c rest) ≡ Ok after =
    ap (λ f. on_ok (λ x. pushed before x) (on_ok (λ t. object_read o.area t) (as_storage f))) (find-place k c rest)
    ∙ ap (on_ok (λ x. pushed before x)) (object-again o all.0)
    ∙ pushed-ok before o (omega arith) all.0.within in
    let alone : find k rest ≡ None = not_among k (n + 1) os
    (λ m l h. names-apart n m (omega (arith, l)) (omega (arith, h))) in
    let more : length (before.objects ++ o ∷ []) + length os ≤ 64 = simp length-append (omega arith) in
    ap (on_ok (λ d. objects_behind d (n + 1) (map (λ x. x.area) os) (without k (place k c rest)))) here
    ∙ ap (objects_behind after (n + 1) (map (λ x. x.area) os)) (without-place k c rest alone)
    ∙ objects-again after os (n + 1) all.1 more (omega arith)
    ∙ ap (λ xs. Ok (record before { objects = xs })) (append_assoc before.objects (o ∷ []) os)

-- The layout.
area-again : (a : Area) (rest : List ℕ) → IsArea a → area_at (take 8 (area_bytes a ++ rest)) ≡ a
area-again a rest h = λ t. record {
  x = from_le_bytes-to_le_bytes_2 a.x h.x t;
  y = from_le_bytes-to_le_bytes_2 a.y h.y t;
  w = from_le_bytes-to_le_bytes_2 a.w h.w t;
  h = from_le_bytes-to_le_bytes_2 a.h h.h t;
}

areas-again : (os : List DocObject) → AreHeld os → areas_read (length (map (λ o. o.area) os))
    (flat_map area_bytes (map (λ o. o.area) os)) ≡ Ok (map (λ o. o.area) os)
areas-again [] all = refl
areas-again (o ∷ os) all =
    let rest = flat_map area_bytes (map (λ x. x.area) os) in
    cond_false _ _ _ (not_lt (length (area_bytes o.area ++ rest)) 8 (omega arith))
    ∙ ap (map_ok (λ areas. area_at (take 8 (area_bytes o.area ++ rest)) ∷ areas)) (areas-again os all.1)
    ∙ ap (λ a. Ok (a ∷ map (λ x. x.area) os)) (area-again o.area rest all.0.area)

layout-again : (os : List DocObject) → length os ≤ 64 → AreHeld os
    → layout_read (layout_bytes (map (λ o. o.area) os)) ≡ Ok (map (λ o. o.area) os)
layout-again os few all =
    let areas : List Area = map (λ o. o.area) os in
    let count : length areas ≡ length os = length-map os (λ o. o.area) in
    let small : nat_lt 64 (length areas) ≡ false = rw count (not_lt 64 (length os) few) in
    cond_false _ _ _ (not_lt (length (layout_bytes areas)) 8 (omega arith))
    ∙ ap (λ n. cond (nat_lt 64 n) (Err TooManyObjects) (areas_read n (flat_map area_bytes areas)))
    (from_le_bytes-to_le_bytes_4 (length areas) (omega (arith, count)))
    ∙ cond_false _ _ _ small
    ∙ areas-again os all

-- The session.
pub no_session : (os : List DocObject) → find (key SESSION) (with_objects 1 os none) ≡ None
no_session os = not_among (key SESSION) 1 os (λ k l h. session-apart k)

session-again : (session : ℕ) (areas : List Area) (os : List DocObject) → session < 2 ^ 32
    → behind_layout areas (with_session session (with_objects 1 os none)) ≡ objects_behind (no_objects session) 1
    areas (with_objects 1 os none)
session-again zero areas os low =
    let rest = with_objects 1 os none in
    ap (λ f. on_ok (λ s. objects_behind (no_objects s) 1 areas (without (key SESSION) rest)) (session_read f))
    (no_session os)
    ∙ ap (objects_behind (no_objects 0) 1 areas) (without-none (key SESSION) rest (no_session os))
session-again (suc n) areas os low =
    let rest = with_objects 1 os none in
    let c : List ℕ × Seen = (SESSION, bytes (to_le_bytes w32 (suc n))) in
    ap (λ f. on_ok (λ s. objects_behind (no_objects s) 1 areas (without (key SESSION) (place (key SESSION) c rest)))
    (session_read f)) (find-place (key SESSION) c rest)
    ∙ ap (λ s. objects_behind (no_objects s) 1 areas (without (key SESSION) (place (key SESSION) c rest)))
    (from_le_bytes-to_le_bytes_4 (suc n) low)
    ∙ ap (objects_behind (no_objects (suc n)) 1 areas) (without-place (key SESSION) c rest (no_session os))

-- no layout among objects, nor where the session stands beside them
pub no_layout : (session : ℕ) (os : List DocObject)
    → find (key LAYOUT) (with_session session (with_objects 1 os none)) ≡ None
no_layout zero os = not_among (key LAYOUT) 1 os (λ k l h. layout-apart k)
no_layout (suc n) os =
    find-place-other (key LAYOUT) (key SESSION) (SESSION, bytes (to_le_bytes w32 (suc n))) (with_objects 1 os none) refl
    ∙ not_among (key LAYOUT) 1 os (λ k l h. layout-apart k)

pub document_again : DocumentIsReadAgain
document_again d doc =
    let os = d.objects in
    let c : List ℕ × Seen = (LAYOUT, bytes (layout_bytes (map (λ o. o.area) os))) in
    let rest = with_session d.session (with_objects 1 os none) in
    ap (λ f. on_ok (λ areas. behind_layout areas (without (key LAYOUT) (place (key LAYOUT) c rest)))
    (on_ok layout_read (as_stream f))) (find-place (key LAYOUT) c rest)
    ∙ ap (on_ok (λ areas. behind_layout areas (without (key LAYOUT) (place (key LAYOUT) c rest))))
    (layout-again os doc.few doc.held)
    ∙ ap (behind_layout (map (λ o. o.area) os)) (without-place (key LAYOUT) c rest (no_layout d.session os))
    ∙ session-again d.session (map (λ o. o.area) os) os doc.session
    ∙ objects-again (no_objects d.session) os 1 doc.held (omega (arith, doc.few)) (omega (arith, doc.few))
