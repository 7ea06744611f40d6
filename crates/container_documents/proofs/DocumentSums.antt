-- A document's tree needs what is reckoned of it, object by object.
use Rattle.std.proofs.Common.{◌≡◌, ◌≤◌, ◌+◌, ◌∙◌, ℕ, zero, suc, true, false, List, [], ◌∷◌, None, map, length, nat_le}
use Rattle.std.proofs.Common.{refl, ap, arith, rules}
use Rattle.std.specs.Int.{w32, to_le_bytes}
use Rattle.std.specs.Ordering.{is_eq, match_ordering}
use Rattle.std.specs.declared.cmp.Ordering.TheVariants.{Less, Equal, Greater}
use Rattle.std.proofs.lemmas.Bool.{leb-true}
use Rattle.cfb_names.specs.Names.{key, key_cmp}
use Rattle.cfb_entries.specs.Tree.{Tree, Children, tree, none, stream, storage}
use Rattle.tree_storage.specs.Change.{Seen, bytes, inner, child, find, place}
use Rattle.tree_streams.specs.Streams.{AreInOrder}
use Rattle.tree_streams.specs.declared.streams.NamedStream.{NamedStream}
use Rattle.tree_storage.proofs.Entries.{place-child}
use Rattle.tree_streams.specs.Limits.{OLE, COMP_OBJ, OLE_PRES}
use Rattle.ole_model.specs.CompObjs.{comp_obj_bytes}
use Rattle.ole_model.specs.OleStreams.{ole_bytes}
use Rattle.ole_model.proofs.Again.{and_left, and_right}
use Rattle.ole_model.specs.DocOf.{is_object}
use Rattle.ole_model.specs.Documents.{Doc}
use Rattle.ole_model.specs.DocTree.{LAYOUT, SESSION, object_name, object_tree, placed, with_objects, with_picture}
use Rattle.ole_model.specs.DocTree.{with_session, with_streams, doc_tree}
use Rattle.ole_model.specs.Layouts.{MOST_OBJECTS, layout_bytes}
use Rattle.ole_model.specs.declared.object.DocObject.{DocObject}
use Rattle.ole_streams.proofs.AgainDoc.{not_found, own-names, no_ole, no_comp_obj, no_picture, no_layout, no_session}
use Rattle.ole_streams.proofs.AgainDoc.{names-apart, not_among, listed, listed-is}
use Rattle.cfb_file.specs.Need.{entries, entries_of, over_streams, over_streams_of}
use Rattle.container_model.specs.Saves.{are_objects, is_document}
use Rattle.container_documents.specs.Sums.{streams_sum, picture_sum, object_sum, objects_sum, session_sum, document_sum}
use Rattle.container_documents.specs.Sums.{one, AreTyped}

-- a sum over all streams and storages below
abbrev mutual
  pub sum : (List ℕ → ℕ) → ℕ → Tree → ℕ
  sum f z (tree class state cs) = sum_of f z cs

  pub sum_of : (List ℕ → ℕ) → ℕ → Children → ℕ
  sum_of f z none = 0
  sum_of f z (stream k n b cs) = f b + sum_of f z cs
  sum_of f z (storage k n t cs) = z + sum f z t + sum_of f z cs

mutual
  pub over-sum : (f : List ℕ → ℕ) (t : Tree) → over_streams f t ≡ sum f 0 t
  over-sum f (tree class state cs) = over_of-sum f cs

  over_of-sum : (f : List ℕ → ℕ) (cs : Children) → over_streams_of f cs ≡ sum_of f 0 cs
  over_of-sum f none = refl
  over_of-sum f (stream k n b cs) = ap (λ x. f b + x) (over_of-sum f cs)
  over_of-sum f (storage k n t cs) = let a = over-sum f t in let b = over_of-sum f cs in omega (arith, a, b)

mutual
  pub entries-sum : (t : Tree) → entries t ≡ sum one 1 t
  entries-sum (tree class state cs) = entries_of-sum cs

  entries_of-sum : (cs : Children) → entries_of cs ≡ sum_of one 1 cs
  entries_of-sum none = refl
  entries_of-sum (stream k n b cs) = ap (λ x. 1 + x) (entries_of-sum cs)
  entries_of-sum (storage k n t cs) = let a = entries-sum t in let b = entries_of-sum cs in omega (arith, a, b)

module _ (f : List ℕ → ℕ) (z : ℕ) where
  abbrev weight : Seen → ℕ
  weight (bytes b) = f b
  weight (inner t) = z + sum f z t

  sum-child : (k : List ℕ) (c : List ℕ × Seen) (cs : Children) → sum_of f z (child k c cs) ≡ weight c.1 + sum_of f z cs
  sum-child k (n, bytes b) cs = refl
  sum-child k (n, inner t) cs = refl

  -- a child is placed where nothing stands under its key
  place-step : (k : List ℕ) (c : List ℕ × Seen) (q : List ℕ) (old : List ℕ × Seen) (cs : Children)
      → find k (child q old cs) ≡ None
      → (find k cs ≡ None → sum_of f z (place k c cs) ≡ weight c.1 + sum_of f z cs)
      → sum_of f z (place k c (child q old cs)) ≡ weight c.1 + sum_of f z (child q old cs)
  place-step k c q old cs h ih =
      let n = not_found k q old cs h in
      ap (sum_of f z) (place-child k c q old cs)
      ∙ (elim (key_cmp k q) as (λ o. is_eq o ≡ false
      → sum_of f z (match_ordering o (child k c (child q old cs)) (child q c cs) (child q old (place k c cs)))
      ≡ weight c.1 + sum_of f z (child q old cs)) [
        | Less ↦ λ e. sum-child k c (child q old cs)
        | Equal ↦ λ e. absurd (search rules)
        | Greater ↦ λ e. let a = sum-child q old (place k c cs) in let b = sum-child q old cs in let d = ih n.1 in
            omega (arith, a, b, d)
      ] n.0)

  sum-place : (k : List ℕ) (c : List ℕ × Seen) (cs : Children) → find k cs ≡ None
      → sum_of f z (place k c cs) ≡ weight c.1 + sum_of f z cs
  sum-place k c none h = sum-child k c none
  sum-place k c (stream q n b cs) h = place-step k c q (n, bytes b) cs h (sum-place k c cs)
  sum-place k c (storage q n t cs) h = place-step k c q (n, inner t) cs h (sum-place k c cs)

  -- an object's own streams, and the three OLE streams beside them
  sum-listed : (ss : List NamedStream) → sum_of f z (listed ss) ≡ streams_sum f ss
  unfolding listed
  sum-listed [] = refl
  sum-listed (s ∷ ss) = ap (λ x. f s.bytes + x) (sum-listed ss)

  sum-streams : (ss : List NamedStream) → AreInOrder ss → sum_of f z (with_streams ss none) ≡ streams_sum f ss
  sum-streams ss order = ap (sum_of f z) (listed-is ss order) ∙ sum-listed ss

  sum-picture : (picture : List ℕ) (cs : Children) → find (key OLE_PRES) cs ≡ None
      → sum_of f z (with_picture picture cs) ≡ picture_sum f picture + sum_of f z cs
  sum-picture [] cs h = omega arith
  sum-picture (b ∷ bs) cs h = sum-place (key OLE_PRES) (OLE_PRES, bytes (b ∷ bs)) cs h

  sum-object : (o : DocObject) → is_object o ≡ true → AreInOrder o.stored.streams
      → z + sum f z (object_tree o) ≡ object_sum f z o
  sum-object o held order =
      let own = own-names o held in
      let ss = o.stored.streams in
      let natives : Children = with_streams ss none in
      let with_ole : Children = placed OLE (bytes ole_bytes) natives in
      let with_both : Children = placed COMP_OBJ (bytes (comp_obj_bytes o.class o.user_type)) with_ole in
      let a = sum-streams ss order in
      let b = sum-place (key OLE) (OLE, bytes ole_bytes) natives (no_ole ss own) in
      let c = sum-place (key COMP_OBJ) (COMP_OBJ, bytes (comp_obj_bytes o.class o.user_type)) with_ole
      (no_comp_obj ss own) in
      let d = sum-picture o.stored.picture with_both (no_picture o.class o.user_type ss own) in
      ap (λ x. z + x) (d ∙ ap (λ x. picture_sum f o.stored.picture + x)
      (c ∙ ap (λ x. f (comp_obj_bytes o.class o.user_type) + x) (b ∙ ap (λ x. f ole_bytes + x) a)))

  sum-objects : (m : ℕ) (os : List DocObject) → m + length os ≤ 100 → are_objects os ≡ true → AreTyped os
      → sum_of f z (with_objects m os none) ≡ objects_sum f z os
  sum-objects m [] few held typed = refl
  sum-objects m (o ∷ os) few held typed =
      let free = not_among (key (object_name m)) (m + 1) os
      (λ k l h. names-apart m k (omega (arith, l)) (omega (arith, h, few))) in
      let a = sum-place (key (object_name m)) (object_name m, inner (object_tree o)) (with_objects (m + 1) os none)
      free in
      let b = sum-object o (and_left (is_object o) (are_objects os) held) typed.0.in_order in
      let c = sum-objects (m + 1) os (omega (arith, few)) (and_right (is_object o) (are_objects os) held) typed.1 in
      a ∙ ap (λ x. x + sum_of f z (with_objects (m + 1) os none)) b ∙ ap (λ x. object_sum f z o + x) c

  sum-session : (session : ℕ) (cs : Children) → find (key SESSION) cs ≡ None
      → sum_of f z (with_session session cs) ≡ session_sum f session + sum_of f z cs
  sum-session zero cs h = omega arith
  sum-session (suc n) cs h = sum-place (key SESSION) (SESSION, bytes (to_le_bytes w32 (suc n))) cs h

  pub sum-document : (d : Doc) → is_document d.objects ≡ true → AreTyped d.objects
      → sum f z (doc_tree d) ≡ document_sum f z d
  sum-document d is typed =
      let os = d.objects in
      let few = leb-true (length os) MOST_OBJECTS (and_left (nat_le (length os) MOST_OBJECTS) (are_objects os) is) in
      let held = and_right (nat_le (length os) MOST_OBJECTS) (are_objects os) is in
      let layout = layout_bytes (map (λ (o : DocObject). o.area) os) in
      sum-place (key LAYOUT) (LAYOUT, bytes layout) (with_session d.session (with_objects 1 os none))
      (no_layout d.session os)
      ∙ ap (λ x. f layout + x) (sum-session d.session (with_objects 1 os none) (no_session os)
      ∙ ap (λ x. session_sum f d.session + x) (sum-objects 1 os (omega (arith, few)) held typed))
