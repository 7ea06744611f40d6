use Rattle.std.proofs.Common.{◌≡◌, ◌+◌, ◌*◌, ◌∙◌, ◌==◌, ℕ, true, false, List, [], ◌∷◌, drop, get_or, length, map, min}
use Rattle.std.proofs.Common.{refl, sym, ap, subst, arith, eq-eqb}
use Rattle.std.proofs.lemmas.Bool.{eqb-true}
use Rattle.std.proofs.lemmas.List.{drop_all, length-map}
use Rattle.ole_model.proofs.Again.{and_right}
use Rattle.ole_model.specs.DocOf.{is_object}
use Rattle.ole_model.specs.Documents.{Doc}
use Rattle.ole_model.specs.DocTree.{doc_tree}
use Rattle.ole_model.specs.Layouts.{layout_bytes}
use Rattle.ole_model.specs.declared.object.DocObject.{DocObject}
use Rattle.container_model.specs.Saves.{are_objects, document_tree, held_part, held_parts, part_of, parts_in}
use Rattle.cfb_file.specs.Limits.{MANY}
use Rattle.cfb_file.specs.Need.{long_pieces, short_pieces}
use Rattle.container_documents.specs.declared.room.Room.{Room}
use Rattle.container_documents.specs.Sums.{AreTyped, long_of, objects_sum, one, one_of, session_of, session_sum}
use Rattle.container_documents.specs.Sums.{short_of}
use Rattle.container_documents.proofs.DocumentSums.{sum, sum-document, over-sum, entries-sum}
use Rattle.container_documents.proofs.DocumentsRoom.{fits_told, layout-long}
use Rattle.container_documents.proofs.RoomSteps.{next_sum, passed, same_sum, last_sum, session_step, taken}
use Rattle.container_documents.proofs.room.has_room.Goals.{then-object-f, else-object-f}
use Rattle.container_documents.proofs.room.has_room.Goals as goal

-- the objects of the frame that are left, before this one and behind it
module _ (c : goal.Joined-object-f) where
  abbrev left : List DocObject
  left = held_parts (parts_in c.args.f (drop c.loop-object.object-index c.args.objects.now))

  abbrev behind : List DocObject
  behind = held_parts (parts_in c.args.f (drop (c.loop-object.object-index + 1) c.args.objects.now))

  abbrev this : DocObject
  this = held_part (part_of c.object-item.result)

  within : get_or c.args.objects.now c.loop-object.object-index c.object-item.result ≡ c.object-item.result
  within = sym c.object-item.is

pub loop-object-preserved : goal.loop-object-preserved
loop-object-preserved c = elim c.if-object-f.branch [
  | then-object-f w ↦
      let e : left c ≡ this c ∷ behind c = taken c.args.f c.args.objects.now c.loop-object.object-index
      c.object-item.result c.loop-object-test.true (within c)
      (eq-eqb c.object-item.result.frame c.args.f w.if-object-f.true) in
      let held = subst (λ ds. are_objects ds ≡ true) e c.loop-object.invariant.held in
      record {
        count = omega (arith, c.loop-object.invariant.count, ap (λ (ds : List DocObject). length ds) e, w.count-is);
        entries = next_sum MANY c.loop-object.room.entries c.if-object-f.room.entries one 1 (left c) (behind c)
            (this c) _ e (ap (λ (r : Room). min MANY r.entries) w.room-is ∙ w.object-room.ensures.entries)
            c.loop-object.invariant.entries;
        minis = next_sum MANY c.loop-object.room.minis c.if-object-f.room.minis short_pieces 0 (left c) (behind c)
            (this c) _ e (ap (λ (r : Room). min MANY r.minis) w.room-is ∙ w.object-room.ensures.minis)
            c.loop-object.invariant.minis;
        longs = next_sum MANY c.loop-object.room.longs c.if-object-f.room.longs long_pieces 0 (left c) (behind c)
            (this c) _ e (ap (λ (r : Room). min MANY r.longs) w.room-is ∙ w.object-room.ensures.longs)
            c.loop-object.invariant.longs;
        held = and_right (is_object (this c)) (are_objects (behind c)) held;
        typed = λ t. c.loop-object.invariant.typed (subst AreTyped (sym e) (w.object-room.ensures.typed, t));
      }
  | else-object-f w ↦
      let no : (c.object-item.result.frame == c.args.f) ≡ false =
      elim (c.object-item.result.frame == c.args.f) as (λ b. (c.object-item.result.frame == c.args.f) ≡ b
      → b ≡ false) [
        | true ↦ λ h. absurd (w.if-object-f.false (eqb-true c.object-item.result.frame c.args.f h))
        | false ↦ λ h. refl
      ] refl in
      let e : left c ≡ behind c = passed c.args.f c.args.objects.now c.loop-object.object-index c.object-item.result
      c.loop-object-test.true (within c) no in
      record {
        count = omega (arith, c.loop-object.invariant.count, ap (λ (ds : List DocObject). length ds) e, w.count-is);
        entries = ap (λ (r : Room). min MANY (r.entries + objects_sum one 1 (behind c))) w.room-is
            ∙ same_sum MANY c.loop-object.room.entries one 1 (left c) (behind c) _ e
            c.loop-object.invariant.entries;
        minis = ap (λ (r : Room). min MANY (r.minis + objects_sum short_pieces 0 (behind c))) w.room-is
            ∙ same_sum MANY c.loop-object.room.minis short_pieces 0 (left c) (behind c) _ e
            c.loop-object.invariant.minis;
        longs = ap (λ (r : Room). min MANY (r.longs + objects_sum long_pieces 0 (behind c))) w.room-is
            ∙ same_sum MANY c.loop-object.room.longs long_pieces 0 (left c) (behind c) _ e
            c.loop-object.invariant.longs;
        held = subst (λ ds. are_objects ds ≡ true) e c.loop-object.invariant.held;
        typed = λ t. c.loop-object.invariant.typed (subst AreTyped (sym e) t);
      }
]

-- once all objects are reckoned, the session and the layout are left
module _ (c : goal.After-fits) where
  abbrev whole : List DocObject
  whole = held_parts (parts_in c.args.f c.args.objects.now)

  abbrev rest : List DocObject
  rest = held_parts (parts_in c.args.f (drop c.loop-object.object-index c.args.objects.now))

  none_left : rest ≡ []
  none_left = ap (λ os. held_parts (parts_in c.args.f os))
      (drop_all c.loop-object.object-index c.args.objects.now (omega (arith, c.loop-object-test.false)))

  typed : AreTyped whole
  typed = c.loop-object.invariant.typed (subst AreTyped (sym none_left) tt)

  counted : c.loop-object.count ≡ length whole
  counted = omega (arith, c.loop-object.invariant.count, ap (λ (ds : List DocObject). length ds) none_left)

  layout : 8 + 8 * c.loop-object.count ≡ length (layout_bytes (map (λ (o : DocObject). o.area) whole))
  layout =
      let m : length (map (λ (o : DocObject). o.area) whole) ≡ length whole =
      length-map whole (λ (o : DocObject). o.area) in
      omega (arith, counted, layout-long (map (λ (o : DocObject). o.area) whole), m)

  abbrev made : Doc
  made = record { session = c.args.session; objects = whole }

  summed : (g : List ℕ → ℕ) (of : ℕ → ℕ) (z r s r' x : ℕ) → ((b : List ℕ) → g b ≡ of (length b))
      → min MANY (r + objects_sum g z rest) ≡ min MANY (objects_sum g z whole)
      → min MANY s ≡ min MANY (r + session_of of c.args.session) → min MANY r' ≡ min MANY (s + x)
      → x ≡ g (layout_bytes (map (λ (o : DocObject). o.area) whole))
      → min MANY r' ≡ min MANY (sum g z (doc_tree made))
  summed g of z r s r' x same h j k e =
      last_sum MANY r s r' (session_sum g c.args.session) x (objects_sum g z whole) (objects_sum g z rest) h
      (ap (objects_sum g z) none_left) (session_step MANY s r c.args.session g of same j) k
      ∙ ap (λ y. min MANY (y + (session_sum g c.args.session + objects_sum g z whole))) e
      ∙ ap (min MANY) (sym (sum-document g z made c.requires typed))

pub returns : goal.returns
returns c = c.fits.ensures ∙ fits_told (doc_tree (made c)) c.stream.result.entries c.stream.result.minis
    c.stream.result.longs
    (summed c one one_of 1 c.loop-object.room.entries c.session.result.entries c.stream.result.entries 1 (λ b. refl)
    c.loop-object.invariant.entries c.session.ensures.entries c.stream.ensures.entries refl
    ∙ ap (min MANY) (sym (entries-sum (doc_tree (made c)))))
    (summed c short_pieces short_of 0 c.loop-object.room.minis c.session.result.minis c.stream.result.minis
    (short_of (8 + 8 * c.loop-object.count)) (λ b. refl) c.loop-object.invariant.minis c.session.ensures.minis
    c.stream.ensures.minis (ap short_of (layout c))
    ∙ ap (min MANY) (sym (over-sum short_pieces (doc_tree (made c)))))
    (summed c long_pieces long_of 0 c.loop-object.room.longs c.session.result.longs c.stream.result.longs
    (long_of (8 + 8 * c.loop-object.count)) (λ b. refl) c.loop-object.invariant.longs c.session.ensures.longs
    c.stream.ensures.longs (ap long_of (layout c))
    ∙ ap (min MANY) (sym (over-sum long_pieces (doc_tree (made c)))))
