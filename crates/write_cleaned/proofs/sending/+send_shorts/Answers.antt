use Rattle.std.proofs.Common.{◌≡◌, ◌+◌, ◌≤◌, ◌++◌, ◌∙◌, [], ◌∷◌, ℕ, List, ap, arith, drop, get_or, refl, rules, subst}
use Rattle.std.proofs.Common.{sym}
use Rattle.std.specs.List.{sum}
use Rattle.std.proofs.lemmas.List.{append-nil, drop_all, drop_more}
use Rattle.tree_storage.specs.Change.{inner}
use Rattle.cfb_entries.specs.Tree.{tree}
use Rattle.cfb_layout.specs.Directory.{short_streams, short_streams_of}
use Rattle.cfb_layout.specs.Image.{whole_pieces}
use Rattle.cfb_file.specs.Outline.{outlines_of}
use Rattle.read_outlines.specs.View.{parts_view, shown, shown_part, shown_parts}
use Rattle.read_outlines.specs.declared.outline.Place.{Place}
use Rattle.read_outlines.proofs.Outlines.{shown-nested, shown-out}
use Rattle.write_parts.proofs.Sent.{sends_both, sends_none}
use Rattle.write_parts.specs.Sends.{Sends}
use Rattle.write_parts.specs.Streams.{short_within}
use Rattle.read_streams.specs.Tables.{read_by}
use Rattle.write_cleaned.proofs.Weights.{one-of, part_weight, weight, weight-inner, weight-out, weights}
use Rattle.write_cleaned.proofs.Walks.{inner-sized, on_ok, parts-sized, shorts-more, sized-first, sized-rest}
use Rattle.write_cleaned.proofs.sending.+send_shorts.Goals as goal

pub send_shorts-loop-part-init : goal.send_shorts-loop-part-init
send_shorts-loop-part-init g t c = record {
  sent = λ a known len window sized. ([], sends_none _ _, refl, window, sized);
  kept = refl;
}

pub send_shorts-loop-part-preserved : goal.send_shorts-loop-part-preserved
send_shorts-loop-part-preserved g t c = record {
  sent = λ a known len window sized.
      let content : Place → List ℕ = read_by a c.args.tables.now in
      let items = c.deref-part-items.result.now in
      let i : ℕ = c.loop-part.part-index in
      let p = c.part-item.result in
      let here : get_or items i p ≡ p = search (rules, c.part-item.is) in
      let cut : drop i items ≡ p ∷ drop (i + 1) items = drop_more items i p c.loop-part-test.true
      ∙ ap (λ x. x ∷ drop (i + 1) items) here in
      let h = c.loop-part.invariant.sent a known len window sized in
      let same : outlines_of (shown_parts content (p ∷ drop (i + 1) items)) ≡ parts_view (p ∷ drop (i + 1) items) =
      subst (λ xs. outlines_of (shown_parts content xs) ≡ parts_view xs) cut h.4 in
      let one = c.in_ok-send_short_part.ensures.sent a (c.loop-part.invariant.kept ∙ known) len h.3
      (sized-first content p (drop (i + 1) items) same) in
      let more : List ℕ = whole_pieces 64 (short_within (shown_part content p.1)) in (
        h.0 ++ more,
        sends_both _ _ _ _ _ _ h.0 more h.1 one.0,
        shorts-more content p (drop (i + 1) items) h.0 more _ refl
            (ap (λ xs. h.0 ++ whole_pieces 64 (short_streams_of (shown_parts content xs))) (sym cut) ∙ h.2),
        one.1,
        sized-rest content p (drop (i + 1) items) same,
      );
  kept = c.send_short_part.ensures.kept ∙ c.loop-part.invariant.kept;
}

pub send_shorts-returns-clause-sent : goal.send_shorts-returns-clause-sent
send_shorts-returns-clause-sent g t c = λ a known len window sized.
    let content : Place → List ℕ = read_by a c.args.tables.now in
    let o = c.args.outline.now in
    let items = c.deref-part-items.result.now in
    let i : ℕ = c.loop-part.part-index in
    let out : shown content o ≡ tree o.class o.state (shown_parts content o.parts.items) = shown-out content o in
    let same : items ≡ o.parts.items = c.deref-part-items.ensures.value in
    let each : outlines_of (shown_parts content items) ≡ parts_view items =
    subst (λ xs. outlines_of (shown_parts content xs) ≡ parts_view xs) (sym same) (parts-sized content o sized) in
    let h = c.loop-part.invariant.sent a known len window each in
    let done : drop i items ≡ [] = drop_all i items c.loop-part-test.false in
    let all : h.0 ≡ whole_pieces 64 (short_streams (shown content o)) =
    sym (append-nil h.0) ∙ ap (λ xs. h.0 ++ whole_pieces 64 (short_streams_of (shown_parts content xs))) (sym done)
    ∙ h.2
    ∙ ap (λ xs. whole_pieces 64 (short_streams_of (shown_parts content xs))) same
    ∙ sym (ap (λ x. whole_pieces 64 (short_streams x)) out) in (
      subst (λ zs. Sends (g.W.Write.contents c.args.writer.now) (g.W.Write.contents c.loop-part.writer)
          c.args.waiting.now.items c.loop-part.waiting.items zs) all h.1,
      h.3,
    )

pub send_short_part-returns-in-Storage-clause-sent : goal.send_short_part-returns-in-Storage-clause-sent
send_short_part-returns-in-Storage-clause-sent g t c =
    on_ok c.send_shorts.result _ _ (λ h a known len window same.
    let content : Place → List ℕ = read_by a c.args.tables.now in
    let e : shown_part content c.args.part.now ≡ inner (shown content c.in-Storage.inner) =
    ap (shown_part content) c.in-Storage.is ∙ shown-nested content c.in-Storage.inner in
    let s = h a known len window (inner-sized content c.args.part.now c.in-Storage.inner c.in-Storage.is same) in (
      subst (λ x. Sends (g.W.Write.contents c.args.writer.now) (g.W.Write.contents c.send_shorts.new.writer)
          c.args.waiting.now.items c.send_shorts.new.waiting.items (whole_pieces 64 (short_within x))) (sym e) s.0,
      s.1,
    )) c.send_shorts.ensures.sent

pub send_shorts-send_short_part-requires : goal.send_shorts-send_short_part-requires
send_shorts-send_short_part-requires g t c =
    let items = c.deref-part-items.result.now in
    let i : ℕ = c.loop-part.part-index in
    let p = c.part-item.result in
    let here : get_or items i p ≡ p = search (rules, c.part-item.is) in
    let cut : drop i items ≡ p ∷ drop (i + 1) items = drop_more items i p c.loop-part-test.true
    ∙ ap (λ x. x ∷ drop (i + 1) items) here in
    let below : part_weight p.1 ≤ sum (weights items) = one-of i items p (drop (i + 1) items) cut in
    let whole : weight c.args.outline.now ≡ 1 + sum (weights items) =
    weight-out c.args.outline.now ∙ ap (λ xs. 1 + sum (weights xs)) (sym c.deref-part-items.ensures.value) in
    λ κs within. (
      omega (arith, below, whole, c.decreases),
      (λ a m. within.0 a m, (λ a m. within.1 a m, c.requires.whole)),
    )

pub send_short_part-send_shorts-requires : goal.send_short_part-send_shorts-requires
send_short_part-send_shorts-requires g t c =
    let same : part_weight c.args.part.now ≡ weight c.in-Storage.inner =
    weight-inner c.args.part.now c.in-Storage.inner c.in-Storage.is in
    λ κs within. (omega (arith, same, c.decreases), (λ a m. search rules, (λ a m. search rules, c.requires.whole)))
