use Rattle.std.proofs.Common.{◌≡◌, ◌∙◌, ◌+◌, ◌∷◌, ℕ, List, true, false, ap, drop, get_or, is_eq, rules, sym}
use Rattle.std.proofs.lemmas.List.{drop_more}
use Rattle.cfb_names.specs.Names.{key, key_eq}
use Rattle.tree_storage.specs.Change.{find}
use Rattle.read_outlines.specs.View.{shown_part, shown_parts}
use Rattle.read_outlines.proofs.Found.{found-behind, found-here}
use Rattle.read_outlines.proofs.finding.part_of.Goals as goal

pub returns-then-is_eq-clause-found : goal.returns-then-is_eq-clause-found
returns-then-is_eq-clause-found c = λ content.
    let items = c.deref-part-items.result.now in
    let i : ℕ = c.loop-part.part-index in
    let p = c.part-item.result in
    let here : get_or items i p ≡ p = search (rules, c.part-item.is) in
    let cut : drop i items ≡ p ∷ drop (i + 1) items = drop_more items i p c.loop-part-test.true
    ∙ ap (λ x. x ∷ drop (i + 1) items) here in
    let w : List ℕ = c.key-wanted.result in
    let rest = shown_parts content (drop (i + 1) items) in
    let hit : key_eq w (key p.0) ≡ true =
    sym (ap (λ q. key_eq w q) c.key.ensures) ∙ sym (ap is_eq c.cmp.ensures) ∙ sym c.is_eq.ensures ∙ c.if-is_eq.true in (
      p.0,
      ap (λ k. find k (shown_parts content c.args.outline.now.parts.items)) (sym c.key-wanted.ensures)
          ∙ ap (λ xs. find w (shown_parts content xs)) (sym c.deref-part-items.ensures.value)
          ∙ sym (c.loop-part.invariant content)
          ∙ ap (λ xs. find w (shown_parts content xs)) cut
          ∙ found-here w (key p.0) p.0 (shown_part content p.1) rest hit,
    )

pub loop-part-preserved : goal.loop-part-preserved
loop-part-preserved c = λ content.
    let items = c.deref-part-items.result.now in
    let i : ℕ = c.loop-part.part-index in
    let p = c.part-item.result in
    let here : get_or items i p ≡ p = search (rules, c.part-item.is) in
    let cut : drop i items ≡ p ∷ drop (i + 1) items = drop_more items i p c.loop-part-test.true
    ∙ ap (λ x. x ∷ drop (i + 1) items) here in
    let w : List ℕ = c.key-wanted.result in
    let rest = shown_parts content (drop (i + 1) items) in
    let miss : key_eq w (key p.0) ≡ false =
    sym (ap (λ q. key_eq w q) c.key.ensures) ∙ sym (ap is_eq c.cmp.ensures) ∙ sym c.is_eq.ensures ∙ c.if-is_eq.false in
    sym (found-behind w (key p.0) p.0 (shown_part content p.1) rest miss)
    ∙ ap (λ xs. find w (shown_parts content xs)) (sym cut)
    ∙ c.loop-part.invariant content
