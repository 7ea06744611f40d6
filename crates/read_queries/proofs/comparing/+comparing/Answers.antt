use Rattle.std.proofs.Common.{◌≡◌, ◌+◌, ◌∙◌, ◌∷◌, [], ℕ, List, ap, drop, get_or, rules, sym}
use Rattle.std.proofs.lemmas.List.{drop_all, drop_more}
use Rattle.cfb_names.specs.Names.{key}
use Rattle.read_queries.proofs.Parts.{all_shown, next_is, none_left, sized_next}
use Rattle.tree_storage.proofs.Entries.{view-out}
use Rattle.read_outlines.proofs.Outlines.{shown-out}
use Rattle.tree_storage.specs.Change.{child}
use Rattle.cfb_entries.specs.Tree.{none, tree}
use Rattle.cfb_file.specs.Outline.{part_of}
use Rattle.tree_storage.specs.View.{children, seen}
use Rattle.read_outlines.specs.View.{contents, part_view, shown_part, shown_parts}
use Rattle.read_outlines.specs.declared.outline.Place.{Place}
use Rattle.read_queries.proofs.comparing.+comparing.Goals as goal

pub is_shown-loop-part-preserved : goal.is_shown-loop-part-preserved
is_shown-loop-part-preserved t c =
    let content : Place → List ℕ = contents c.args.fat.now c.args.mini.now in
    let items = c.deref-part-items.result.now in
    let i : ℕ = c.loop-part.part-index in
    let p = c.part-item.result in
    let here : get_or items i p ≡ p = search (rules, c.part-item.is) in
    let cut : drop i items ≡ p ∷ drop (i + 1) items = drop_more items i p c.loop-part-test.true
    ∙ ap (λ x. x ∷ drop (i + 1) items) here in
    let k : c.in-Some.key.now ≡ key p.0 = search rules in
    let n : c.in-Some.child.now.0 ≡ p.0 = search rules in
    let s : seen c.in-Some.child.now.1 ≡ shown_part content p.1 = search rules in
    let taken : c.loop-part.children ≡ (c.in-Some.key.now, c.in-Some.child.now) ∷ c.next.new.self = search rules in (
      λ h. c.loop-part.invariant.0 (ap children taken ∙ (λ j. child (k j) (n j, s j) (h j))
          ∙ sym (ap (shown_parts content) cut)),
      λ h. (next_is content c.loop-part.children (c.in-Some.key.now, c.in-Some.child.now) c.next.new.self
          (drop i items) p (drop (i + 1) items) taken cut (c.loop-part.invariant.1 h)).3,
    )

pub is_shown-returns-in_default-clause-missed : goal.is_shown-returns-in_default-clause-missed
is_shown-returns-in_default-clause-missed t c = λ sized h.
    let content : Place → List ℕ = contents c.args.fat.now c.args.mini.now in
    let items = c.deref-part-items.result.now in
    let i : ℕ = c.loop-part.part-index in
    let p = c.part-item.result in
    let here : get_or items i p ≡ p = search (rules, c.part-item.is) in
    let cut : drop i items ≡ p ∷ drop (i + 1) items = drop_more items i p c.loop-part-test.true
    ∙ ap (λ x. x ∷ drop (i + 1) items) here in
    let same : items ≡ c.args.outline.now.parts.items = c.deref-part-items.ensures.value in
    let rest : children c.loop-part.children ≡ shown_parts content (drop i items) =
    c.loop-part.invariant.1 (all_shown content c.args.storage.now c.args.outline.now items same h) in
    let over : c.loop-part.children ≡ [] = search rules in
    absurd (none_left content c.loop-part.children (drop i items) p (drop (i + 1) items) over cut rest)

pub is_shown-returns-then-ne-2-clause-missed : goal.is_shown-returns-then-ne-2-clause-missed
is_shown-returns-then-ne-2-clause-missed t c = λ sized h.
    let content : Place → List ℕ = contents c.args.fat.now c.args.mini.now in
    let items = c.deref-part-items.result.now in
    let i : ℕ = c.loop-part.part-index in
    let p = c.part-item.result in
    let here : get_or items i p ≡ p = search (rules, c.part-item.is) in
    let cut : drop i items ≡ p ∷ drop (i + 1) items = drop_more items i p c.loop-part-test.true
    ∙ ap (λ x. x ∷ drop (i + 1) items) here in
    let same : items ≡ c.args.outline.now.parts.items = c.deref-part-items.ensures.value in
    let rest : children c.loop-part.children ≡ shown_parts content (drop i items) =
    c.loop-part.invariant.1 (all_shown content c.args.storage.now c.args.outline.now items same h) in
    let taken : c.loop-part.children ≡ (c.in-Some.key.now, c.in-Some.child.now) ∷ c.next.new.self = search rules in
    let are = next_is content c.loop-part.children (c.in-Some.key.now, c.in-Some.child.now) c.next.new.self
    (drop i items) p (drop (i + 1) items) taken cut rest in
    let k : c.in-Some.key.now ≡ key p.0 = are.0 in
    search (rules, k)

pub is_shown-returns-then-ne-3-clause-missed : goal.is_shown-returns-then-ne-3-clause-missed
is_shown-returns-then-ne-3-clause-missed t c = λ sized h.
    let content : Place → List ℕ = contents c.args.fat.now c.args.mini.now in
    let items = c.deref-part-items.result.now in
    let i : ℕ = c.loop-part.part-index in
    let p = c.part-item.result in
    let here : get_or items i p ≡ p = search (rules, c.part-item.is) in
    let cut : drop i items ≡ p ∷ drop (i + 1) items = drop_more items i p c.loop-part-test.true
    ∙ ap (λ x. x ∷ drop (i + 1) items) here in
    let same : items ≡ c.args.outline.now.parts.items = c.deref-part-items.ensures.value in
    let rest : children c.loop-part.children ≡ shown_parts content (drop i items) =
    c.loop-part.invariant.1 (all_shown content c.args.storage.now c.args.outline.now items same h) in
    let taken : c.loop-part.children ≡ (c.in-Some.key.now, c.in-Some.child.now) ∷ c.next.new.self = search rules in
    let are = next_is content c.loop-part.children (c.in-Some.key.now, c.in-Some.child.now) c.next.new.self
    (drop i items) p (drop (i + 1) items) taken cut rest in
    let n : c.in-Some.child.now.0 ≡ p.0 = are.1 in
    search (rules, n)

pub is_shown-returns-then-not-branch-clause-missed : goal.is_shown-returns-then-not-branch-clause-missed
is_shown-returns-then-not-branch-clause-missed t c = λ sized h.
    let content : Place → List ℕ = contents c.args.fat.now c.args.mini.now in
    let items = c.deref-part-items.result.now in
    let i : ℕ = c.loop-part.part-index in
    let p = c.part-item.result in
    let here : get_or items i p ≡ p = search (rules, c.part-item.is) in
    let cut : drop i items ≡ p ∷ drop (i + 1) items = drop_more items i p c.loop-part-test.true
    ∙ ap (λ x. x ∷ drop (i + 1) items) here in
    let same : items ≡ c.args.outline.now.parts.items = c.deref-part-items.ensures.value in
    let rest : children c.loop-part.children ≡ shown_parts content (drop i items) =
    c.loop-part.invariant.1 (all_shown content c.args.storage.now c.args.outline.now items same h) in
    let taken : c.loop-part.children ≡ (c.in-Some.key.now, c.in-Some.child.now) ∷ c.next.new.self = search rules in
    let are = next_is content c.loop-part.children (c.in-Some.key.now, c.in-Some.child.now) c.next.new.self
    (drop i items) p (drop (i + 1) items) taken cut rest in
    let wide : part_of (shown_part content p.1) ≡ part_view p.1 =
    sized_next content c.args.outline.now items i p (drop (i + 1) items) same cut sized in
    let s : seen c.in-Some.child.now.1 ≡ shown_part content p.1 = are.2 in
    search (rules, s, wide)

pub is_shown-returns-clause-same : goal.is_shown-returns-clause-same
is_shown-returns-clause-same t c = λ h.
    let content : Place → List ℕ = contents c.args.fat.now c.args.mini.now in
    let o = c.args.outline.now in
    let s = c.args.storage.now in
    let items = c.deref-part-items.result.now in
    let i : ℕ = c.loop-part.part-index in
    let same : items ≡ o.parts.items = c.deref-part-items.ensures.value in
    let over : c.loop-part.children ≡ [] = search rules in
    let done : drop i items ≡ [] = drop_all i items c.loop-part-test.false in
    let all : children s.children.entries ≡ shown_parts content items =
    c.loop-part.invariant.0 (ap children over ∙ sym (ap (shown_parts content) done)) in
    let class : s.class ≡ o.class = search rules in
    let state : s.state ≡ o.state = search rules in
    view-out s
    ∙ (λ j. tree (class j) (state j) (all j))
    ∙ ap (λ ps. tree o.class o.state (shown_parts content ps)) same
    ∙ sym (shown-out content o)

pub is_shown-returns-clause-missed : goal.is_shown-returns-clause-missed
is_shown-returns-clause-missed t c = λ sized h.
    let content : Place → List ℕ = contents c.args.fat.now c.args.mini.now in
    let items = c.deref-part-items.result.now in
    let i : ℕ = c.loop-part.part-index in
    let same : items ≡ c.args.outline.now.parts.items = c.deref-part-items.ensures.value in
    let done : drop i items ≡ [] = drop_all i items c.loop-part-test.false in
    let rest : children c.loop-part.children ≡ shown_parts content (drop i items) =
    c.loop-part.invariant.1 (all_shown content c.args.storage.now c.args.outline.now items same h) in
    let over : children c.loop-part.children ≡ none = rest ∙ ap (shown_parts content) done in
    search (rules, over)
