use Rattle.std.proofs.Common.{◌≡◌, ◌+◌, ◌++◌, ◌∙◌, ◌∷◌, [], ℕ, List, ap, drop, get_or, rules, subst, sym}
use Rattle.std.proofs.lemmas.List.{drop_all, drop_more}
use Rattle.std.specs.List.Sorted.{IsStrictlySortedBy}
use Rattle.std.specs.Map.{keys_of}
use Rattle.cfb_names.specs.Names.{key, key_cmp}
use Rattle.tree_storage.proofs.Entries.{seen-storage, view-roll}
use Rattle.tree_storage.specs.Change.{Seen, child, inner}
use Rattle.cfb_entries.specs.Tree.{Children, Tree, tree}
use Rattle.tree_storage.specs.View.{children, seen}
use Rattle.tree_storage.specs.declared.nodes.Node.{Node}
use Rattle.cfb_entries.specs.Whole.{AreTrees, IsTree, IsWhole}
use Rattle.read_outlines.specs.View.{contents, shown, shown_part, shown_parts}
use Rattle.read_outlines.specs.declared.outline.Place.{Place}
use Rattle.read_outlines.proofs.Followed.{followed, followed-none}
use Rattle.read_outlines.proofs.Outlines.{shown-nested, shown-out}
use Rattle.read_outlines.proofs.Placed.{trees_whole, whole_inner}
use Rattle.read_outlines.proofs.Sorted.{children-push, keys-children, trees_sorted}
use Rattle.read_outlines.proofs.filling.+filling.Goals as goal

pub node_at-returns-in_ok-inner-in-Storage : goal.node_at-returns-in_ok-inner-in-Storage
node_at-returns-in_ok-inner-in-Storage t c = λ depth h.
    let content : Place → List ℕ = contents c.args.fat.now c.args.mini.now in
    let e : shown_part content c.args.part.now ≡ inner (shown content c.in-Storage.outline) =
    ap (shown_part content) c.in-Storage.is ∙ shown-nested content c.in-Storage.outline in
    let w : (d : ℕ) × IsTree d (shown content c.in-Storage.outline) =
    whole_inner depth (shown content c.in-Storage.outline) (subst (IsWhole depth) e h) in
    seen-storage c.in_ok-inner-in-Storage.inner ∙ ap inner (c.in_ok-inner-in-Storage.ensures w.0 w.1) ∙ sym e

pub storage_at-loop-part-preserved : goal.storage_at-loop-part-preserved
storage_at-loop-part-preserved t c = λ depth h.
    let content : Place → List ℕ = contents c.args.fat.now c.args.mini.now in
    let items = c.deref-part-items.result.now in
    let i : ℕ = c.loop-part.part-index in
    let p = c.part-item.result in
    let cs : Children = children c.loop-part.pairs.items in
    let ds : Children = shown_parts content (drop (i + 1) items) in
    let s : Seen = shown_part content p.1 in
    let x : Node = c.in_ok-node.node in
    let here : get_or items i p ≡ p = search (rules, c.part-item.is) in
    let cut : drop i items ≡ p ∷ drop (i + 1) items = drop_more items i p c.loop-part-test.true
    ∙ ap (λ x. x ∷ drop (i + 1) items) here in
    let now : followed cs (child (key p.0) (p.0, s) ds) ≡ shown_parts content items =
    ap (λ xs. followed cs (shown_parts content xs)) (sym cut) ∙ c.loop-part.invariant depth h in
    let trees : AreTrees depth (followed cs (child (key p.0) (p.0, s) ds)) = subst (AreTrees depth) (sym now) h in
    let node : seen x ≡ s = c.in_ok-node.ensures depth (trees_whole depth cs (key p.0) p.0 s ds trees) in
    let added : c.push_child.new.pairs.items ≡ c.loop-part.pairs.items ++ (key p.0, (p.0, x)) ∷ [] =
    c.in_ok-push_child.ensures ∙ ap (λ (n : List ℕ). c.loop-part.pairs.items ++ (key n, (n, x)) ∷ []) c.copy.ensures in
    ap (λ es. followed (children es) ds) added
    ∙ children-push c.loop-part.pairs.items (key p.0) p.0 x ds
    ∙ ap (λ (y : Seen). followed cs (child (key p.0) (p.0, y) ds)) node
    ∙ now

pub storage_at-returns : goal.storage_at-returns
storage_at-returns t c = λ depth h.
    let content : Place → List ℕ = contents c.args.fat.now c.args.mini.now in
    let o = c.args.outline.now in
    let items = c.deref-part-items.result.now in
    let i : ℕ = c.loop-part.part-index in
    let pairs = c.loop-part.pairs.items in
    let cs : Children = children pairs in
    let out : shown content o ≡ tree o.class o.state (shown_parts content o.parts.items) = shown-out content o in
    let same : items ≡ o.parts.items = c.deref-part-items.ensures.value in
    let trees : AreTrees depth (shown_parts content items) = subst (λ xs. AreTrees depth (shown_parts content xs))
    (sym same) (subst (λ (u : Tree). IsTree depth u) out h) in
    let done : drop i items ≡ [] = drop_all i items c.loop-part-test.false in
    let all : cs ≡ shown_parts content items =
    sym (followed-none cs) ∙ ap (λ xs. followed cs (shown_parts content xs)) (sym done)
    ∙ c.loop-part.invariant depth trees in
    let up : IsStrictlySortedBy key_cmp (keys_of pairs) =
    subst (IsStrictlySortedBy key_cmp) (keys-children pairs)
    (trees_sorted depth cs (subst (AreTrees depth) (sym all) trees)) in
    view-roll o.class o.state c.in_ok-map_of.field-0
    ∙ ap (λ es. tree o.class o.state (children es)) (c.in_ok-map_of.ensures up)
    ∙ ap (tree o.class o.state) (all ∙ ap (shown_parts content) same)
    ∙ sym out
