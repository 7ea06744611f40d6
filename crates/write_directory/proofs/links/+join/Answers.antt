use Rattle.std.proofs.Common.{◌≡◌, ◌≢◌, true, false, ◌+◌, ◌-◌, ◌<◌, ◌/◌, ℕ, suc, List, [], ◌∷◌, ◌++◌, length, take}
use Rattle.std.proofs.Common.{drop, get_or, set, ◌∙◌, ap, sym, subst, arith, add-one, drop-cons, length-drop, eqb}
use Rattle.std.proofs.lemmas.Bool.{eq-eqb, eqb-true}
use Rattle.std.proofs.lemmas.List.{length-take-le, nil_from_length, take-append-drop, take_all}
use Rattle.cfb_bytes.specs.Marks.{AreDistinct}
use Rattle.cfb_entries.specs.SearchTree.{IsTree, nobody}
use Rattle.write_directory.proofs.Built.{kept_around, tree_around}
use Rattle.write_directory.proofs.links.+join.Goals as goal

pub returns-then-is_empty-clause-tree : goal.returns-then-is_empty-clause-tree
returns-then-is_empty-clause-tree t c =
    let none : c.args.order.now ≡ [] = nil_from_length c.args.order.now
    (eqb-true (length c.args.order.now) 0 (sym c.is_empty.ensures ∙ c.if-is_empty.true)) in
    subst (IsTree c.args.left.now c.args.right.now 4294967295) (sym none) nobody

pub returns-clause-tree : goal.returns-clause-tree
returns-clause-tree t c =
    let order : List ℕ = c.args.order.now in
    let m : ℕ = length order / 2 in
    let k : ℕ = get_or order m 0 in
    let none : eqb (length order) 0 ≡ false = sym c.is_empty.ensures ∙ c.if-is_empty.false in
    let ne : length order ≢ 0 = λ e. let t : eqb (length order) 0 ≡ true = eq-eqb (length order) 0 e in
    absurd (cc (t, none)) in
    let some : m < length order = omega arith in
    let in_left : k < length c.join-after.new.left = omega (arith, c.requires.in_left m 0 some) in
    let in_right : k < length c.join-after.new.right = omega (arith, c.requires.in_right m 0 some) in
    let before : List ℕ = take m order in
    let after : List ℕ = take (length order - (m + 1)) (drop (m + 1) order) in
    let whole : after ≡ drop (suc m) order = ap (λ n. take (length order - n) (drop n order)) (add-one m)
    ∙ take_all (length order - suc m) (drop (suc m) order) (omega (arith, length-drop (suc m) order)) in
    let split : order ≡ before ++ (k ∷ after) =
    sym (take-append-drop m order) ∙ ap (λ xs. before ++ xs) (drop-cons order m 0 some)
    ∙ ap (λ xs. before ++ (k ∷ xs)) (sym whole) in
    let half : length before ≡ length (before ++ (k ∷ after)) / 2 = length-take-le m order (omega arith)
    ∙ ap (λ xs. length xs / 2) split in
    subst (IsTree (set c.join-after.new.left k c.join-before.result)
    (set c.join-after.new.right k c.join-after.result) k) (sym split)
    (tree_around c.join-before.new.left c.join-before.new.right c.join-after.new.left c.join-after.new.right before
    after k c.join-before.result c.join-after.result
    (subst AreDistinct split c.requires.once) in_left in_right half c.join-before.ensures.tree
    c.join-after.ensures.kept_left c.join-after.ensures.kept_right c.join-after.ensures.tree)

pub returns-clause-kept_left : goal.returns-clause-kept_left
returns-clause-kept_left t c =
    let order : List ℕ = c.args.order.now in
    let m : ℕ = length order / 2 in
    let none : eqb (length order) 0 ≡ false = sym c.is_empty.ensures ∙ c.if-is_empty.false in
    let ne : length order ≢ 0 = λ e. let t : eqb (length order) 0 ≡ true = eq-eqb (length order) 0 e in
    absurd (cc (t, none)) in
    kept_around order c.args.left.now c.join-before.new.left c.join-after.new.left m (length order - (m + 1))
    c.join-before.result (omega arith)
    c.join-before.ensures.kept_left c.join-after.ensures.kept_left

pub returns-clause-kept_right : goal.returns-clause-kept_right
returns-clause-kept_right t c =
    let order : List ℕ = c.args.order.now in
    let m : ℕ = length order / 2 in
    let none : eqb (length order) 0 ≡ false = sym c.is_empty.ensures ∙ c.if-is_empty.false in
    let ne : length order ≢ 0 = λ e. let t : eqb (length order) 0 ≡ true = eq-eqb (length order) 0 e in
    absurd (cc (t, none)) in
    kept_around order c.args.right.now c.join-before.new.right c.join-after.new.right m (length order - (m + 1))
    c.join-after.result (omega arith)
    c.join-before.ensures.kept_right c.join-after.ensures.kept_right
