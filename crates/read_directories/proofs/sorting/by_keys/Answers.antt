use Rattle.std.proofs.Common.{◌++◌, ℕ, List, length, take, ◌∙◌, ap, subst, arith}
use Rattle.std.specs.List.Sorted.{IsPermutation}
use Rattle.read_directories.specs.Sorting.{AllAdjacentApart, HasEqualNeighbours, keyed, places}
use Rattle.read_directories.proofs.SortedNames.{in_order, named_twice}
use Rattle.read_directories.proofs.Ordered.{AreSorted, by_sorting}
use Rattle.read_directories.proofs.sorting.by_keys.Goals as goal

pub returns-then-not-are_apart-clause-refused : goal.returns-then-not-are_apart-clause-refused
returns-then-not-are_apart-clause-refused c =
    let dir : List ℕ = c.args.entries.now.directory in
    let ids : List ℕ = c.args.ids.items in
    let list : List (List ℕ × ℕ) = c.sort_unstable.new.self.items in
    let permuted : IsPermutation (keyed dir ids) list =
    subst (λ (xs : List (List ℕ × ℕ)). IsPermutation xs list)
    (c.in_ok-list_keys.ensures.listed ∙ ap (keyed dir) c.deref.ensures.value)
    c.sort_unstable.ensures.permutation in
    named_twice dir ids list permuted c.requires.distinct
    (subst HasEqualNeighbours c.deref-2.ensures.value (c.are_apart.ensures.equal c.if-not-are_apart.true))

sorted : (c : goal.After-drop-list-2) (rest : List ℕ) → AreSorted c.args.entries.now.directory c.args.ids.items
    (take c.args.ids.len (c.put_ids.new.ids ++ rest))
sorted c rest =
    let dir : List ℕ = c.args.entries.now.directory in
    let ids : List ℕ = c.args.ids.items in
    let list : List (List ℕ × ℕ) = c.sort_unstable.new.self.items in
    let permuted : IsPermutation (keyed dir ids) list =
    subst (λ (xs : List (List ℕ × ℕ)). IsPermutation xs list)
    (c.in_ok-list_keys.ensures.listed ∙ ap (keyed dir) c.deref.ensures.value)
    c.sort_unstable.ensures.permutation in
    let apart : AllAdjacentApart list = subst AllAdjacentApart c.deref-2.ensures.value
    (c.are_apart.ensures.apart c.if-not-are_apart.false) in
    by_sorting dir ids list c.put_ids.new.ids rest c.args.ids.len
    (omega (arith, c.deref_mut.ensures.len, ap length c.deref_mut.ensures.value)) permuted
    (in_order dir ids list permuted c.sort_unstable.ensures.sorted apart)
    (c.put_ids.ensures ∙ ap places c.deref-3.ensures.value)

pub returns-clause-ordered : goal.returns-clause-ordered
returns-clause-ordered c = (sorted c _).ordered

pub returns-clause-same : goal.returns-clause-same
returns-clause-same c = (sorted c _).same
