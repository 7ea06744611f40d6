use Rattle.std.proofs.Common.{◌≡◌, ◌<◌, ℕ, List, [], ◌++◌, length, take, drop, get_or, inr, refl, ◌∙◌, ap, sym, subst}
use Rattle.std.proofs.Common.{arith}
use Rattle.std.specs.List.{All, AllPairs, range_with_len}
use Rattle.std.specs.declared.cmp.Ordering.TheVariants.{Less}
use Rattle.cfb_names.specs.Names.{name_cmp}
use Rattle.std.specs.List.Sorted.{IsPermutation}
use Rattle.std.proofs.lemmas.List.{take-append-le, take_all}
use Rattle.cfb_entries.specs.SearchTree.{IsTree}
use Rattle.cfb_bytes.specs.Marks.{AreDistinct}
use Rattle.write_directory.specs.Building.{AllAdjacentApart, HasEqualNeighbours, keyed_names, places}
use Rattle.write_directory.proofs.Built.{equal_refused, order_inside, order_once, order_permuted, order_sorted}
use Rattle.write_directory.proofs.links.sorted.Goals as goal

pub returns-then-not-are_apart-clause-refused : goal.returns-then-not-are_apart-clause-refused
returns-then-not-are_apart-clause-refused c =
    let names : List (List ℕ) = c.args.names.now in
    let siblings : List (List ℕ × ℕ) = c.sort.new.self.items in
    let permuted : IsPermutation (keyed_names names) siblings =
    subst (λ (xs : List (List ℕ × ℕ)). IsPermutation xs siblings) c.in_ok-siblings.ensures.keyed
    c.sort.ensures.permutation in
    inr (
      refl,
      equal_refused names siblings permuted
          (subst HasEqualNeighbours c.deref.ensures.value (c.are_apart.ensures.equal c.if-not-are_apart.true)),
    )

pub join-top-requires-clause-once : goal.join-top-requires-clause-once
join-top-requires-clause-once c =
    let names : List (List ℕ) = c.args.names.now in
    let siblings : List (List ℕ × ℕ) = c.sort.new.self.items in
    let permuted : IsPermutation (keyed_names names) siblings =
    subst (λ (xs : List (List ℕ × ℕ)). IsPermutation xs siblings) c.in_ok-siblings.ensures.keyed
    c.sort.ensures.permutation in
    let order : places siblings ≡ c.deref-3.result.now =
    ap places (sym c.deref-2.ensures.value) ∙ sym c.in_ok-order.ensures ∙ sym c.deref-3.ensures.value in
    subst AreDistinct order (order_once names siblings permuted)

pub join-top-requires-clause-in_left : goal.join-top-requires-clause-in_left
join-top-requires-clause-in_left c =
    let names : List (List ℕ) = c.args.names.now in
    let siblings : List (List ℕ × ℕ) = c.sort.new.self.items in
    let permuted : IsPermutation (keyed_names names) siblings =
    subst (λ (xs : List (List ℕ × ℕ)). IsPermutation xs siblings) c.in_ok-siblings.ensures.keyed
    c.sort.ensures.permutation in
    let order : places siblings ≡ c.deref-3.result.now =
    ap places (sym c.deref-2.ensures.value) ∙ sym c.in_ok-order.ensures ∙ sym c.deref-3.ensures.value in
    let inside : All (λ k. k < length names) c.deref-3.result.now =
    subst (All (λ k. k < length names)) order (order_inside names siblings permuted) in
    λ k d lt. omega (arith, inside k d lt, c.deref_mut.ensures.len, c.in_ok-left.ensures.len)

pub join-top-requires-clause-in_right : goal.join-top-requires-clause-in_right
join-top-requires-clause-in_right c =
    let names : List (List ℕ) = c.args.names.now in
    let siblings : List (List ℕ × ℕ) = c.sort.new.self.items in
    let permuted : IsPermutation (keyed_names names) siblings =
    subst (λ (xs : List (List ℕ × ℕ)). IsPermutation xs siblings) c.in_ok-siblings.ensures.keyed
    c.sort.ensures.permutation in
    let order : places siblings ≡ c.deref-3.result.now =
    ap places (sym c.deref-2.ensures.value) ∙ sym c.in_ok-order.ensures ∙ sym c.deref-3.ensures.value in
    let inside : All (λ k. k < length names) c.deref-3.result.now =
    subst (All (λ k. k < length names)) order (order_inside names siblings permuted) in
    λ k d lt. omega (arith, inside k d lt, c.deref_mut-2.ensures.len, c.in_ok-right.ensures.len)

-- what a slice was written to is what its vector holds
written : (new rest : List ℕ) (n : ℕ) → length new ≡ n → take n (new ++ rest) ≡ new
written new rest n h = take-append-le n new rest (omega arith) ∙ take_all n new (omega arith)

pub returns-clause-built : goal.returns-clause-built
returns-clause-built c =
    let names : List (List ℕ) = c.args.names.now in
    let siblings : List (List ℕ × ℕ) = c.sort.new.self.items in
    let permuted : IsPermutation (keyed_names names) siblings =
    subst (λ (xs : List (List ℕ × ℕ)). IsPermutation xs siblings) c.in_ok-siblings.ensures.keyed
    c.sort.ensures.permutation in
    let order : places siblings ≡ c.deref-3.result.now =
    ap places (sym c.deref-2.ensures.value) ∙ sym c.in_ok-order.ensures ∙ sym c.deref-3.ensures.value in
    let apart : AllAdjacentApart siblings = subst AllAdjacentApart c.deref.ensures.value
    (c.are_apart.ensures.apart c.if-not-are_apart.false) in
    let rights : List ℕ = take c.in_ok-right.right.len
    (c.join-top.new.right ++ drop (length c.join-top.new.right) c.in_ok-right.right.items) in
    let left = written c.join-top.new.left (drop (length c.join-top.new.left) c.in_ok-left.left.items)
    c.in_ok-left.left.len (omega (arith, c.deref_mut.ensures.len)) in
    let right = written c.join-top.new.right (drop (length c.join-top.new.right) c.in_ok-right.right.items)
    c.in_ok-right.right.len (omega (arith, c.deref_mut-2.ensures.len)) in
    record {
      left_count = ap length left ∙ omega (arith, c.deref_mut.ensures.len, c.in_ok-left.ensures.len);
      right_count = ap length right ∙ omega (arith, c.deref_mut-2.ensures.len, c.in_ok-right.ensures.len);
      siblings = c.deref-3.result.now;
      tree = subst (λ (xs : List ℕ). IsTree xs rights c.join-top.result c.deref-3.result.now) (sym left)
          (subst (λ (xs : List ℕ). IsTree c.join-top.new.left xs c.join-top.result c.deref-3.result.now) (sym right)
          c.join-top.ensures.tree);
      all = subst (IsPermutation (range_with_len 0 (length names))) order (order_permuted names siblings permuted);
      ordered = subst (AllPairs (λ j k. name_cmp (get_or names j []) (get_or names k []) ≡ Less)) order
          (order_sorted names siblings permuted c.in_ok-sort.ensures.sorted apart);
    }
