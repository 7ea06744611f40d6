-- Balanced trees of siblings.
use Rattle.std.proofs.Common.{◌≡◌, ◌≢◌, ◌<◌, ◌≤◌, ◌+◌, ◌*◌, ℕ, zero, suc, inl, inr, List, [], ◌∷◌, ◌++◌, length, get_or}
use Rattle.std.proofs.Common.{set, sym, ◌∙◌, ap, subst, arith, if◌then◌else◌, get_or-set_other, get_or-set_same}
use Rattle.std.proofs.lemmas.Bool.{cases_lt}
use Rattle.std.proofs.lemmas.Bool.Decides.{eqb_tells}
use Rattle.std.proofs.lemmas.List.Elements.{Contains-append_cases, Contains-append_left, Contains-append_right}
use Rattle.std.specs.List.{Contains}
use Rattle.cfb_bytes.specs.Marks.{AreDistinct}
use Rattle.cfb_entries.specs.Entries.{NO_STREAM, AreLinked, nobody, around, entry_at, left, right}
use Rattle.cfb_entries.specs.SearchTree.{AreKept, IsSearchTree, empty, node, middle, link_to}
use Rattle.cfb_entries.proofs.Marked.{distinct_join}

-- links agree on the places from `lo` up to `hi`
abbrev pub AreSame : List ℕ → List ℕ → ℕ → ℕ → Type 0
AreSame xs ys lo hi = (k : ℕ) → lo ≤ k → k < hi → get_or ys k 0 ≡ get_or xs k 0

pub tree_same : (xs ys xs' ys' : List ℕ) (lo hi top : ℕ) → IsSearchTree xs ys lo hi top → AreSame xs xs' lo hi
    → AreSame ys ys' lo hi → IsSearchTree xs' ys' lo hi top
tree_same xs ys xs' ys' lo hi top (empty at) p q = empty at
tree_same xs ys xs' ys' lo hi top (node from to lt a b) p q =
    let m : ℕ = middle lo hi in
    let A : IsSearchTree xs' ys' lo m (get_or xs m 0) = tree_same xs ys xs' ys' lo m (get_or xs m 0) a
    (λ k l h. p k l (omega arith)) (λ k l h. q k l (omega arith)) in
    let B : IsSearchTree xs' ys' (m + 1) hi (get_or ys m 0) = tree_same xs ys xs' ys' (m + 1) hi (get_or ys m 0) b
    (λ k l h. p k (omega arith) h) (λ k l h. q k (omega arith) h) in
    node lo hi lt (subst (IsSearchTree xs' ys' lo m) (sym (p m (omega arith) (omega arith))) A)
    (subst (IsSearchTree xs' ys' (m + 1) hi) (sym (q m (omega arith) (omega arith))) B)

-- both halves, and the links of the place between them
pub tree_joined : (xs ys xs' ys' : List ℕ) (lo hi before after : ℕ) → lo < hi → hi ≤ length xs' → hi ≤ length ys'
    → IsSearchTree xs ys lo (middle lo hi) before → AreKept xs xs' (middle lo hi + 1) hi
    → AreKept ys ys' (middle lo hi + 1) hi
    → IsSearchTree xs' ys' (middle lo hi + 1) hi after
    → IsSearchTree (set xs' (middle lo hi) before) (set ys' (middle lo hi) after) lo hi (middle lo hi)
tree_joined xs ys xs' ys' lo hi before after lt lx ly a kx ky b =
    let m : ℕ = middle lo hi in
    let xs'' : List ℕ = set xs' m before in
    let ys'' : List ℕ = set ys' m after in
    let other : (zs : List ℕ) (v k : ℕ) → k ≢ m → get_or (set zs m v) k 0 ≡ get_or zs k 0 =
    λ zs v k ne. get_or-set_other zs m k v 0 ne in
    let A : IsSearchTree xs'' ys'' lo m before = tree_same xs ys xs'' ys'' lo m before a
    (λ k l h. other xs' before k (omega arith) ∙ kx.before k (omega arith))
    (λ k l h. other ys' after k (omega arith) ∙ ky.before k (omega arith)) in
    let B : IsSearchTree xs'' ys'' (m + 1) hi after = tree_same xs' ys' xs'' ys'' (m + 1) hi after b
    (λ k l h. other xs' before k (omega arith)) (λ k l h. other ys' after k (omega arith)) in
    node lo hi lt (subst (IsSearchTree xs'' ys'' lo m) (sym (get_or-set_same xs' m before 0 (omega arith))) A)
    (subst (IsSearchTree xs'' ys'' (m + 1) hi) (sym (get_or-set_same ys' m after 0 (omega arith))) B)

-- What the entries of a directory need so that links reach just those that stand for the places below `count`.
pub record Holds (d : List ℕ) (id_of : ℕ → ℕ) (lefts rights : List ℕ) (count : ℕ) : Type 0 where
  pub few : count ≤ NO_STREAM
  pub somebody : (k : ℕ) → k < count → id_of k ≢ NO_STREAM
  pub inside : (k : ℕ) → k < count → 128 * id_of k < length d
  pub lefts_held : (k : ℕ) → k < count → left (entry_at d (id_of k)) ≡ link_to id_of (get_or lefts k 0)
  pub rights_held : (k : ℕ) → k < count → right (entry_at d (id_of k)) ≡ link_to id_of (get_or rights k 0)
  pub apart : (j k : ℕ) → j < k → k < count → id_of j ≢ id_of k

-- the entries that links reach from the one on top
pub record Reached (d : List ℕ) (id_of : ℕ → ℕ) (lo hi top : ℕ) : Type 0 where
  pub ids : List ℕ
  pub linked : AreLinked d (link_to id_of top) ids
  pub there : (k : ℕ) → lo ≤ k → k < hi → Contains ids (id_of k)
  pub only : (z : ℕ) → Contains ids z → (k : ℕ) × (lo ≤ k) × (k < hi) × (id_of k ≡ z)
  pub once : AreDistinct ids

module _ (d : List ℕ) (id_of : ℕ → ℕ) (lefts rights : List ℕ) (count : ℕ) (h : Holds d id_of lefts rights count) where
  link_to-place : (k : ℕ) → k < count → link_to id_of k ≡ id_of k
  link_to-place k lt =
      elim (eqb_tells k NO_STREAM) [
        | inl same ↦ absurd (omega (arith, same.1, h.few))
        | inr other ↦ ap (λ b. if b then NO_STREAM else id_of k) other.0
      ]

  apart_of : (j k : ℕ) → j ≢ k → j < count → k < count → id_of j ≢ id_of k
  apart_of j k ne lj lk same = elim (cases_lt j k) [
    | inl lt ↦ h.apart j k lt lk same
    | inr ge ↦
        h.apart k j (omega arith) lj (sym same)
  ]

  around_middle : (lo hi : ℕ) → lo < hi → hi ≤ count → Reached d id_of lo (middle lo hi) (get_or lefts (middle lo hi) 0)
      → Reached d id_of (middle lo hi + 1) hi (get_or rights (middle lo hi) 0) → Reached d id_of lo hi (middle lo hi)
  around_middle lo hi lt le a b =
      let m : ℕ = middle lo hi in
      let in_range : m < count = omega arith in
      let id : ℕ = id_of m in
      let L : AreLinked d (left (entry_at d id)) a.ids = subst (λ (x : ℕ). AreLinked d x a.ids)
      (sym (h.lefts_held m in_range)) a.linked in
      let R : AreLinked d (right (entry_at d id)) b.ids = subst (λ (x : ℕ). AreLinked d x b.ids)
      (sym (h.rights_held m in_range)) b.linked in
      let whole : AreLinked d id (id ∷ (a.ids ++ b.ids)) = around id a.ids b.ids (h.somebody m in_range)
      (h.inside m in_range) L R in
      record {
        ids = id ∷ (a.ids ++ b.ids);
        linked = subst (λ (x : ℕ). AreLinked d x (id ∷ (a.ids ++ b.ids))) (sym (link_to-place m in_range)) whole;
        there = λ k l r. elim (cases_lt k m) [
          | inl before ↦ Contains-append_right (id ∷ []) (a.ids ++ b.ids) (id_of k)
              (Contains-append_left a.ids b.ids (id_of k) (a.there k l before))
          | inr behind ↦ elim (eqb_tells k m) [
            | inl same ↦ (0, omega arith, ap id_of (sym same.1))
            | inr other ↦ Contains-append_right (id ∷ []) (a.ids ++ b.ids) (id_of k)
                (Contains-append_right a.ids b.ids (id_of k) (let ne : k ≢ m = other.1 in b.there k (omega arith) r))
          ]
        ];
        only = λ z c. elim (Contains-append_cases (id ∷ []) (a.ids ++ b.ids) z c) [
          | inl first ↦ (m, omega arith, omega arith, one_of id z first)
          | inr rest ↦ elim (Contains-append_cases a.ids b.ids z rest) [
            | inl x ↦ let o : (k : ℕ) × (lo ≤ k) × (k < m) × (id_of k ≡ z) = a.only z x in
                (o.0, o.1, omega (arith, o.2), o.3)
            | inr y ↦ let o : (k : ℕ) × (m + 1 ≤ k) × (k < hi) × (id_of k ≡ z) = b.only z y in
                (o.0, omega (arith, o.1), o.2, o.3)
          ]
        ];
        once = distinct_join (id ∷ []) (a.ids ++ b.ids) (λ i j x l r. absurd (omega arith))
            (distinct_join a.ids b.ids a.once b.once
            (λ z x y.
            let o : (k : ℕ) × (lo ≤ k) × (k < m) × (id_of k ≡ z) = a.only z x in
            let p : (k : ℕ) × (m + 1 ≤ k) × (k < hi) × (id_of k ≡ z) = b.only z y in
            apart_of o.0 p.0 (omega (arith, o.2, p.1)) (omega (arith, o.2)) (omega (arith, p.2)) (o.3 ∙ sym p.3)))
            (λ z x y. elim (Contains-append_cases a.ids b.ids z y) [
              | inl y' ↦ let o : (k : ℕ) × (lo ≤ k) × (k < m) × (id_of k ≡ z) = a.only z y' in
                  apart_of o.0 m (omega (arith, o.2)) (omega (arith, o.2)) in_range (o.3 ∙ sym (one_of id z x))
              | inr y' ↦ let o : (k : ℕ) × (m + 1 ≤ k) × (k < hi) × (id_of k ≡ z) = b.only z y' in
                  apart_of o.0 m (omega (arith, o.1)) (omega (arith, o.2)) in_range (o.3 ∙ sym (one_of id z x))
            ]);
      }
    where
      one_of : (x z : ℕ) → Contains (x ∷ []) z → x ≡ z
      one_of x z (zero, lt, is) = is
      one_of x z (suc k, lt, is) = absurd (omega arith)

  reached_by : (lo hi top : ℕ) → hi ≤ count → IsSearchTree lefts rights lo hi top → Reached d id_of lo hi top
  reached_by lo hi top le (empty at) = record {
    ids = [];
    linked = nobody;
    there = λ k l r. absurd (omega arith);
    only = λ z c. absurd (omega (arith, c.1));
    once = λ i j x l r. absurd (omega arith);
  }
  reached_by lo hi top le (node from to lt a b) =
      around_middle lo hi lt le (reached_by lo (middle lo hi) (get_or lefts (middle lo hi) 0) (omega arith) a)
      (reached_by (middle lo hi + 1) hi (get_or rights (middle lo hi) 0) le b)

  -- the links of a search tree reach just the entries that stand for its places, each once
  pub tree_reaches : (top : ℕ) → IsSearchTree lefts rights 0 count top → Reached d id_of 0 count top
  tree_reaches top t = reached_by 0 count top (omega arith) t
