-- The balanced links of siblings are a search tree, and the only one.
use Rattle.std.proofs.Common.{◌≡◌, ◌<◌, ◌≤◌, ◌+◌, ◌-◌, inl, inr, ℕ, zero, suc, cond, List, [], ◌∷◌, ◌++◌, length}
use Rattle.std.proofs.Common.{get_or, slice_index, refl, sym, ◌∙◌, ap, subst, arith, length-append}
use Rattle.std.proofs.Math.ListN.{get_or-append}
use Rattle.std.proofs.lemmas.List.{get_or-append-add}
use Rattle.std.proofs.lemmas.Bool.{cases_lt, cases_order, lt-ltb, le-ltb}
use Rattle.cfb_entries.specs.Entries.{NO_STREAM}
use Rattle.cfb_entries.specs.SearchTree.{IsSearchTree, empty, node, middle}
use Rattle.cfb_layout.specs.Directory.{AreBalanced, top_between, lefts, rights, balanced}

lefts-some : (depth lo hi : ℕ) → lo < hi → lefts (suc depth) lo hi ≡ lefts depth lo (middle lo hi)
    ++ top_between lo (middle lo hi) ∷ lefts depth (middle lo hi + 1) hi
lefts-some depth lo hi l =
    ap (λ b. cond b (lefts depth lo (middle lo hi) ++ top_between lo (middle lo hi)
    ∷ lefts depth (middle lo hi + 1) hi) []) (lt-ltb lo hi l)

lefts-none : (depth lo hi : ℕ) → hi ≤ lo → lefts depth lo hi ≡ []
lefts-none zero lo hi l = refl
lefts-none (suc depth) lo hi l =
    ap (λ b. cond b (lefts depth lo (middle lo hi) ++ top_between lo (middle lo hi)
    ∷ lefts depth (middle lo hi + 1) hi) []) (le-ltb lo hi l)

rights-some : (depth lo hi : ℕ) → lo < hi → rights (suc depth) lo hi ≡ rights depth lo (middle lo hi)
    ++ top_between (middle lo hi + 1) hi ∷ rights depth (middle lo hi + 1) hi
rights-some depth lo hi l =
    ap (λ b. cond b (rights depth lo (middle lo hi) ++ top_between (middle lo hi + 1) hi
    ∷ rights depth (middle lo hi + 1) hi) []) (lt-ltb lo hi l)

rights-none : (depth lo hi : ℕ) → hi ≤ lo → rights depth lo hi ≡ []
rights-none zero lo hi l = refl
rights-none (suc depth) lo hi l =
    ap (λ b. cond b (rights depth lo (middle lo hi) ++ top_between (middle lo hi + 1) hi
    ∷ rights depth (middle lo hi + 1) hi) []) (le-ltb lo hi l)

length-lefts : (depth lo hi : ℕ) → hi ≤ lo + depth → length (lefts depth lo hi) ≡ hi - lo
length-lefts zero lo hi enough = omega arith
length-lefts (suc depth) lo hi enough = elim (cases_lt lo hi) [
  | inl l ↦
      let m : ℕ = middle lo hi in
      let a : length (lefts depth lo m) ≡ m - lo = length-lefts depth lo m (omega arith) in
      let b : length (lefts depth (m + 1) hi) ≡ hi - (m + 1) = length-lefts depth (m + 1) hi (omega arith) in
      ap length (lefts-some depth lo hi l)
      ∙ omega (arith, length-append (lefts depth lo m) (top_between lo m ∷ lefts depth (m + 1) hi))
  | inr g ↦ ap length (lefts-none (suc depth) lo hi g) ∙ omega arith
]

length-rights : (depth lo hi : ℕ) → hi ≤ lo + depth → length (rights depth lo hi) ≡ hi - lo
length-rights zero lo hi enough = omega arith
length-rights (suc depth) lo hi enough = elim (cases_lt lo hi) [
  | inl l ↦
      let m : ℕ = middle lo hi in
      let a : length (rights depth lo m) ≡ m - lo = length-rights depth lo m (omega arith) in
      let b : length (rights depth (m + 1) hi) ≡ hi - (m + 1) = length-rights depth (m + 1) hi (omega arith) in
      ap length (rights-some depth lo hi l)
      ∙ omega (arith, length-append (rights depth lo m) (top_between (m + 1) hi ∷ rights depth (m + 1) hi))
  | inr g ↦ ap length (rights-none (suc depth) lo hi g) ∙ omega arith
]

-- a list has these numbers from a place on
abbrev Has : List ℕ → ℕ → List ℕ → Type 0
Has xs lo ys = (k : ℕ) → k < length ys → get_or xs (lo + k) 0 ≡ get_or ys k 0

has-front : (xs : List ℕ) (lo : ℕ) (us : List ℕ) (v : ℕ) (bs : List ℕ) → Has xs lo (us ++ v ∷ bs) → Has xs lo us
has-front xs lo us v bs h k l = h k (omega (arith, length-append us (v ∷ bs))) ∙ get_or-append us (v ∷ bs) 0 k l

has-middle : (xs : List ℕ) (lo m : ℕ) (us : List ℕ) (v : ℕ) (bs : List ℕ) → lo + length us ≡ m
    → Has xs lo (us ++ v ∷ bs) → get_or xs m 0 ≡ v
has-middle xs lo m us v bs e h =
    let z : length us + 0 ≡ length us = omega arith in
    ap (λ k. get_or xs k 0) (sym e) ∙ h (length us) (omega (arith, length-append us (v ∷ bs)))
    ∙ ap (λ k. get_or (us ++ v ∷ bs) k 0) (sym z) ∙ get_or-append-add us (v ∷ bs) 0 0

has-back : (xs : List ℕ) (lo m : ℕ) (us : List ℕ) (v : ℕ) (bs : List ℕ) → lo + length us ≡ m
    → Has xs lo (us ++ v ∷ bs) → Has xs (m + 1) bs
has-back xs lo m us v bs e h k l =
    let p : m + 1 + k ≡ lo + (length us + suc k) = omega arith in
    ap (λ j. get_or xs j 0) p ∙ h (length us + suc k) (omega (arith, length-append us (v ∷ bs)))
    ∙ get_or-append-add us (v ∷ bs) (suc k) 0

searches : (depth lo hi : ℕ) (xs ys : List ℕ) → hi ≤ lo + depth → lo ≤ hi → Has xs lo (lefts depth lo hi)
    → Has ys lo (rights depth lo hi)
    → IsSearchTree xs ys lo hi (top_between lo hi)
searches zero lo hi xs ys enough order h i =
    let e : lo ≡ hi = omega arith in
    let t : NO_STREAM ≡ top_between lo hi =
    sym (ap (λ b. cond b (middle lo hi) NO_STREAM) (le-ltb lo hi (omega arith))) in
    subst (IsSearchTree xs ys lo hi) t (subst (λ (z : ℕ). IsSearchTree xs ys lo z NO_STREAM) e (empty lo))
searches (suc depth) lo hi xs ys enough order h i = elim (cases_lt lo hi) [
  | inl l ↦
      let m : ℕ = middle lo hi in
      let ls : List ℕ = lefts depth lo m in
      let rs : List ℕ = rights depth lo m in
      let h' : Has xs lo (ls ++ top_between lo m ∷ lefts depth (m + 1) hi) =
      subst (Has xs lo) (lefts-some depth lo hi l) h in
      let i' : Has ys lo (rs ++ top_between (m + 1) hi ∷ rights depth (m + 1) hi) =
      subst (Has ys lo) (rights-some depth lo hi l) i in
      let el : lo + length ls ≡ m = omega (arith, length-lefts depth lo m (omega arith)) in
      let er : lo + length rs ≡ m = omega (arith, length-rights depth lo m (omega arith)) in
      let a : IsSearchTree xs ys lo m (top_between lo m) = searches depth lo m xs ys (omega arith) (omega arith)
      (has-front xs lo ls (top_between lo m) (lefts depth (m + 1) hi) h')
      (has-front ys lo rs (top_between (m + 1) hi) (rights depth (m + 1) hi) i') in
      let b : IsSearchTree xs ys (m + 1) hi (top_between (m + 1) hi) =
      searches depth (m + 1) hi xs ys (omega arith) (omega arith)
      (has-back xs lo m ls (top_between lo m) (lefts depth (m + 1) hi) el h')
      (has-back ys lo m rs (top_between (m + 1) hi) (rights depth (m + 1) hi) er i') in
      let t : m ≡ top_between lo hi = sym (ap (λ b. cond b (middle lo hi) NO_STREAM) (lt-ltb lo hi l)) in
      subst (IsSearchTree xs ys lo hi) t
      (node lo hi l (subst (IsSearchTree xs ys lo m)
      (sym (has-middle xs lo m ls (top_between lo m) (lefts depth (m + 1) hi) el h')) a)
      (subst (IsSearchTree xs ys (m + 1) hi)
      (sym (has-middle ys lo m rs (top_between (m + 1) hi) (rights depth (m + 1) hi) er i')) b))
  | inr g ↦
      let e : lo ≡ hi = omega arith in
      let t : NO_STREAM ≡ top_between lo hi = sym (ap (λ b. cond b (middle lo hi) NO_STREAM) (le-ltb lo hi g)) in
      subst (IsSearchTree xs ys lo hi) t (subst (λ (z : ℕ). IsSearchTree xs ys lo z NO_STREAM) e (empty lo))
]

pub are-balanced : AreBalanced balanced
are-balanced n = searches n 0 n (lefts n 0 n) (rights n 0 n) (omega arith) (omega arith)
    (λ k l. let e : 0 + k ≡ k = omega arith in ap (λ j. get_or (lefts n 0 n) j 0) e)
    (λ k l. let e : 0 + k ≡ k = omega arith in ap (λ j. get_or (rights n 0 n) j 0) e)

-- two search trees over the same places have one top and the same links
pub record SameLinks (xs ys xs' ys' : List ℕ) (lo hi : ℕ) : Type 0 where
  pub left : (k : ℕ) → lo ≤ k → k < hi → slice_index xs k ≡ slice_index xs' k
  pub right : (k : ℕ) → lo ≤ k → k < hi → slice_index ys k ≡ slice_index ys' k

one-top-at : (xs ys xs' ys' : List ℕ) (lo hi lo' hi' top top' : ℕ) → lo ≡ lo' → hi ≡ hi'
    → IsSearchTree xs ys lo hi top → IsSearchTree xs' ys' lo' hi' top' → top ≡ top'
one-top-at xs ys xs' ys' lo hi lo' hi' top top' e f (empty at) (empty at') = refl
one-top-at xs ys xs' ys' lo hi lo' hi' top top' e f (empty at) (node from to l a b) = absurd (omega arith)
one-top-at xs ys xs' ys' lo hi lo' hi' top top' e f (node from to l a b) (empty at') = absurd (omega arith)
one-top-at xs ys xs' ys' lo hi lo' hi' top top' e f (node from to l a b) (node from' to' l' a' b') =
    (λ i. middle (e i) (f i))

pub one-top : (xs ys xs' ys' : List ℕ) (lo hi top top' : ℕ) → IsSearchTree xs ys lo hi top
    → IsSearchTree xs' ys' lo hi top' → top ≡ top'
one-top xs ys xs' ys' lo hi top top' s s' = one-top-at xs ys xs' ys' lo hi lo hi top top' refl refl s s'

same-links-at : (xs ys xs' ys' : List ℕ) (lo hi lo' hi' top top' : ℕ) → lo ≡ lo' → hi ≡ hi'
    → IsSearchTree xs ys lo hi top → IsSearchTree xs' ys' lo' hi' top' → SameLinks xs ys xs' ys' lo hi
same-links-at xs ys xs' ys' lo hi lo' hi' top top' e f (empty at) s =
    record { left = λ k p q. absurd (omega arith); right = λ k p q. absurd (omega arith) }
same-links-at xs ys xs' ys' lo hi lo' hi' top top' e f (node from to l a b) (empty at') = absurd (omega arith)
same-links-at xs ys xs' ys' lo hi lo' hi' top top' e f (node from to l a b) (node from' to' l' a' b') =
    let m : ℕ = middle lo hi in
    let m' : ℕ = middle lo' hi' in
    let g : m ≡ m' = (λ i. middle (e i) (f i)) in
    let h : m + 1 ≡ m' + 1 = ap (λ z. z + 1) g in
    let A : SameLinks xs ys xs' ys' lo m = same-links-at xs ys xs' ys' lo m lo' m' (slice_index xs m)
    (slice_index xs' m') e g a a' in
    let B : SameLinks xs ys xs' ys' (m + 1) hi = same-links-at xs ys xs' ys' (m + 1) hi (m' + 1) hi'
    (slice_index ys m) (slice_index ys' m') h f b b' in
    let here : slice_index xs m ≡ slice_index xs' m = one-top-at xs ys xs' ys' lo m lo' m' (slice_index xs m)
    (slice_index xs' m') e g a a' ∙ ap (slice_index xs') (sym g) in
    let here' : slice_index ys m ≡ slice_index ys' m = one-top-at xs ys xs' ys' (m + 1) hi (m' + 1) hi'
    (slice_index ys m) (slice_index ys' m') h f b b' ∙ ap (slice_index ys') (sym g) in
    record {
      left = λ k p q. elim (cases_order m k) [
        | inl w ↦ subst (λ (z : ℕ). slice_index xs z ≡ slice_index xs' z) w here
        | inr d ↦ elim d [ inl more ↦ B.left k (omega arith) q | inr less ↦ A.left k p less ]
      ];
      right = λ k p q. elim (cases_order m k) [
        | inl w ↦ subst (λ (z : ℕ). slice_index ys z ≡ slice_index ys' z) w here'
        | inr d ↦ elim d [ inl more ↦ B.right k (omega arith) q | inr less ↦ A.right k p less ]
      ];
    }

pub same-links : (xs ys xs' ys' : List ℕ) (lo hi top top' : ℕ) → IsSearchTree xs ys lo hi top
    → IsSearchTree xs' ys' lo hi top' → SameLinks xs ys xs' ys' lo hi
same-links xs ys xs' ys' lo hi top top' s s' = same-links-at xs ys xs' ys' lo hi lo hi top top' refl refl s s'
