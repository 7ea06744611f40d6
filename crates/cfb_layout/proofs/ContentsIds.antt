-- The ids of siblings, and links between them.
use Rattle.std.proofs.Common.{◌≡◌, ◌<◌, ◌≤◌, ◌+◌, ◌^◌, ◌↔◌, inl, inr, ℕ, zero, suc, List, length, get_or, slice_index}
use Rattle.std.proofs.Common.{refl, sym, ◌∙◌, ap, subst, arith}
use Rattle.std.specs.Prelude.{if◌then◌else◌}
use Rattle.std.proofs.lemmas.Bool.{cases_order}
use Rattle.std.proofs.lemmas.Bool.Decides.{eqb_tells}
use Rattle.std.proofs.lemmas.Grind.{get_or_default_zero}
use Rattle.std.specs.List.{Contains}
use Rattle.cfb_entries.specs.Entries.{NO_STREAM}
use Rattle.cfb_entries.specs.SearchTree.{IsSearchTree, empty, node, middle}
use Rattle.cfb_entries.proofs.Trees.{Reached}
use Rattle.cfb_entries.specs.Tree.{Children, none, stream, storage}
use Rattle.cfb_file.specs.Need.{entries, entries_of}
use Rattle.cfb_layout.specs.Directory.{IsLink, Siblings, AreBalanced, ids_from, linked}

pub ids-from : (id : ℕ) (cs : Children) (k : ℕ) → k < length (ids_from id cs) → id ≤ get_or (ids_from id cs) k 0
ids-from id none k l = absurd (omega arith)
ids-from id (stream q n b cs) zero l = omega arith
ids-from id (stream q n b cs) (suc k) l = let r : id + 1 ≤ get_or (ids_from (id + 1) cs) k 0 =
    ids-from (id + 1) cs k (omega arith) in omega arith
ids-from id (storage q n t cs) zero l = omega arith
ids-from id (storage q n t cs) (suc k) l =
    let r : id + 1 + entries t ≤ get_or (ids_from (id + 1 + entries t) cs) k 0 =
    ids-from (id + 1 + entries t) cs k (omega arith) in omega arith

pub ids-below : (id : ℕ) (cs : Children) (k : ℕ) → k < length (ids_from id cs)
    → get_or (ids_from id cs) k 0 < id + entries_of cs
ids-below id none k l = absurd (omega arith)
ids-below id (stream q n b cs) zero l = omega arith
ids-below id (stream q n b cs) (suc k) l = let r : get_or (ids_from (id + 1) cs) k 0 < id + 1 + entries_of cs =
    ids-below (id + 1) cs k (omega arith) in omega arith
ids-below id (storage q n t cs) zero l = omega arith
ids-below id (storage q n t cs) (suc k) l =
    let r : get_or (ids_from (id + 1 + entries t) cs) k 0 < id + 1 + entries t + entries_of cs =
    ids-below (id + 1 + entries t) cs k (omega arith) in omega arith

pub ids-increase : (id : ℕ) (cs : Children) (j k : ℕ) → j < k → k < length (ids_from id cs)
    → get_or (ids_from id cs) j 0 < get_or (ids_from id cs) k 0
ids-increase id none j k less l = absurd (omega arith)
ids-increase id (stream q n b cs) j zero less l = absurd (omega arith)
ids-increase id (stream q n b cs) zero (suc k) less l = let r : id + 1 ≤ get_or (ids_from (id + 1) cs) k 0 =
    ids-from (id + 1) cs k (omega arith) in omega arith
ids-increase id (stream q n b cs) (suc j) (suc k) less l = ids-increase (id + 1) cs j k (omega arith) (omega arith)
ids-increase id (storage q n t cs) j zero less l = absurd (omega arith)
ids-increase id (storage q n t cs) zero (suc k) less l =
    let r : id + 1 + entries t ≤ get_or (ids_from (id + 1 + entries t) cs) k 0 =
    ids-from (id + 1 + entries t) cs k (omega arith) in omega arith
ids-increase id (storage q n t cs) (suc j) (suc k) less l = ids-increase (id + 1 + entries t) cs j k (omega arith)
    (omega arith)

pub count-le : (id : ℕ) (cs : Children) → length (ids_from id cs) ≤ entries_of cs
count-le id none = omega arith
count-le id (stream q n b cs) = omega (arith, count-le (id + 1) cs)
count-le id (storage q n t cs) = omega (arith, count-le (id + 1 + entries t) cs)

pub top-link : (lefts rights : List ℕ) (lo hi top : ℕ) → IsSearchTree lefts rights lo hi top → IsLink hi top
top-link lefts rights lo hi top (empty at) = inl refl
top-link lefts rights lo hi top (node from to some before after) = inr (omega arith)

wider : (m n place : ℕ) → m ≤ n → IsLink m place → IsLink n place
wider m n place le (inl e) = inl e
wider m n place le (inr l) = inr (omega arith)

pub record LinksAt (lefts rights : List ℕ) (count place : ℕ) : Type 0 where
  pub to_left : IsLink count (slice_index lefts place)
  pub to_right : IsLink count (slice_index rights place)

pub links-at : (lefts rights : List ℕ) (lo hi top : ℕ) → IsSearchTree lefts rights lo hi top → (p : ℕ) → lo ≤ p
    → p < hi → LinksAt lefts rights hi p
links-at lefts rights lo hi top (empty at) p from to = absurd (omega arith)
links-at lefts rights lo hi top (node from' to' some before after) p from to =
    let m : ℕ = middle lo hi in
    elim (cases_order m p) [
      | inl e ↦ subst (LinksAt lefts rights hi) e (record {
        to_left = wider m hi (slice_index lefts m) (omega arith)
            (top-link lefts rights lo m (slice_index lefts m) before);
        to_right = top-link lefts rights (m + 1) hi (slice_index rights m) after;
      })
      | inr d ↦ elim d [
        | inl more ↦ links-at lefts rights (m + 1) hi (slice_index rights m) after p (omega arith) to
        | inr less ↦
            let r : LinksAt lefts rights m p = links-at lefts rights lo m (slice_index lefts m) before p from less in
            record {
              to_left = wider m hi (slice_index lefts p) (omega arith) r.to_left;
              to_right = wider m hi (slice_index rights p) (omega arith) r.to_right;
            }
      ]
    ]

linked-fits : (ids : List ℕ) (place : ℕ) → ((k : ℕ) → k < length ids → get_or ids k 0 < 2 ^ 32)
    → IsLink (length ids) place → linked ids place < 2 ^ 32
linked-fits ids place small link =
    elim (eqb_tells place NO_STREAM) [
      | inl same ↦ let e : linked ids place ≡ NO_STREAM = ap (λ b. if b then NO_STREAM else slice_index ids place)
          same.0 in omega (arith, e)
      | inr other ↦
          let e : linked ids place ≡ slice_index ids place =
          ap (λ b. if b then NO_STREAM else slice_index ids place) other.0 in
          elim link [
            | inl none_there ↦ absurd (omega (arith, other.1, none_there))
            | inr l ↦ omega (arith, e, small place l)
          ]
    ]

module _ (links : ℕ → Siblings) (balanced : AreBalanced links) (ids : List ℕ)
    (small : (k : ℕ) → k < length ids → get_or ids k 0 < 2 ^ 32) where
  abbrev n : ℕ
  n = length ids

  pub top-fits : linked ids (links n).top < 2 ^ 32
  top-fits = linked-fits ids (links n).top small
      (top-link (links n).left (links n).right 0 n (links n).top (balanced n))

  pub left-fits : (place : ℕ) → place < n → linked ids (slice_index (links n).left place) < 2 ^ 32
  left-fits place l = linked-fits ids (slice_index (links n).left place) small
      (links-at (links n).left (links n).right 0 n (links n).top (balanced n) place (omega arith) l).to_left

  pub right-fits : (place : ℕ) → place < n → linked ids (slice_index (links n).right place) < 2 ^ 32
  right-fits place l = linked-fits ids (slice_index (links n).right place) small
      (links-at (links n).left (links n).right 0 n (links n).top (balanced n) place (omega arith) l).to_right

-- what is reached is just the siblings
pub reached-same : (d ids : List ℕ) (top : ℕ) (r : Reached d (slice_index ids) 0 (length ids) top) (z : ℕ)
    → Contains r.ids z ↔ Contains ids z
reached-same d ids top r z = (
  λ c. let o : (k : ℕ) × (0 ≤ k) × (k < length ids) × (slice_index ids k ≡ z) = r.only z c in
      (o.0, o.2, get_or_default_zero ids o.0 z o.2 ∙ o.3),
  λ c. let e : slice_index ids c.0 ≡ z = sym (get_or_default_zero ids c.0 z c.1) ∙ c.2 in
      subst (λ (y : ℕ). Contains r.ids y) e (r.there c.0 (omega arith) c.1),
)
