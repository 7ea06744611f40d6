-- How many objects a frame has after a change, and lists without an item.
use Rattle.std.proofs.Common.{◌≡◌, ◌≤◌, ◌<◌, ℕ, ◌+◌, Bool, true, false, List, [], ◌∷◌, ◌++◌, Some, refl, sym, ap, ◌∙◌}
use Rattle.std.proofs.Common.{arith, subst, map, ◌==◌, if◌then◌else◌}
use Rattle.std.proofs.lemmas.Bool.{eqb-true}
use Rattle.std.specs.List.{AllByRecursion}
use Rattle.message_values.specs.Found.{find, put}
use Rattle.container_model.specs.declared.record.Object.{Object}
use Rattle.container_model.specs.Record.{count_objects, without_first}
use Rattle.container_queues.specs.Steady.{EachPair}

pub count_put : (f : ℕ) (test : Object → Bool) (a x : Object) (os : List Object) → find test os ≡ Some x
    → a.frame ≡ x.frame → count_objects f (put test a os) ≡ count_objects f os
count_put f test a x [] e h = refl
count_put f test a x (y ∷ ys) e h = elim (test y) as (λ b. (if b then Some y else find test ys) ≡ Some x
    → count_objects f (if b then a ∷ ys else y ∷ put test a ys) ≡ count_objects f (y ∷ ys)) [
      | true ↦ (λ g. let yx : y ≡ x = cc in
          let same : a.frame ≡ y.frame = h ∙ ap (λ (z : Object). z.frame) (sym yx) in
          ap (λ (n : ℕ). if n == f then 1 + count_objects f ys else count_objects f ys) same)
      | false ↦ (λ g. ap (λ (n : ℕ). if y.frame == f then 1 + n else n) (count_put f test a x ys g h))
    ] e

pub count_map : (f : ℕ) (g : Object → Object) (os : List Object) → ((o : Object) → (g o).frame ≡ o.frame)
    → count_objects f (map g os) ≡ count_objects f os
count_map f g [] h = refl
count_map f g (y ∷ ys) h =
    ap (λ (n : ℕ). if n == f then 1 + count_objects f (map g ys) else count_objects f (map g ys)) (h y)
    ∙ ap (λ (n : ℕ). if y.frame == f then 1 + n else n) (count_map f g ys h)

pub count_append : (f : ℕ) (a : Object) (os : List Object) → count_objects f (os ++ a ∷ [])
    ≡ count_objects f os + (if a.frame == f then 1 else 0)
count_append f a [] = elim (a.frame == f) as (λ b. (if b then 1 + 0 else 0) ≡ 0 + (if b then 1 else 0)) [
  | true ↦
      refl
  | false ↦ refl
]
count_append f a (y ∷ ys) =
    let rest : count_objects f (ys ++ a ∷ []) ≡ count_objects f ys + (if a.frame == f then 1 else 0) =
    count_append f a ys in
    elim (y.frame == f) as (λ b. (if b then 1 + count_objects f (ys ++ a ∷ []) else count_objects f (ys ++ a ∷ []))
    ≡ (if b then 1 + count_objects f ys else count_objects f ys) + (if a.frame == f then 1 else 0)) [
      | true ↦ omega (arith, rest)
      | false ↦ rest
    ]

-- one more object in a frame that has room
pub count_more : (most f : ℕ) (a : Object) (os : List Object) → count_objects f os ≤ most
    → count_objects a.frame os < most → count_objects f (os ++ a ∷ []) ≤ most
count_more most f a os le room =
    let more : count_objects f (os ++ a ∷ []) ≡ count_objects f os + (if a.frame == f then 1 else 0) =
    count_append f a os in
    subst (λ (n : ℕ). n ≤ most) (sym more)
    (elim (a.frame == f) as (λ b. (a.frame == f) ≡ b → count_objects f os + (if b then 1 else 0) ≤ most) [
      | true ↦ (λ t. let here : count_objects f os < most = subst (λ (n : ℕ). count_objects n os < most)
          (eqb-true a.frame f t) room in omega (arith, here))
      | false ↦ (λ t. omega (arith, le))
    ] refl)

-- without an item
pub count_without : (f : ℕ) (test : Object → Bool) (os : List Object) → count_objects f (without_first test os)
    ≤ count_objects f os
count_without f test [] = omega arith
count_without f test (y ∷ ys) =
    let rest : count_objects f (without_first test ys) ≤ count_objects f ys = count_without f test ys in
    elim (test y) as (λ b. count_objects f (if b then ys else y ∷ without_first test ys) ≤ count_objects f (y ∷ ys)) [
      | true ↦
          (elim (y.frame == f) as (λ b. count_objects f ys ≤ (if b then 1 + count_objects f ys
          else count_objects f ys)) [ true ↦ omega arith | false ↦ omega arith ])
      | false ↦
          (elim (y.frame == f) as (λ b. (if b then 1 + count_objects f (without_first test ys)
          else count_objects f (without_first test ys)) ≤ (if b then 1 + count_objects f ys
          else count_objects f ys)) [ true ↦ omega (arith, rest) | false ↦ rest ])
    ]

pub each_without : {A : Type 0} (P : A → Type 0) (test : A → Bool) (xs : List A) → AllByRecursion P xs
    → AllByRecursion P (without_first test xs)
each_without P test [] h = tt
each_without P test (x ∷ xs) h =
    elim (test x) as (λ b. AllByRecursion P (if b then xs else x ∷ without_first test xs)) [
      | true ↦ h.1
      | false ↦ (h.0, each_without P test xs h.1)
    ]

pub pairs_without : {A : Type 0} (R : A → A → Type 0) (test : A → Bool) (xs : List A) → EachPair R xs
    → EachPair R (without_first test xs)
pairs_without R test [] h = tt
pairs_without R test (x ∷ xs) h = elim (test x) as (λ b. EachPair R (if b then xs else x ∷ without_first test xs)) [
  | true ↦ h.1
  | false ↦ (each_without (R x) test xs h.0, pairs_without R test xs h.1)
]
