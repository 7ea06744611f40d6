-- What stands in a list after a change.
use Rattle.std.proofs.Common.{◌≡◌, ℕ, zero, suc, ◌+◌, Bool, true, false, List, [], ◌∷◌, ◌++◌, Some, refl, sym, ap, ◌∙◌}
use Rattle.std.proofs.Common.{arith, subst, map, ◌==◌, if◌then◌else◌, eq-eqb}
use Rattle.std.specs.Prelude.{IsSomeAnd, slice_get, slice_set}
use Rattle.std.specs.List.{AllByRecursion}
use Rattle.message_values.specs.Found.{find, put, nth, set_nth}
use Rattle.object_state.specs.declared.grant_states.GrantState.{GrantState}
use Rattle.container_model.specs.declared.record.Object.{Object}
use Rattle.container_model.specs.declared.record.Frame.{Frame}
use Rattle.container_model.specs.Record.{is_busy}
use Rattle.container_model.specs.Saves.{awaits, is_awaited_link, is_keeping_link, keeps, settled_frame, settled_frames}
use Rattle.container_model.specs.Commands.{any_busy}
use Rattle.container_queues.specs.Steady.{EachPair}

-- each item
pub each_found : {A : Type 0} (P : A → Type 0) (test : A → Bool) (xs : List A) (x : A) → AllByRecursion P xs
    → find test xs ≡ Some x → P x
each_found P test [] x h e = cc
each_found P test (y ∷ ys) x h e = elim (test y) as (λ b. (if b then Some y else find test ys) ≡ Some x → P x) [
  | true ↦ (λ g. let yx : y ≡ x = cc in subst P yx h.0)
  | false ↦ (λ g. each_found P test ys x h.1 g)
] e

pub each_weaker : {A : Type 0} (P Q : A → Type 0) (xs : List A) → ((x : A) → P x → Q x) → AllByRecursion P xs
    → AllByRecursion Q xs
each_weaker P Q [] k h = tt
each_weaker P Q (x ∷ xs) k h = (k x h.0, each_weaker P Q xs k h.1)

pub each_both : {A : Type 0} (P Q : A → Type 0) (xs : List A) → AllByRecursion P xs → AllByRecursion Q xs
    → AllByRecursion (λ x. P x × Q x) xs
each_both P Q [] h k = tt
each_both P Q (x ∷ xs) h k = ((h.0, k.0), each_both P Q xs h.1 k.1)

pub each_put : {A : Type 0} (P : A → Type 0) (test : A → Bool) (a : A) (xs : List A) → AllByRecursion P xs → P a
    → AllByRecursion P (put test a xs)
each_put P test a [] h p = tt
each_put P test a (x ∷ xs) h p = elim (test x) as (λ b. AllByRecursion P (if b then a ∷ xs else x ∷ put test a xs)) [
  | true ↦ (p, h.1)
  | false ↦ (h.0, each_put P test a xs h.1 p)
]

pub each_map : {A : Type 0} (P Q : A → Type 0) (g : A → A) (xs : List A) → ((x : A) → P x → Q (g x))
    → AllByRecursion P xs → AllByRecursion Q (map g xs)
each_map P Q g [] k h = tt
each_map P Q g (x ∷ xs) k h = (k x h.0, each_map P Q g xs k h.1)

pub each_append : {A : Type 0} (P : A → Type 0) (xs : List A) (a : A) → AllByRecursion P xs → P a
    → AllByRecursion P (xs ++ a ∷ [])
each_append P [] a h p = (p, tt)
each_append P (x ∷ xs) a h p = (h.0, each_append P xs a h.1 p)

each_slice_set : {A : Type 0} (P : A → Type 0) (xs : List A) (i : ℕ) (a : A) → AllByRecursion P xs → P a
    → AllByRecursion P (slice_set xs i a)
each_slice_set P [] i a h p = tt
each_slice_set P (x ∷ xs) zero a h p = (p, h.1)
each_slice_set P (x ∷ xs) (suc i) a h p = (h.0, each_slice_set P xs i a h.1 p)

pub each_set : {A : Type 0} (P : A → Type 0) (xs : List A) (n : ℕ) (a : A) → AllByRecursion P xs → P a
    → AllByRecursion P (set_nth xs n a)
each_set P xs zero a h p = h
each_set P xs (suc i) a h p = each_slice_set P xs i a h p

pub each_get : {A : Type 0} (P : A → Type 0) (xs : List A) (i : ℕ) (x : A) → AllByRecursion P xs
    → slice_get xs i ≡ Some x → P x
each_get P [] i x h e = cc
each_get P (y ∷ ys) zero x h e = (let yx : y ≡ x = cc in subst P yx h.0)
each_get P (y ∷ ys) (suc i) x h e = each_get P ys i x h.1 e

pub each_nth : {A : Type 0} (P : A → Type 0) (xs : List A) (n : ℕ) (x : A) → AllByRecursion P xs → nth xs n ≡ Some x
    → P x
each_nth P xs zero x h e = cc
each_nth P xs (suc i) x h e = each_get P xs i x h e

-- each pair of items
pub pairs_put : {A : Type 0} (R : A → A → Type 0) (P : A → Type 0) (test : A → Bool) (a x : A) (xs : List A)
    → ((y : A) → P y → R y x → R y a) → ((y : A) → P y → R x y → R a y)
    → EachPair R xs → AllByRecursion P xs → find test xs ≡ Some x → EachPair R (put test a xs)
pairs_put R P test a x [] before behind h p e = cc
pairs_put R P test a x (y ∷ ys) before behind h p e =
    elim (test y) as (λ b. (if b then Some y else find test ys) ≡ Some x
    → EachPair R (if b then a ∷ ys else y ∷ put test a ys)) [
      | true ↦ (λ g. let yx : y ≡ x = cc in
          let rest : AllByRecursion (R x) ys = subst (λ z. AllByRecursion (R z) ys) yx h.0 in
          (each_weaker (λ z. P z × R x z) (R a) ys (λ z k. behind z k.0 k.1) (each_both P (R x) ys p.1 rest), h.1))
      | false ↦
          (λ g. (
            each_put (R y) test a ys h.0 (before y p.0 (each_found (R y) test ys x h.0 g)),
            pairs_put R P test a x
                ys before behind h.1 p.1 g,
          ))
    ] e

pub pairs_map : {A : Type 0} (R : A → A → Type 0) (g : A → A) (xs : List A) → ((x y : A) → R x y → R (g x) (g y))
    → EachPair R xs → EachPair R (map g xs)
pairs_map R g [] k h = tt
pairs_map R g (x ∷ xs) k h = (each_map (R x) (R (g x)) g xs (k x) h.0, pairs_map R g xs k h.1)

pub pairs_append : {A : Type 0} (R : A → A → Type 0) (xs : List A) (a : A) → EachPair R xs
    → AllByRecursion (λ x. R x a) xs → EachPair R (xs ++ a ∷ [])
pairs_append R [] a h k = (tt, tt)
pairs_append R (x ∷ xs) a h k = (each_append (R x) xs a h.0 k.0, pairs_append R xs a h.1 k.1)

-- the item of a number
get_append : {A : Type 0} (P : A → Type 0) (xs : List A) (a : A) (i : ℕ) → IsSomeAnd (slice_get xs i) P
    → IsSomeAnd (slice_get (xs ++ a ∷ []) i) P
get_append P [] a i h = absurd h
get_append P (x ∷ xs) a zero h = h
get_append P (x ∷ xs) a (suc i) h = get_append P xs a i h

pub nth_append : {A : Type 0} (P : A → Type 0) (xs : List A) (a : A) (n : ℕ) → IsSomeAnd (nth xs n) P
    → IsSomeAnd (nth (xs ++ a ∷ []) n) P
nth_append P xs a zero h = absurd h
nth_append P xs a (suc i) h = get_append P xs a i h

get-set_same : {A : Type 0} (xs : List A) (i : ℕ) (x a : A) → slice_get xs i ≡ Some x
    → slice_get (slice_set xs i a) i ≡ Some a
get-set_same [] i x a e = cc
get-set_same (y ∷ ys) zero x a e = refl
get-set_same (y ∷ ys) (suc i) x a e = get-set_same ys i x a e

pub nth-set_same : {A : Type 0} (xs : List A) (n : ℕ) (x a : A) → nth xs n ≡ Some x → nth (set_nth xs n a) n ≡ Some a
nth-set_same xs zero x a e = cc
nth-set_same xs (suc i) x a e = get-set_same xs i x a e

get-set_other : {A : Type 0} (xs : List A) (i j : ℕ) (a : A) → (i ≡ j → ⊥)
    → slice_get (slice_set xs i a) j ≡ slice_get xs j
get-set_other [] i j a ne = refl
get-set_other (y ∷ ys) zero zero a ne = absurd (ne refl)
get-set_other (y ∷ ys) zero (suc j) a ne = refl
get-set_other (y ∷ ys) (suc i) zero a ne = refl
get-set_other (y ∷ ys) (suc i) (suc j) a ne = get-set_other ys i j a (λ e. ne (ap suc e))

pub nth-set_other : {A : Type 0} (xs : List A) (n m : ℕ) (a : A) → (n ≡ m → ⊥) → nth (set_nth xs n a) m ≡ nth xs m
nth-set_other xs zero m a ne = refl
nth-set_other xs (suc i) zero a ne = refl
nth-set_other xs (suc i) (suc j) a ne = get-set_other xs i j a (λ e. ne (ap suc e))

-- frames whose saves went on
get-settled : (f : ℕ) (os : List Object) (frames : List Frame) (i : ℕ) (x : Frame) → slice_get frames i ≡ Some x
    → slice_get (settled_frames f os frames) i ≡ Some (settled_frame (f + i) os x)
get-settled f os [] i x e = cc
get-settled f os (y ∷ ys) zero x e =
    let yx : y ≡ x = cc in
    let at : f ≡ f + 0 = omega arith in
    ap (λ z. Some (settled_frame f os z)) yx ∙ ap (λ n. Some (settled_frame n os x)) at
get-settled f os (y ∷ ys) (suc i) x e =
    let at : (f + 1) + i ≡ f + suc i = omega arith in
    get-settled (f + 1) os ys i x e ∙ ap (λ n. Some (settled_frame n os x)) at

pub nth-settled : (os : List Object) (frames : List Frame) (n : ℕ) (x : Frame) → nth frames n ≡ Some x
    → nth (settled_frames 1 os frames) n ≡ Some (settled_frame n os x)
nth-settled os frames zero x e = cc
nth-settled os frames (suc i) x e = (let at : 1 + i ≡ suc i = omega arith in
    get-settled 1 os frames i x e ∙ ap (λ n. Some (settled_frame n os x)) at)

pub each_settled : (P : Frame → Type 0) (f : ℕ) (os : List Object) (frames : List Frame)
    → ((n : ℕ) (x : Frame) → P x → P (settled_frame n os x)) → AllByRecursion P frames
    → AllByRecursion P (settled_frames f os frames)
each_settled P f os [] k h = tt
each_settled P f os (x ∷ xs) k h = (k f x h.0, each_settled P (f + 1) os xs k h.1)

-- what tests over the objects of a frame tell of each
tells_none : (f : ℕ) (test rest : Bool) (o : Object)
    → (if o.frame == f then (if test then true else rest) else rest) ≡ false → (o.frame ≡ f → test ≡ false)
    × (rest ≡ false)
tells_none f true rest o e = elim (o.frame == f) as (λ b. (o.frame == f) ≡ b → (if b then true else rest) ≡ false
    → (o.frame ≡ f → true ≡ false) × (rest ≡ false)) [
      | true ↦ (λ t g. absurd (cc))
      | false ↦ (λ t g. (λ same. sym (eq-eqb o.frame f same) ∙ t, g))
    ] refl e
tells_none f false rest o e = elim (o.frame == f) as (λ b. (if b then rest else rest) ≡ false
    → (o.frame ≡ f → false ≡ false) × (rest ≡ false)) [
      | true ↦ (λ g. (λ same. refl, g))
      | false ↦ (λ g. (λ same. refl, g))
    ] e

pub none_awaited : (f : ℕ) (os : List Object) → awaits f os ≡ false
    → AllByRecursion (λ (o : Object). o.frame ≡ f → is_awaited_link o.link ≡ false) os
none_awaited f [] e = tt
none_awaited f (o ∷ os) e = (let t = tells_none f (is_awaited_link o.link) (awaits f os) o e in
    (t.0, none_awaited f os t.1))

pub none_keeping : (f : ℕ) (os : List Object) → keeps f os ≡ false
    → AllByRecursion (λ (o : Object). o.frame ≡ f → is_keeping_link o.link ≡ false) os
none_keeping f [] e = tt
none_keeping f (o ∷ os) e = (let t = tells_none f (is_keeping_link o.link) (keeps f os) o e in
    (t.0, none_keeping f os t.1))

pub none_busy : (f : ℕ) (state : GrantState) (os : List Object) → any_busy f state os ≡ false
    → AllByRecursion (λ (o : Object). o.frame ≡ f → is_busy state o ≡ false) os
none_busy f state [] e = tt
none_busy f state (o ∷ os) e = (let t = tells_none f (is_busy state o) (any_busy f state os) o e in
    (t.0, none_busy f state os t.1))
