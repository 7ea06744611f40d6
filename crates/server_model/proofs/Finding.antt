-- What is found after lists were changed.
use Rattle.std.proofs.Common.{◌≡◌, Bool, true, false, if◌then◌else◌, List, [], ◌∷◌, ◌++◌, refl, ap, sym, Option, Some}
use Rattle.std.proofs.Common.{None}
use Rattle.message_values.specs.Found.{find, put}

module _ {A : Type 0} (test : A → Bool) where
  pub find-more : (xs ys : List A) (x : A) → find test xs ≡ Some x → find test (xs ++ ys) ≡ Some x
  find-more [] ys x e = cc
  find-more (z ∷ zs) ys x e =
      elim (test z) as (λ b. (if b then Some z else find test zs) ≡ Some x
      → (if b then Some z else find test (zs ++ ys)) ≡ Some x) [
        | true ↦ λ h. h
        | false ↦ λ h. find-more zs ys x h
      ] e

  pub find-last : (xs : List A) (y : A) → find test xs ≡ None → test y ≡ true → find test (xs ++ y ∷ []) ≡ Some y
  find-last [] y e t = rw t refl
  find-last (z ∷ zs) y e t =
      elim (test z) as (λ b. (if b then Some z else find test zs) ≡ None
      → (if b then Some z else find test (zs ++ y ∷ [])) ≡ Some y) [
        | true ↦ λ h. cc
        | false ↦ λ h. find-last zs y h t
      ] e

  pub find-past : (xs : List A) (y : A) → test y ≡ false → find test (xs ++ y ∷ []) ≡ find test xs
  find-past [] y t = rw t refl
  find-past (z ∷ zs) y t = ap (λ (r : Option A). if test z then Some z else r) (find-past zs y t)

  pub find-put : (xs : List A) (x y : A) → find test xs ≡ Some x → test y ≡ true → find test (put test y xs) ≡ Some y
  find-put [] x y e t = cc
  find-put (z ∷ zs) x y e t =
      elim (test z) as (λ b. test z ≡ b → (if b then Some z else find test zs) ≡ Some x
      → find test (if b then y ∷ zs else z ∷ put test y zs) ≡ Some y) [
        | true ↦ λ s h. rw t refl
        | false ↦ λ s h. rw s (find-put zs x y h t)
      ] refl e

  pub put-found : (xs : List A) (x : A) → find test xs ≡ Some x → put test x xs ≡ xs
  put-found [] x e = refl
  put-found (z ∷ zs) x e =
      elim (test z) as (λ b. (if b then Some z else find test zs) ≡ Some x
      → (if b then x ∷ zs else z ∷ put test x zs) ≡ z ∷ zs) [
        | true ↦ λ h. (let same : z ≡ x = cc in ap (λ w. w ∷ zs) (sym same))
        | false ↦ λ h. ap (λ ws. z ∷ ws) (put-found zs x h)
      ] e

  -- another item takes its place
  pub put-other : (other : A → Bool) (xs : List A) (y : A) → ((z : A) → other z ≡ true → test z ≡ false)
      → other y ≡ true → find test (put other y xs) ≡ find test xs
  put-other other [] y apart t = refl
  put-other other (z ∷ zs) y apart t =
      elim (other z) as (λ b. other z ≡ b → find test (if b then y ∷ zs else z ∷ put other y zs)
      ≡ (if test z then Some z else find test zs)) [
        | true ↦ λ s. rw (apart y t, apart z s) refl
        | false ↦ λ s. ap (λ (r : Option A). if test z then Some z else r) (put-other other zs y apart t)
      ] refl
