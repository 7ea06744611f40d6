-- What stands in lists, and at which number.
use Rattle.std.proofs.Common.{◌≡◌, ◌≢◌, ◌⊎◌, ℕ, zero, suc, ◌<◌, ◌≤◌, Bool, true, false, List, [], ◌∷◌, ◌++◌, length}
use Rattle.std.proofs.Common.{map, Some, refl, sym, ap, ◌∙◌, inl, inr, arith, slice_get, slice_set, if◌then◌else◌}
use Rattle.message_values.specs.Found.{find, put, nth, set_nth}
use Rattle.world_model.specs.Safe.{Among}

pub among_join : {A : Type 0} (xs ys : List A) (x : A) → Among (xs ++ ys) x → Among xs x ⊎ Among ys x
among_join [] ys x h = inr h
among_join (z ∷ zs) ys x (inl e) = inl (inl e)
among_join (z ∷ zs) ys x (inr h) = elim (among_join zs ys x h) [ inl g ↦ inl (inr g) | inr g ↦ inr g ]

pub among_old : {A : Type 0} (xs ys : List A) (x : A) → Among xs x → Among (xs ++ ys) x
among_old [] ys x h = absurd h
among_old (z ∷ zs) ys x (inl e) = inl e
among_old (z ∷ zs) ys x (inr h) = inr (among_old zs ys x h)

pub among_new : {A : Type 0} (xs ys : List A) (x : A) → Among ys x → Among (xs ++ ys) x
among_new [] ys x h = h
among_new (z ∷ zs) ys x h = inr (among_new zs ys x h)

pub among_map : {A B : Type 0} (f : A → B) (xs : List A) (x : A) → Among xs x → Among (map f xs) (f x)
among_map f [] x h = absurd h
among_map f (z ∷ zs) x (inl e) = inl (ap f e)
among_map f (z ∷ zs) x (inr h) = inr (among_map f zs x h)

pub among_mapped : {A B : Type 0} (f : A → B) (xs : List A) (y : B) → Among (map f xs) y → (x : A) × Among xs x
    × (y ≡ f x)
among_mapped f [] y h = absurd h
among_mapped f (z ∷ zs) y (inl e) = (z, inl refl, e)
among_mapped f (z ∷ zs) y (inr h) = (let r = among_mapped f zs y h in (r.0, inr r.1, r.2))

pub find_passes : {A : Type 0} (test : A → Bool) (xs : List A) (x : A) → find test xs ≡ Some x → test x ≡ true
find_passes test [] x e = cc
find_passes test (y ∷ ys) x e =
    elim (test y) as (λ b. test y ≡ b → (if b then Some y else find test ys) ≡ Some x → test x ≡ true) [
      | true ↦ (λ t g. let yx : y ≡ x = cc in ap test (sym yx) ∙ t)
      | false ↦ (λ t g. find_passes test ys x g)
    ] refl e

pub find_among : {A : Type 0} (test : A → Bool) (xs : List A) (x : A) → find test xs ≡ Some x → Among xs x
find_among test [] x e = cc
find_among test (y ∷ ys) x e =
    elim (test y) as (λ b. (if b then Some y else find test ys) ≡ Some x → Among (y ∷ ys) x) [
      | true ↦ (λ g. inl (cc))
      | false ↦ (λ g. inr (find_among test ys x g))
    ] e

pub map_put : {A B : Type 0} (f : A → B) (test : A → Bool) (a x : A) (xs : List A) → find test xs ≡ Some x
    → f a ≡ f x → map f (put test a xs) ≡ map f xs
map_put f test a x [] e h = refl
map_put f test a x (y ∷ ys) e h =
    elim (test y) as (λ b. (if b then Some y else find test ys) ≡ Some x
    → map f (if b then a ∷ ys else y ∷ put test a ys) ≡ map f (y ∷ ys)) [
      | true ↦ (λ g. let yx : y ≡ x = cc in ap (λ v. v ∷ map f ys) (h ∙ ap f (sym yx)))
      | false ↦ (λ g. ap (λ vs. f y ∷ vs) (map_put f test a x ys g h))
    ] e

pub map_map_same : {A B : Type 0} (f : A → B) (g : A → A) (xs : List A) → ((x : A) → f (g x) ≡ f x)
    → map f (map g xs) ≡ map f xs
map_map_same f g [] h = refl
map_map_same f g (x ∷ xs) h = (let a = h x in let b = map_map_same f g xs h in cc)

-- lookups by number
pub slice_get_old : {A : Type 0} (xs ys : List A) (i : ℕ) (x : A) → slice_get xs i ≡ Some x
    → slice_get (xs ++ ys) i ≡ Some x
slice_get_old [] ys i x e = cc
slice_get_old (z ∷ zs) ys zero x e = e
slice_get_old (z ∷ zs) ys (suc i) x e = slice_get_old zs ys i x e

pub nth_old : {A : Type 0} (xs ys : List A) (n : ℕ) (x : A) → nth xs n ≡ Some x → nth (xs ++ ys) n ≡ Some x
nth_old xs ys zero x e = cc
nth_old xs ys (suc i) x e = slice_get_old xs ys i x e

pub slice_get_one : {A : Type 0} (xs : List A) (y : A) (i : ℕ) (x : A) → slice_get (xs ++ y ∷ []) i ≡ Some x
    → (slice_get xs i ≡ Some x) ⊎ ((x ≡ y) × (i ≡ length xs))
slice_get_one [] y zero x e = inr (cc, refl)
slice_get_one [] y (suc i) x e = cc
slice_get_one (z ∷ zs) y zero x e = inl e
slice_get_one (z ∷ zs) y (suc i) x e = elim (slice_get_one zs y i x e) [ inl g ↦ inl g | inr g ↦ inr (g.0, ap suc g.1) ]

pub nth_one : {A : Type 0} (xs : List A) (y : A) (n : ℕ) (x : A) → nth (xs ++ y ∷ []) n ≡ Some x
    → (nth xs n ≡ Some x) ⊎ ((x ≡ y) × (n ≡ suc (length xs)))
nth_one xs y zero x e = cc
nth_one xs y (suc i) x e = elim (slice_get_one xs y i x e) [ inl g ↦ inl g | inr g ↦ inr (g.0, ap suc g.1) ]

pub slice_get_within : {A : Type 0} (xs : List A) (i : ℕ) (x : A) → slice_get xs i ≡ Some x → i < length xs
slice_get_within [] i x e = cc
slice_get_within (z ∷ zs) zero x e = omega arith
slice_get_within (z ∷ zs) (suc i) x e = (let h = slice_get_within zs i x e in omega arith)

pub slice_get_there : {A : Type 0} (xs : List A) (i : ℕ) → i < length xs → (x : A) × (slice_get xs i ≡ Some x)
slice_get_there [] i h = absurd (omega arith)
slice_get_there (z ∷ zs) zero h = (z, refl)
slice_get_there (z ∷ zs) (suc i) h = slice_get_there zs i (omega arith)

-- lists of one length have the same numbers
pub nth_aligned : {A B : Type 0} (xs : List A) (ys : List B) (n : ℕ) (x : A) → length xs ≡ length ys
    → nth xs n ≡ Some x → (y : B) × (nth ys n ≡ Some y)
nth_aligned xs ys zero x e h = cc
nth_aligned xs ys (suc i) x e h = (let w = slice_get_within xs i x h in slice_get_there ys i (omega arith))

pub length_set : {A : Type 0} (xs : List A) (i : ℕ) (a : A) → length (slice_set xs i a) ≡ length xs
length_set [] i a = refl
length_set (x ∷ xs) zero a = refl
length_set (x ∷ xs) (suc i) a = ap suc (length_set xs i a)

pub length_set_nth : {A : Type 0} (xs : List A) (n : ℕ) (a : A) → length (set_nth xs n a) ≡ length xs
length_set_nth xs zero a = refl
length_set_nth xs (suc i) a = length_set xs i a

-- what stands at a number where one was set: the new one there, the old one elsewhere
pub slice_get_set : {A : Type 0} (xs : List A) (i j : ℕ) (a x : A) → slice_get (slice_set xs i a) j ≡ Some x
    → ((j ≡ i) × (x ≡ a)) ⊎ ((j ≢ i) × (slice_get xs j ≡ Some x))
slice_get_set [] i j a x e = cc
slice_get_set (z ∷ zs) zero zero a x e = inl (refl, cc)
slice_get_set (z ∷ zs) zero (suc j) a x e = inr ((λ h. absurd (omega arith)), e)
slice_get_set (z ∷ zs) (suc i) zero a x e = inr ((λ h. absurd (omega arith)), e)
slice_get_set (z ∷ zs) (suc i) (suc j) a x e =
    elim (slice_get_set zs i j a x e) [
      | inl g ↦ inl (ap suc g.0, g.1)
      | inr g ↦
          inr ((λ h. g.0 (omega arith)), g.1)
    ]

pub nth_set : {A : Type 0} (xs : List A) (n m : ℕ) (a x : A) → nth (set_nth xs n a) m ≡ Some x
    → ((m ≡ n) × (x ≡ a)) ⊎ (nth xs m ≡ Some x)
nth_set xs n zero a x e = cc
nth_set xs zero (suc j) a x e = inr e
nth_set xs (suc i) (suc j) a x e = elim (slice_get_set xs i j a x e) [ inl g ↦ inl (ap suc g.0, g.1) | inr g ↦ inr g.1 ]

pub nth_set_apart : {A : Type 0} (xs : List A) (n m : ℕ) (a x : A) → nth (set_nth xs n a) m ≡ Some x
    → ((m ≡ n) × (x ≡ a)) ⊎ ((m ≢ n) × (nth xs m ≡ Some x))
nth_set_apart xs n zero a x e = cc
nth_set_apart xs zero (suc j) a x e = inr ((λ h. absurd (omega arith)), e)
nth_set_apart xs (suc i) (suc j) a x e = elim (slice_get_set xs i j a x e) [
  | inl g ↦ inl (ap suc g.0, g.1)
  | inr g ↦
      inr ((λ h. g.0 (omega arith)), g.1)
]

pub nth_set_other : {A : Type 0} (xs : List A) (n m : ℕ) (a x : A) → m ≢ n → nth (set_nth xs n a) m ≡ Some x
    → nth xs m ≡ Some x
nth_set_other xs n m a x ne e = elim (nth_set xs n m a x e) [ inl g ↦ absurd (ne g.0) | inr g ↦ g ]

pub nth_bound : {A : Type 0} (xs : List A) (n : ℕ) (x : A) → nth xs n ≡ Some x → n ≤ length xs
nth_bound xs zero x e = cc
nth_bound xs (suc i) x e = (let h = slice_get_within xs i x e in omega arith)
