-- Activations and instances by their numbers, after one of them changed.
use Rattle.std.proofs.Common.{◌≡◌, ◌≢◌, ◌==◌, ℕ, zero, suc, true, false, List, [], ◌∷◌, ◌++◌, Some, None, refl, sym, ap}
use Rattle.std.proofs.Common.{◌∙◌, inl, inr, nat_eq, slice_get, slice_set, if◌then◌else◌, eq-eqb}
use Rattle.std.proofs.lemmas.Bool.{eqb-true, ne_eqb}
use Rattle.std.proofs.lemmas.Bool.Decides.{eqb_tells}
use Rattle.message_values.specs.Found.{find, put, nth, set_nth}
use Rattle.server_model.specs.Server.{Activation, is_act}
use Rattle.world_model.specs.World.{Instance}

-- activations by number, where one was put in its place or added
pub find_act_put : (xs : List Activation) (act x : ℕ) (a b : Activation) → find (is_act act) xs ≡ Some a
    → b.act ≡ act → find (is_act x) (put (is_act act) b xs) ≡ (if act == x then Some b else find (is_act x) xs)
find_act_put [] act x a b e eb = cc
find_act_put (z ∷ zs) act x a b e eb =
    elim (nat_eq z.act act) as (λ t. nat_eq z.act act ≡ t → (if t then Some z else find (is_act act) zs) ≡ Some a
    → find (is_act x) (if t then b ∷ zs else z ∷ put (is_act act) b zs)
    ≡ (if act == x then Some b else find (is_act x) (z ∷ zs))) [
      | true ↦ (λ t g. let za : z.act ≡ act = eqb-true z.act act t in elim (eqb_tells act x) [
        | inl s ↦ rw (s.0, eq-eqb b.act x (eb ∙ s.1)) refl
        | inr s ↦ rw (s.0, ne_eqb b.act x (λ q. s.1 (sym eb ∙ q)), ne_eqb z.act x (λ q. s.1 (sym za ∙ q))) refl
      ])
      | false ↦ (λ t g. elim (eqb_tells z.act x) [
        | inl s ↦
            rw (
              s.0,
              ne_eqb act x (λ q. absurd (let n : nat_eq z.act act ≡ true = eq-eqb z.act act (s.1 ∙ sym q) in
                  let w : true ≡ false = sym n ∙ t in cc)),
            ) refl
        | inr s ↦ rw s.0 (find_act_put zs act x a b g eb)
      ])
    ] refl e

pub find_act_more : (xs : List Activation) (act x : ℕ) (b : Activation) → find (is_act act) xs ≡ None → b.act ≡ act
    → find (is_act x) (xs ++ b ∷ []) ≡ (if act == x then Some b else find (is_act x) xs)
find_act_more [] act x b e eb = elim (eqb_tells act x) [
  | inl s ↦ rw (s.0, eq-eqb b.act x (eb ∙ s.1)) refl
  | inr s ↦ rw (s.0, ne_eqb b.act x (λ q. s.1 (sym eb ∙ q))) refl
]
find_act_more (z ∷ zs) act x b e eb =
    elim (nat_eq z.act act) as (λ t. nat_eq z.act act ≡ t → (if t then Some z else find (is_act act) zs) ≡ None
    → find (is_act x) (z ∷ (zs ++ b ∷ [])) ≡ (if act == x then Some b else find (is_act x) (z ∷ zs))) [
      | true ↦ (λ t g. cc)
      | false ↦ (λ t g. elim (eqb_tells z.act x) [
        | inl s ↦
            rw (
              s.0,
              ne_eqb act x (λ q. absurd (let n : nat_eq z.act act ≡ true = eq-eqb z.act act (s.1 ∙ sym q) in
                  let w : true ≡ false = sym n ∙ t in cc)),
            ) refl
        | inr s ↦ rw s.0 (find_act_more zs act x b g eb)
      ])
    ] refl e

-- instances by number
pub nth_same : (is : List Instance) (inc : ℕ) (i j : Instance) → nth is inc ≡ Some i
    → nth (set_nth is inc j) inc ≡ Some j
nth_same is zero i j e = cc
nth_same is (suc k) i j e = at is k i e
  where
    at : (xs : List Instance) (k : ℕ) (i : Instance) → slice_get xs k ≡ Some i → slice_get (slice_set xs k j) k ≡ Some j
    at [] k i e = cc
    at (x ∷ xs) zero i e = refl
    at (x ∷ xs) (suc k) i e = at xs k i e

pub nth_other : (is : List Instance) (inc k : ℕ) (j : Instance) → k ≢ inc → nth (set_nth is inc j) k ≡ nth is k
nth_other is zero k j ne = refl
nth_other is (suc m) zero j ne = refl
nth_other is (suc m) (suc k) j ne = at is m k (λ q. ne (ap suc q))
  where
    at : (xs : List Instance) (m k : ℕ) → k ≢ m → slice_get (slice_set xs m j) k ≡ slice_get xs k
    at [] m k ne = refl
    at (x ∷ xs) zero zero ne = absurd (ne refl)
    at (x ∷ xs) zero (suc k) ne = refl
    at (x ∷ xs) (suc m) zero ne = refl
    at (x ∷ xs) (suc m) (suc k) ne = at xs m k (λ q. ne (ap suc q))
