-- A run that is sought by its session.
use Rattle.std.proofs.Common.{◌≡◌, ◌==◌, ◌+◌, ◌<◌, ◌≤◌, ℕ, true, false, List, map, length, get_or, None, ap, sym, ◌∙◌}
use Rattle.std.proofs.Common.{inl, inr}
use Rattle.std.proofs.lemmas.Bool.Decides.{eqb_tells}
use Rattle.std.proofs.lemmas.List.{get_or-map, length-map}
use Rattle.message_values.specs.Found.{IsPlace, find}
use Rattle.container_checks.proofs.LookupPlaces.{past_all, past_here, past_more}
use Rattle.container_model.specs.Numbered.{IsPast}
use Rattle.world_model.specs.Story.{Epoch, is_session}

same : (a b : ℕ) → a ≡ b → (a == b) ≡ true
same a b e = elim (eqb_tells a b) [ inl t ↦ t.0 | inr t ↦ absurd (t.1 e) ]

apart : (a b : ℕ) → (a ≡ b → ⊥) → (a == b) ≡ false
apart a b ne = elim (eqb_tells a b) [ inl t ↦ absurd (ne t.1) | inr t ↦ t.0 ]

module _ {A : Type 0} (see : A → Epoch) (n : ℕ) (xs : List A) (i : ℕ) where
  stands : (x : A) → i < length xs → x ≡ get_or xs i x → see x ≡ get_or (map see xs) i (see x)
  stands x lt e = ap see e ∙ sym (get_or-map see xs i x (see x) lt)

  pub sought_more : (x : A) → IsPast (is_session n) (map see xs) i → i < length xs → x ≡ get_or xs i x
      → ((see x).session ≡ n → ⊥) → IsPast (is_session n) (map see xs) (i + 1)
  sought_more x p lt e t = past_more (is_session n) (map see xs) i (see x) p (rw (length-map xs see) lt)
      (stands x lt e) (apart (see x).session n t)

  pub sought_here : (x : A) → IsPast (is_session n) (map see xs) i → i < length xs → x ≡ get_or xs i x
      → (see x).session ≡ n → IsPlace (is_session n) (map see xs) i
  sought_here x p lt e t = past_here (is_session n) (map see xs) i (see x) p (rw (length-map xs see) lt)
      (stands x lt e) (same (see x).session n t)

  pub sought_all : IsPast (is_session n) (map see xs) i → length xs ≤ i → find (is_session n) (map see xs) ≡ None
  sought_all p h = past_all (is_session n) (map see xs) i p (rw (length-map xs see) h)
