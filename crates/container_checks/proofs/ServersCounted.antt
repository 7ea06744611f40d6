use Rattle.std.proofs.Common.{◌≡◌, ℕ, ◌+◌, ◌≤◌, Bool, List, zero, suc, [], ◌∷◌, ◌++◌, length, refl, ap, true, false}
use Rattle.std.proofs.Common.{arith, slice_get, slice_set, sym, ◌∙◌}
use Rattle.message_values.specs.Found.{nth}
use Rattle.container_model.specs.Numbered.{IsNth}
use Rattle.container_model.specs.Record.{count_alive, is_unreaped}

-- no more are alive than were started
pub alive_few : (xs : List Bool) → count_alive xs ≤ length xs
alive_few [] = omega arith
alive_few (true ∷ xs) = let e : count_alive xs ≤ length xs = alive_few xs in omega arith
alive_few (false ∷ xs) = let e : count_alive xs ≤ length xs = alive_few xs in omega arith

-- a start adds one
pub alive_more : (xs : List Bool) → count_alive (xs ++ false ∷ []) ≡ count_alive xs + 1
alive_more [] = refl
alive_more (true ∷ xs) = alive_more xs
alive_more (false ∷ xs) = let e : count_alive (xs ++ false ∷ []) ≡ count_alive xs + 1 = alive_more xs in omega arith

-- a server that is reaped is one less
pub alive_reaped : (xs : List Bool) (i : ℕ) → is_unreaped (slice_get xs i) ≡ true
    → count_alive (slice_set xs i true) + 1 ≡ count_alive xs
alive_reaped [] i e = absurd (grind arith)
alive_reaped (true ∷ xs) zero e = absurd (grind arith)
alive_reaped (false ∷ xs) zero e = omega arith
alive_reaped (true ∷ xs) (suc i) e = alive_reaped xs i e
alive_reaped (false ∷ xs) (suc i) e = let h : count_alive (slice_set xs i true) + 1 ≡ count_alive xs =
    alive_reaped xs i e in omega arith

pub alive_at_least : (xs : List Bool) (i : ℕ) → is_unreaped (slice_get xs i) ≡ true → 1 ≤ count_alive xs
alive_at_least xs i e = let h : count_alive (slice_set xs i true) + 1 ≡ count_alive xs = alive_reaped xs i e in
    omega arith

pub unreaped_at : (xs ys zs : List Bool) (n i : ℕ) → IsNth n ys i → ys ≡ xs → xs ≡ zs
    → is_unreaped (nth zs n) ≡ true → is_unreaped (slice_get xs i) ≡ true
unreaped_at xs ys zs n i p y z e =
    ap is_unreaped (ap (λ v. slice_get v i) (sym y) ∙ (sym p.found ∙ ap (λ v. nth v n) (y ∙ z))) ∙ e
