-- A number of four bytes that is written byte by byte.
use Rattle.std.proofs.Common.{◌≡◌, ◌≤◌, ◌+◌, ℕ, zero, suc, List, [], ◌∷◌, ◌++◌, ap, arith, drop, length, refl, take}
use Rattle.std.specs.Prelude.{slice_set}
use native.Mathlib.Numerals.{unary_clauses}

four_at : (bytes : List ℕ) (at a b c d : ℕ) → at + 4 ≤ length bytes
    → slice_set (slice_set (slice_set (slice_set bytes at a) (suc at) b) (suc (suc at)) c) (suc (suc (suc at))) d
    ≡ take at bytes ++ (a ∷ b ∷ c ∷ d ∷ []) ++ drop (suc (suc (suc (suc at)))) bytes
four_at (x ∷ y ∷ z ∷ w ∷ bytes) zero a b c d room = refl
four_at [] zero a b c d room = absurd (omega (arith, room))
four_at (x ∷ []) zero a b c d room = absurd (omega (arith, room))
four_at (x ∷ y ∷ []) zero a b c d room = absurd (omega (arith, room))
four_at (x ∷ y ∷ z ∷ []) zero a b c d room = absurd (omega (arith, room))
four_at [] (suc at) a b c d room = absurd (omega (arith, room))
four_at (x ∷ bytes) (suc at) a b c d room = ap (λ zs. x ∷ zs) (four_at bytes at a b c d (omega (arith, room)))

pub four_set : (bytes : List ℕ) (at a b c d : ℕ) → at + 4 ≤ length bytes
    → slice_set (slice_set (slice_set (slice_set bytes at a) (at + 1) b) (at + 2) c) (at + 3) d
    ≡ take at bytes ++ (a ∷ b ∷ c ∷ d ∷ []) ++ drop (at + 4) bytes
four_set bytes at a b c d room = simp unary_clauses (four_at bytes at a b c d room)
