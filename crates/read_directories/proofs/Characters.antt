-- The table of the characters that a name can hold.
use Rattle.std.proofs.Common.{◌≡◌, ◌≢◌, ◌≤◌, ◌++◌, ℕ, List, ◌∷◌, Bool, true, false, cond, eqb-true, nat_eq}
use Rattle.std.proofs.Common.{slice_index_or, refl, ap, sym, ◌∙◌, arith}
use Rattle.std.specs.List.{range_with_len}
use Rattle.cfb_names.specs.Names.{is_forbidden}
use Rattle.read_packed.proofs.Allowed.{every-is}

abbrev table : List ℕ
table =
    0 ∷ (range_with_len 1 32 ++ (0 ∷ range_with_len 34 13) ++ (0 ∷ range_with_len 48 10)
    ++ (0 ∷ range_with_len 59 33) ++ (0 ∷ range_with_len 93 35))

-- what the table has for a character
abbrev kept : ℕ → ℕ
kept c = slice_index_or table c 0

abbrev fits : ℕ → Bool
fits c = cond (is_forbidden c) (nat_eq (kept c) 0) (nat_eq (kept c) c)

-- a character that the table has is allowed, and one that it hasn't is forbidden
pub told : (c n : ℕ) → c ≤ 127 → n ≡ c → cond (is_forbidden c) (nat_eq (slice_index_or table n 0) 0)
    (nat_eq (slice_index_or table n 0) c) ≡ true
told c n l at = ap (λ (k : ℕ). cond (is_forbidden c) (nat_eq (slice_index_or table k 0) 0)
    (nat_eq (slice_index_or table k 0) c)) at ∙ every-is fits 128 c refl (omega (arith, l))

pub allowed : (c k : ℕ) → cond (is_forbidden c) (nat_eq k 0) (nat_eq k c) ≡ true → k ≢ 0
    → (k ≡ c) × (is_forbidden c ≡ false)
allowed c k h some = elim (is_forbidden c) as (λ b. is_forbidden c ≡ b → cond b (nat_eq k 0) (nat_eq k c) ≡ true
    → (k ≡ c) × (is_forbidden c ≡ false)) [
      | true ↦ λ q g. absurd (some (eqb-true k 0 g))
      | false ↦ λ q g. (eqb-true k c g, q)
    ] refl h

pub forbidden : (c k : ℕ) → cond (is_forbidden c) (nat_eq k 0) (nat_eq k c) ≡ true → k ≡ 0 → is_forbidden c ≡ true
forbidden c k h none = elim (is_forbidden c) as (λ b. is_forbidden c ≡ b → cond b (nat_eq k 0) (nat_eq k c) ≡ true
    → is_forbidden c ≡ true) [
      | true ↦ λ q g. q
      | false ↦ λ q g. ap is_forbidden (sym (eqb-true k c g) ∙ none)
    ] refl h
