-- Ranges of numbers.
use Rattle.std.proofs.Common.{◌≡◌, ℕ, zero, suc, ◌+◌, [], ◌∷◌, ◌++◌, ap, add-one, arith}
use Rattle.std.specs.List.{range_with_len}

range_suc : (a b n : ℕ) → b ≡ a + n → range_with_len a (suc n) ≡ range_with_len a n ++ b ∷ []
range_suc a b zero e = (let f : a ≡ b = omega arith in ap (λ m. m ∷ []) f)
range_suc a b (suc n) e = ap (λ xs. a ∷ xs) (range_suc (a + 1) b n (omega arith))

-- one more number of a range
pub range_more : (a b n : ℕ) → b ≡ a + n → range_with_len a (n + 1) ≡ range_with_len a n ++ b ∷ []
range_more a b n e = rw add-one (range_suc a b n e)
