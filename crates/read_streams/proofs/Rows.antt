-- Mini sectors that follow one another.
use Rattle.std.proofs.Common.{◌≡◌, ◌<◌, ◌≤◌, ◌+◌, ◌-◌, ◌∙◌, ℕ, zero, suc, ◌∷◌, refl, sym, ap, arith}
use Rattle.std.specs.List.{range_with_len}
use Rattle.read_streams.specs.Chains.{walked}

-- one more in the row
pub row_more : (f : ℕ → ℕ) (at next left : ℕ) → 1 < left → next ≡ f at → next ≡ at + 1
    → walked f next (left - 1) ≡ range_with_len next (left - 1) → walked f at left ≡ range_with_len at left
row_more f at next zero more is row h = absurd (omega (arith, more))
row_more f at next (suc left) more is row h =
    let e : suc left - 1 ≡ left = omega arith in
    let rest : walked f next left ≡ range_with_len next left = ap (walked f next) (sym e) ∙ h
    ∙ ap (range_with_len next) e in
    ap (λ n. at ∷ walked f n left) (sym is) ∙ ap (λ ns. at ∷ ns) rest ∙ ap (λ n. at ∷ range_with_len n left) row

-- at most one mini sector is a row
pub row_end : (f : ℕ → ℕ) (at left : ℕ) → left ≤ 1 → walked f at left ≡ range_with_len at left
row_end f at zero h = refl
row_end f at (suc zero) h = refl
row_end f at (suc (suc left)) h = absurd (omega (arith, h))
