-- Some of many zero bytes.
use Rattle.std.proofs.Common.{◌≡◌, ◌<◌, ◌≤◌, ℕ, zero, suc, ◌∷◌, ap, arith, refl, replicate, take}

zeros_cut : (k n : ℕ) → k ≤ n → take {A = ℕ} k (replicate n 0) ≡ replicate k 0
zeros_cut zero n h = refl
zeros_cut (suc k) zero h = absurd (omega (arith, h))
zeros_cut (suc k) (suc n) h = ap (λ zs. 0 ∷ zs) (zeros_cut k n (omega (arith, h)))

pub zeros_front : (k : ℕ) → k < 512 → take {A = ℕ} k (replicate 512 0) ≡ replicate k 0
zeros_front k h = zeros_cut k 512 (omega (arith, h))

pub zeros_few : (k : ℕ) → k < 64 → take {A = ℕ} k (replicate 64 0) ≡ replicate k 0
zeros_few k h = zeros_cut k 64 (omega (arith, h))
