-- Blocks of a file that are zero.
use Rattle.std.proofs.Common.{◌≡◌, ◌<◌, ◌≤◌, ◌+◌, ◌-◌, ◌*◌, ◌⊎◌, inl, inr, ℕ, zero, suc, Bool, false, List, [], ◌∷◌}
use Rattle.std.proofs.Common.{◌++◌, length, length-drop, get_or, take, drop, min, replicate, refl, sym, ap, subst, ◌∙◌}
use Rattle.std.proofs.Common.{arith}
use Rattle.std.proofs.lemmas.Bool.{cases_lt}
use Rattle.std.proofs.lemmas.List.{drop_all, drop_min, get_or-replicate, length-replicate, take_all, take_min}
use Rattle.std.proofs.lemmas.List.Elements.{All-append, All-drop, All-nil, All-take}
use Rattle.cfb_bytes.specs.Bytes.{block}
use Rattle.write_zeros.specs.Zeroed.{AreZeros}

pub replicated_zeros : (n : ℕ) → AreZeros (replicate n 0)
replicated_zeros n = λ k d lt. get_or-replicate n k 0 d (omega (arith, lt, length-replicate {A = ℕ} n 0))

-- what is zero behind a place in a list is zero behind it with zeros at the end
behind_with : (k : ℕ) (xs ys : List ℕ) → AreZeros (drop k xs) → AreZeros ys → AreZeros (drop k (xs ++ ys))
behind_with zero xs ys h g = All-append (λ b. b ≡ 0) xs ys h g
behind_with (suc k) [] ys h g = All-drop (λ b. b ≡ 0) (suc k) ys g
behind_with (suc k) (x ∷ xs) ys h g = behind_with k xs ys h g

-- a block's bytes behind some are zero where those of it are that the file has
pub zero_behind : (w at from m k j : ℕ) (bytes rest piece tail : List ℕ) → m ≡ min at (length bytes)
    → rest ≡ take (length bytes - m) (drop m bytes)
    → k ≡ min w (length rest) → piece ≡ take k rest → j ≡ min from (length piece)
    → tail ≡ take (length piece - j) (drop j piece)
    → AreZeros tail → AreZeros (drop from (block w bytes at))
unfolding block
zero_behind w at from m k j bytes rest piece tail em er ek ep ej et h =
    let a : rest ≡ drop at bytes =
    er ∙ take_all (length bytes - m) (drop m bytes) (omega (arith, length-drop m bytes)) ∙ ap (λ m. drop m bytes) em
    ∙ drop_min at bytes in
    let b : piece ≡ take w (drop at bytes) = ep ∙ ap (λ k. take k rest) ek ∙ take_min w rest ∙ ap (take w) a in
    let e : tail ≡ drop from piece =
    et ∙ take_all (length piece - j) (drop j piece) (omega (arith, length-drop j piece)) ∙ ap (λ j. drop j piece) ej
    ∙ drop_min from piece in
    let z : AreZeros (drop from (take w (drop at bytes))) = subst AreZeros (e ∙ ap (drop from) b) h in
    behind_with from (take w (drop at bytes)) (replicate (w - length (drop at bytes)) 0) z
    (replicated_zeros (w - length (drop at bytes)))

-- a block past the end is zero
pub zero_past : (w at : ℕ) (bytes : List ℕ) → length bytes ≤ at → AreZeros (block w bytes at)
unfolding block
zero_past w at bytes le =
    let P : ℕ → Type 0 = λ b. b ≡ 0 in
    let z : AreZeros (take w [] ++ replicate (w - 0) 0) = All-append P (take w []) (replicate (w - 0) 0)
    (All-take P w [] (All-nil P)) (replicated_zeros (w - 0)) in
    subst (λ (r : List ℕ). AreZeros (take w r ++ replicate (w - length r) 0)) (sym (drop_all at bytes le)) z

-- ---- blocks one after another
-- those before a place that aren't marked are zero
abbrev pub AreZeroUpTo : ℕ → ℕ → ℕ → List ℕ → List Bool → Type 0
AreZeroUpTo n start width bytes marks = (k : ℕ) → k < n → get_or marks k false ≡ false
    → AreZeros (block width bytes (start + width * k))

pub zero_more : (n at start width : ℕ) (bytes : List ℕ) (marks : List Bool) → at ≡ start + width * n
    → (get_or marks n false ≡ false → AreZeros (block width bytes at)) → AreZeroUpTo n start width bytes marks
    → AreZeroUpTo (n + 1) start width bytes marks
zero_more n at start width bytes marks e one h = λ k lt un.
    elim (cases_lt k n) [
      | inl l ↦ h k l un
      | inr ge ↦
          let same : n ≡ k = omega (arith, lt, ge) in
          let P : ℕ → Type 0 = λ m. get_or marks m false ≡ false → AreZeros (block width bytes (start + width * m)) in
          subst P same (λ u. subst (λ x. AreZeros (block width bytes x)) e (one u)) un
    ]

pub at_more : (n at next start width : ℕ) → at ≡ start + width * n → next ≡ at + width → next ≡ start + width * (n + 1)
at_more n at next start width e h = h ∙ ap (λ x. x + width) e ∙ omega arith

far : (n k at len start width : ℕ) → at ≡ start + width * n → len ≤ at → n ≤ k → len ≤ start + width * k
far n k at len start width e le ge =
    let m : ℕ = k - n in
    let split : k ≡ n + m = omega arith in
    let product : width * k ≡ width * n + width * m = ap (λ x. width * x) split ∙ omega arith in
    omega (arith, product, e, le)

pub zero_all : (n at start width : ℕ) (bytes : List ℕ) (marks : List Bool) → at ≡ start + width * n → length bytes ≤ at
    → AreZeroUpTo n start width bytes marks → (k : ℕ) → get_or marks k false ≡ false
    → AreZeros (block width bytes (start + width * k))
zero_all n at start width bytes marks e le h k un =
    elim (cases_lt k n) [
      | inl lt ↦ h k lt un
      | inr ge ↦ zero_past width (start + width * k) bytes (far n k at (length bytes) start width e le ge)
    ]
