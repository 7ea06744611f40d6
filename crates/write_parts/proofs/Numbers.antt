-- Numbers that are put into bytes, a few at once.
use Rattle.std.proofs.Common.{◌≡◌, ◌≤◌, ◌<◌, ◌+◌, ◌-◌, ◌*◌, ◌∙◌, ℕ, zero, suc, List, [], ◌∷◌, ◌++◌, ap, append_assoc}
use Rattle.std.proofs.Common.{arith, drop, get_or, length, refl, replicate, slice_range, sym, take}
use Rattle.std.proofs.Math.Seq.{drop-append-add, take-append_seam}
use Rattle.std.proofs.lemmas.Grind.{flat_map-append}
use Rattle.std.proofs.lemmas.List.{length-take-le, take_all, take_more}
use Rattle.std.proofs.lemmas.List.Folds.{drop_split}
use Rattle.std.specs.Int.{to_le_bytes, w32}
use Rattle.std.specs.Prelude.{slice_set}
use Rattle.cfb_layout.proofs.Tables.{length-numbers_bytes, numbers_bytes}
use native.Mathlib.Numerals.{unary_clauses}

four_at : (bytes : List ℕ) (at a b c d : ℕ) → at + 4 ≤ length bytes
    → slice_set (slice_set (slice_set (slice_set bytes at a) (suc at) b) (suc (suc at)) c) (suc (suc (suc at))) d
    ≡ take at bytes ++ (a ∷ b ∷ c ∷ d ∷ []) ++ drop (suc (suc (suc (suc at)))) bytes
four_at (x ∷ y ∷ z ∷ w ∷ bytes) zero a b c d room = refl
four_at [] zero a b c d room = absurd (omega (arith, room))
four_at (x ∷ []) zero a b c d room = absurd (omega (arith, room))
four_at (x ∷ y ∷ []) zero a b c d room = absurd (omega (arith, room))
four_at (x ∷ y ∷ z ∷ []) zero a b c d room = absurd (omega (arith, room))
four_at [] (suc at) a b c d room = absurd (omega (arith, room))
four_at (x ∷ bytes) (suc at) a b c d room = ap (λ zs. x ∷ zs) (four_at bytes at a b c d (omega (arith, room)))

-- four bytes, one by one
pub four_set : (bytes : List ℕ) (at a b c d : ℕ) → at + 4 ≤ length bytes
    → slice_set (slice_set (slice_set (slice_set bytes at a) (at + 1) b) (at + 2) c) (at + 3) d
    ≡ take at bytes ++ (a ∷ b ∷ c ∷ d ∷ []) ++ drop (at + 4) bytes
four_set bytes at a b c d room = simp unary_clauses (four_at bytes at a b c d room)

-- numbers before zeros
abbrev pub before_zeros : List ℕ → ℕ → List ℕ
before_zeros numbers k = numbers_bytes (take k numbers) ++ replicate (256 - 4 * k) 0

-- one more number before zeros
pub number_more : (numbers : List ℕ) (k : ℕ) → k < length numbers → length numbers ≤ 64
    → take (4 * k) (before_zeros numbers k) ++ to_le_bytes w32 (get_or numbers k 0)
    ++ drop (4 * k + 4) (before_zeros numbers k) ≡ before_zeros numbers (k + 1)
number_more numbers k some few =
    let xs : List ℕ = numbers_bytes (take k numbers) in
    let number : List ℕ = to_le_bytes w32 (get_or numbers k 0) in
    let m : ℕ = 256 - 4 * (k + 1) in
    let long : 4 * k ≡ length xs =
    omega (arith, length-numbers_bytes (take k numbers), length-take-le k numbers (omega (arith, some))) in
    let room : 256 - 4 * k ≡ suc (suc (suc (suc m))) = omega (arith, some, few) in
    let more : numbers_bytes (take (k + 1) numbers) ≡ xs ++ number =
    ap numbers_bytes (take_more numbers k 0 some) ∙ flat_map-append (to_le_bytes w32) (take k numbers)
    (get_or numbers k 0 ∷ []) in
    (λ t. take (long t) (xs ++ replicate (room t) 0) ++ number ++ drop (long t + 4) (xs ++ replicate (room t) 0))
    ∙ (λ t. take-append_seam xs (replicate (suc (suc (suc (suc m)))) 0) t ++ number
    ++ drop-append-add xs (replicate (suc (suc (suc (suc m)))) 0) 4 t)
    ∙ ap (λ zs. zs ++ replicate m 0) (sym more)

-- all numbers before zeros
pub numbers_cut : (numbers bytes : List ℕ) (k : ℕ) → length numbers ≤ k → bytes ≡ before_zeros numbers k
    → take (4 * length numbers) bytes ≡ numbers_bytes numbers
numbers_cut numbers bytes k all is =
    let xs : List ℕ = numbers_bytes numbers in
    (λ t. take (sym (length-numbers_bytes numbers) t) (is t))
    ∙ (λ t. take (length xs) (numbers_bytes (take_all k numbers all t) ++ replicate (256 - 4 * k) 0))
    ∙ take-append_seam xs (replicate (256 - 4 * k) 0)

-- a piece of the numbers more is sent
pub piece_more : (numbers : List ℕ) (at end : ℕ) (sent more whole : List ℕ) → at ≤ end
    → more ≡ numbers_bytes (slice_range numbers at end)
    → sent ++ numbers_bytes (drop at numbers) ≡ whole → (sent ++ more) ++ numbers_bytes (drop end numbers) ≡ whole
piece_more numbers at end sent more whole order is h =
    append_assoc sent more (numbers_bytes (drop end numbers))
    ∙ (λ t. sent ++ (is t ++ numbers_bytes (drop end numbers)))
    ∙ ap (λ zs. sent ++ zs) (sym (flat_map-append (to_le_bytes w32) (slice_range numbers at end) (drop end numbers)))
    ∙ ap (λ ns. sent ++ numbers_bytes ns) (sym (drop_split numbers at end order)) ∙ h
