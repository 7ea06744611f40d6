-- The bytes of sectors, as slices of the code give them.
use Rattle.std.proofs.Common.{◌⊎◌, inl, inr, ◌≡◌, ◌≤◌, ◌+◌, ◌-◌, ◌*◌, ℕ, List, [], ◌∷◌, ◌++◌, length, take, drop}
use Rattle.std.proofs.Common.{replicate, refl, arith, append_assoc, min, length-append, length-drop, ap, ◌∙◌}
use Rattle.std.proofs.lemmas.List.{drop_all, drop_min, length-replicate, length-take, take_all, take_min}
use Rattle.cfb_header.specs.Bytes.{block, joined, u32_at}

-- a sector is added: what there is of its bytes, and zeros
pub block_pushed : (w at m k n : ℕ) (out mid new bytes : List ℕ) → n ≡ length out → m ≡ min at (length bytes)
    → k ≡ min w (length (take (length bytes - m) (drop m bytes)))
    → mid ≡ out ++ take k (take (length bytes - m) (drop m bytes))
    → new ≡ take (n + w) mid ++ replicate (n + w - length mid) 0
    → new ≡ out ++ block w bytes at
unfolding block
block_pushed w at m k n out mid new bytes en em ek emid enew =
    let rest : List ℕ = drop at bytes in
    let a : drop m bytes ≡ rest = ap (λ m. drop m bytes) em ∙ drop_min at bytes in
    let b : take (length bytes - m) (drop m bytes) ≡ rest =
    take_all (length bytes - m) (drop m bytes) (omega (arith, length-drop m bytes)) ∙ a in
    let d : mid ≡ out ++ take w rest =
    emid ∙ (λ i. out ++ take (ek i) (b i)) ∙ ap (λ l. out ++ take (min w (length l)) rest) b
    ∙ ap (λ l. out ++ l) (take_min w rest) in
    let len : length mid ≡ length out + min w (length rest) = ap (λ l. length l) d ∙ length-append out (take w rest)
    ∙ ap (λ l. length out + l) (length-take w rest) in
    let fill : n + w - length mid ≡ w - length rest = omega (arith, en, len) in
    let all : take (n + w) mid ≡ out ++ take w rest = take_all (n + w) mid (omega (arith, en, len)) ∙ d in
    enew ∙ (λ i. all i ++ replicate (fill i) 0) ∙ append_assoc out (take w rest) (replicate (w - length rest) 0)

-- a sector has its width
pub length_block : (w : ℕ) (bytes : List ℕ) (at : ℕ) → length (block w bytes at) ≡ w
unfolding block
length_block w bytes at =
    let rest : List ℕ = drop at bytes in
    length-append (take w rest) (replicate (w - length rest) 0)
    ∙ (λ i. length-take w rest i + length-replicate {A = ℕ} (w - length rest) 0 i)
    ∙ omega arith

pub length_joined : (piece : ℕ → List ℕ) (w : ℕ) (ns : List ℕ) → ((n : ℕ) → length (piece n) ≡ w)
    → length (joined piece ns) ≡ w * length ns
length_joined piece w [] wide = omega arith
length_joined piece w (n ∷ ns) wide =
    length-append (piece n) (joined piece ns) ∙ (λ i. wide n i + length_joined piece w ns wide i) ∙ omega arith

-- no number stands past the end
pub u32_at_past : (bytes : List ℕ) (at : ℕ) → length bytes ≤ at → u32_at bytes at ≡ 0
unfolding u32_at
u32_at_past bytes at h = rw (drop_all at bytes h) refl

-- sectors hold whole numbers
pub whole_numbers : (w n l : ℕ) → (w ≡ 512) ⊎ (w ≡ 64) → l ≡ w * n → (m : ℕ) × (l ≡ 4 * m)
whole_numbers w n l (inl e) h = (128 * n, h ∙ ap (λ w. w * n) e ∙ omega arith)
whole_numbers w n l (inr e) h = (16 * n, h ∙ ap (λ w. w * n) e ∙ omega arith)
