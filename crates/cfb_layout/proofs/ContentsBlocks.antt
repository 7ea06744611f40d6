-- Bytes in blocks of one width.
use Rattle.std.proofs.Common.{◌≡◌, ◌<◌, ◌≤◌, ◌+◌, ◌-◌, ◌*◌, ℕ, zero, suc, List, [], ◌∷◌, ◌++◌, length, take, drop}
use Rattle.std.proofs.Common.{get_or, replicate, refl, sym, ◌∙◌, ap, arith, append-nil, drop-drop, length-append}
use Rattle.std.proofs.Common.{length-drop}
use Rattle.std.proofs.lemmas.List.{drop-append-le, take-append-le, take_at, take-append-drop}
use Rattle.std.proofs.lemmas.List.FromFn.{length-range_with_len, get_or-range_with_len}
use Rattle.std.specs.List.{flat_map, range_with_len, All}
use Rattle.cfb_header.specs.Bytes.{block}
use Rattle.cfb_chains.specs.Chain.{Store, IsPresent}
use Rattle.cfb_file.specs.Need.{pieces}
use Rattle.cfb_layout.specs.Image.{padded}

-- a block is read behind what is dropped
pub block-drop : (w n m : ℕ) (xs : List ℕ) → block w xs (n + m) ≡ block w (drop n xs) m
unfolding block
block-drop w n m xs = rw (drop-drop m n xs) refl

-- a whole block
pub block-take : (w : ℕ) (xs : List ℕ) → w ≤ length xs → block w xs 0 ≡ take w xs
unfolding block
block-take w xs h =
    let z : w - length xs ≡ 0 = omega arith in
    rw z (append-nil (take w xs))

-- a block that lies in the front of bytes
pub block-append : (w : ℕ) (xs ys : List ℕ) (n : ℕ) → n + w ≤ length xs → block w (xs ++ ys) n ≡ block w xs n
unfolding block
block-append w xs ys n h =
    let a : n ≤ length xs = omega arith in
    let b : w ≤ length (drop n xs) = omega (arith, length-drop n xs) in
    let z : w - length (drop n xs) ≡ 0 = omega arith in
    let c : w - length (drop n xs ++ ys) ≡ 0 = omega (arith, length-append (drop n xs) ys) in
    rw (drop-append-le n xs ys a, take-append-le w (drop n xs) ys b, z, c) refl

-- blocks in a row, joined
pub joined_blocks : (w : ℕ) (f : ℕ → List ℕ) (bytes : List ℕ) (at n : ℕ) → length bytes ≡ w * n
    → ((k : ℕ) → k < n → f (at + k) ≡ block w bytes (w * k)) → flat_map f (range_with_len at n) ≡ bytes
joined_blocks w f [] at zero h each = refl
joined_blocks w f (x ∷ bytes) at zero h each = absurd (let z : w * 0 ≡ 0 = omega arith in omega arith)
joined_blocks w f bytes at (suc n) h each =
    let m : w * suc n ≡ w + w * n = omega arith in
    let z : w * 0 ≡ 0 = omega arith in
    let a : at + 0 ≡ at = omega arith in
    let first : f at ≡ take w bytes = sym (ap f a) ∙ each 0 (omega arith) ∙ ap (block w bytes) z
    ∙ block-take w bytes (omega arith) in
    let rest : flat_map f (range_with_len (at + 1) n) ≡ drop w bytes =
    joined_blocks w f (drop w bytes) (at + 1) n (omega (arith, length-drop w bytes))
    (λ k l. let b : at + 1 + k ≡ at + suc k = omega arith in
    let c : w * suc k ≡ w + w * k = omega arith in
    ap f b ∙ each (suc k) (omega arith) ∙ ap (block w bytes) c ∙ block-drop w w (w * k) bytes) in
    (λ t. first t ++ rest t) ∙ take-append-drop w bytes

-- what was padded, cut to its length
pub take-padded : (w : ℕ) (bytes : List ℕ) → take (length bytes) (padded w bytes) ≡ bytes
take-padded w bytes = take_at bytes (replicate (w * pieces w (length bytes) - length bytes) 0) (length bytes) refl

-- a range of regular numbers that are there
pub present_range : (s : Store) (at n : ℕ) → at + n ≤ s.count → at + n ≤ 0xFFFFFFFA
    → All (IsPresent s) (range_with_len at n)
present_range s at n h few k d l =
    let lt : k < n = omega (arith, length-range_with_len at n) in
    let e : get_or (range_with_len at n) k d ≡ at + k = get_or-range_with_len at n k d lt in
    (omega arith, omega arith)
