-- Blocks of a file, zero bytes standing for what is past its end.
use Rattle.std.proofs.Common.{◌≡◌, ◌<◌, ◌≤◌, ◌+◌, ◌-◌, ◌*◌, ◌∙◌, ℕ, zero, suc, List, [], ◌∷◌, ◌++◌, length, take, drop}
use Rattle.std.proofs.Common.{replicate, get_or, min, refl, sym, ap, arith, length-append, length-drop}
use Rattle.std.proofs.lemmas.List.{append-nil, drop-drop, drop_all, drop-append-le, take-append-le, take_all, take_min}
use Rattle.std.proofs.Math.Seq.{drop-append-add}
use Rattle.cfb_bytes.specs.Bytes.{block}
use Rattle.cfb_header.specs.Bytes.{joined, sector}
use Rattle.cfb_chains.proofs.Blocks.{length_block}

-- so many bytes of a list, zeros behind its end
abbrev pad : ℕ → List ℕ → List ℕ
pad zero xs = []
pad (suc n) [] = 0 ∷ pad n []
pad (suc n) (x ∷ xs) = x ∷ pad n xs

zeros : (n : ℕ) → replicate n 0 ≡ pad n []
zeros zero = refl
zeros (suc n) = ap (λ ys. 0 ∷ ys) (zeros n)

padded : (n : ℕ) (xs : List ℕ) → take n xs ++ replicate (n - length xs) 0 ≡ pad n xs
padded zero xs = let e : 0 - length xs ≡ 0 = omega arith in ap (λ k. replicate k 0) e
padded (suc n) [] = let e : suc n - length {A = ℕ} [] ≡ suc n = omega arith in ap (λ k. replicate k 0) e ∙ zeros (suc n)
padded (suc n) (x ∷ xs) =
    let e : suc n - length (x ∷ xs) ≡ n - length xs = omega arith in
    ap (λ k. x ∷ (take n xs ++ replicate k 0)) e ∙ ap (λ ys. x ∷ ys) (padded n xs)

pad_plus : (m n : ℕ) (xs : List ℕ) → pad (m + n) xs ≡ pad m xs ++ pad n (drop m xs)
pad_plus zero n xs = let e : 0 + n ≡ n = omega arith in ap (λ k. pad k xs) e
pad_plus (suc m) n [] = let e : suc m + n ≡ suc (m + n) = omega arith in
    ap (λ k. pad k []) e ∙ ap (λ ys. 0 ∷ ys)
    (pad_plus m n [] ∙ ap (λ ys. pad m [] ++ pad n ys) (drop_all m [] (omega arith)))
pad_plus (suc m) n (x ∷ xs) = let e : suc m + n ≡ suc (m + n) = omega arith in
    ap (λ k. pad k (x ∷ xs)) e ∙ ap (λ ys. x ∷ ys) (pad_plus m n xs)

-- a block, as a list is padded
block_is : (w : ℕ) (bytes : List ℕ) (at : ℕ) → block w bytes at ≡ pad w (drop at bytes)
unfolding block
block_is w bytes at = padded w (drop at bytes)

-- two blocks, one behind the other
pub block_plus : (m n : ℕ) (bytes : List ℕ) (at : ℕ) → block (m + n) bytes at ≡ block m bytes at
    ++ block n bytes (at + m)
block_plus m n bytes at =
    block_is (m + n) bytes at ∙ pad_plus m n (drop at bytes) ∙ ap (λ ys. pad m (drop at bytes) ++ pad n ys)
    (drop-drop m at bytes)
    ∙ (λ i. sym (block_is m bytes at) i ++ sym (block_is n bytes (at + m)) i)

pub block_none : (bytes : List ℕ) (at : ℕ) → block 0 bytes at ≡ []
block_none bytes at = block_is 0 bytes at

-- the front of a block is a block
pub block_front : (m n : ℕ) (bytes : List ℕ) (at : ℕ) → m ≤ n → take m (block n bytes at) ≡ block m bytes at
block_front m n bytes at h =
    let e : n ≡ m + (n - m) = omega (arith, h) in
    let long : length (block m bytes at) ≡ m = length_block m bytes at in
    ap (λ k. take m (block k bytes at)) e
    ∙ ap (take m) (block_plus m (n - m) bytes at)
    ∙ take-append-le m (block m bytes at) (block (n - m) bytes (at + m)) (omega (arith, long))
    ∙ take_all m (block m bytes at) (omega (arith, long))

-- a block that was read, of bytes that are there
pub filled_by : (a : List ℕ) (n at there : ℕ) → there ≡ min (length a - at) n
    → take there (drop at a) ++ replicate (n - there) 0 ≡ block n a at
unfolding block
filled_by a n at there is =
    let long : length (drop at a) ≡ length a - at = length-drop at a in
    let left : n - there ≡ n - length (drop at a) = omega (arith, is, long) in
    let e : there ≡ min n (length (drop at a)) = omega (arith, is, long) in
    let front : take there (drop at a) ≡ take n (drop at a) = ap (λ k. take k (drop at a)) e ∙ take_min n (drop at a) in
    λ i. front i ++ replicate (left i) 0

-- ---- blocks in what was joined
pub block_first : (w : ℕ) (xs ys : List ℕ) (n : ℕ) → n + w ≤ length xs → block w (xs ++ ys) n ≡ block w xs n
unfolding block
block_first w xs ys n h =
    let a : n ≤ length xs = omega arith in
    let b : w ≤ length (drop n xs) = omega (arith, length-drop n xs) in
    let z : w - length (drop n xs) ≡ 0 = omega arith in
    let c : w - length (drop n xs ++ ys) ≡ 0 = omega (arith, length-append (drop n xs) ys) in
    rw (drop-append-le n xs ys a, take-append-le w (drop n xs) ys b, z, c) refl

block_behind : (w : ℕ) (xs ys : List ℕ) (n : ℕ) → block w (xs ++ ys) (length xs + n) ≡ block w ys n
block_behind w xs ys n = block_is w (xs ++ ys) (length xs + n) ∙ ap (pad w) (drop-append-add xs ys n)
    ∙ sym (block_is w ys n)

block_all : (w : ℕ) (xs : List ℕ) → length xs ≡ w → block w xs 0 ≡ xs
unfolding block
block_all w xs h =
    let z : w - length xs ≡ 0 = omega (arith, h) in
    ap (λ k. take w xs ++ replicate k 0) z ∙ append-nil (take w xs) ∙ take_all w xs (omega (arith, h))

-- a block of a block
pub block_within : (v w : ℕ) (a : List ℕ) (p q : ℕ) → q + w ≤ v → block w (block v a p) q ≡ block w a (p + q)
block_within v w a p q h =
    let z : ℕ = v - (q + w) in
    let e : v ≡ q + (w + z) = omega (arith, h) in
    let xs : List ℕ = block q a p in
    let ys : List ℕ = block w a (p + q) in
    let zs : List ℕ = block z a (p + q + w) in
    let whole : block v a p ≡ xs ++ (ys ++ zs) = ap (λ k. block k a p) e ∙ block_plus q (w + z) a p
    ∙ ap (λ l. xs ++ l) (block_plus w z a (p + q)) in
    let long : length xs ≡ q = length_block q a p in
    let wide : length ys ≡ w = length_block w a (p + q) in
    let at : q ≡ length xs + 0 = omega (arith, long) in
    (λ i. block w (whole i) (at i)) ∙ block_behind w xs (ys ++ zs) 0 ∙ block_first w ys zs 0 (omega (arith, wide))
    ∙ block_all w ys wide

-- sectors that stand one after another
pub run_block : (a : List ℕ) (first : ℕ) (ns : List ℕ) → ((k : ℕ) → k < length ns → get_or ns k 0 ≡ first + k)
    → joined (sector a) ns ≡ block (512 * length ns) a (512 * (first + 1))
run_block a first [] each = let e : 512 * length {A = ℕ} [] ≡ 0 = omega arith in
    sym (ap (λ k. block k a (512 * (first + 1))) e ∙ block_none a (512 * (first + 1)))
run_block a first (n ∷ ns) each =
    let here : n ≡ first = each 0 (omega arith) ∙ omega arith in
    let at : 512 + 512 * n ≡ 512 * (first + 1) = omega (arith, here) in
    let rest : joined (sector a) ns ≡ block (512 * length ns) a (512 * (first + 1 + 1)) =
    run_block a (first + 1) ns (λ k l. each (suc k) (omega (arith, l)) ∙ omega arith) in
    let behind : 512 * (first + 1 + 1) ≡ 512 * (first + 1) + 512 = omega arith in
    let long : 512 + 512 * length ns ≡ 512 * length (n ∷ ns) = omega arith in
    (λ i. block 512 a (at i) ++ rest i)
    ∙ ap (λ k. block 512 a (512 * (first + 1)) ++ block (512 * length ns) a k) behind
    ∙ sym (block_plus 512 (512 * length ns) a (512 * (first + 1)))
    ∙ ap (λ k. block k a (512 * (first + 1))) long

-- ---- the mini sectors of a mini stream
pub mini_at : (a ms : List ℕ) (q r : ℕ) → q < length ms → r < 8 → block 64 (joined (sector a) ms) (64 * (8 * q + r))
    ≡ block 64 a (512 * (get_or ms q 0 + 1) + 64 * r)
mini_at a [] q r lq lr = absurd (omega (arith, lq))
mini_at a (n ∷ ms) zero r lq lr =
    let rest : List ℕ = joined (sector a) ms in
    let long : length (sector a n) ≡ 512 = length_block 512 a (512 + 512 * n) in
    let e : 64 * (8 * 0 + r) ≡ 64 * r = omega arith in
    let f : 512 + 512 * n + 64 * r ≡ 512 * (n + 1) + 64 * r = omega arith in
    ap (block 64 (sector a n ++ rest)) e
    ∙ block_first 64 (sector a n) rest (64 * r) (omega (arith, long, lr))
    ∙ block_within 512 64 a (512 + 512 * n) (64 * r) (omega (arith, lr))
    ∙ ap (block 64 a) f
mini_at a (n ∷ ms) (suc q) r lq lr =
    let rest : List ℕ = joined (sector a) ms in
    let long : length (sector a n) ≡ 512 = length_block 512 a (512 + 512 * n) in
    let e : 64 * (8 * suc q + r) ≡ length (sector a n) + 64 * (8 * q + r) = omega (arith, long) in
    ap (block 64 (sector a n ++ rest)) e
    ∙ block_behind 64 (sector a n) rest (64 * (8 * q + r))
    ∙ mini_at a ms q r (omega (arith, lq)) lr
