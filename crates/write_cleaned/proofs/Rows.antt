-- Mini sectors that follow one another are one part of the mini stream.
use Rattle.std.proofs.Common.{◌≡◌, ◌<◌, ◌≤◌, ◌+◌, ◌-◌, ◌*◌, ◌/◌, ◌∙◌, ℕ, zero, suc, List, ◌++◌, length, length-drop}
use Rattle.std.proofs.Common.{take, drop, map, replicate, refl, sym, ap, arith}
use Rattle.std.proofs.lemmas.List.{append-nil}
use Rattle.std.specs.List.{range_with_len}
use Rattle.cfb_bytes.specs.Bytes.{block}
use Rattle.cfb_header.specs.Bytes.{joined}
use Rattle.read_streams.proofs.Filled.{block_front, block_none, block_plus}

-- the bytes of a row are a block of the mini stream
row_block : (bytes : List ℕ) (first count : ℕ)
    → joined (block 64 bytes) (map (λ n. 64 * n) (range_with_len first count))
    ≡ block (64 * count) bytes (64 * first)
row_block bytes first zero = let e : 64 * 0 ≡ 0 = omega arith in
    sym (ap (λ k. block k bytes (64 * first)) e ∙ block_none bytes (64 * first))
row_block bytes first (suc count) =
    let behind : 64 * (first + 1) ≡ 64 * first + 64 = omega arith in
    let long : 64 + 64 * count ≡ 64 * suc count = omega arith in
    ap (λ xs. block 64 bytes (64 * first) ++ xs) (row_block bytes (first + 1) count)
    ∙ ap (λ k. block 64 bytes (64 * first) ++ block (64 * count) bytes k) behind
    ∙ sym (block_plus 64 (64 * count) bytes (64 * first))
    ∙ ap (λ k. block k bytes (64 * first)) long

-- a block that is there
pub whole_block : (size : ℕ) (bytes : List ℕ) (at : ℕ) → at + size ≤ length bytes
    → block size bytes at ≡ take size (drop at bytes)
unfolding block
whole_block size bytes at h =
    let none : size - length (drop at bytes) ≡ 0 = omega (arith, length-drop at bytes, h) in
    ap (λ k. take size (drop at bytes) ++ replicate k 0) none ∙ append-nil (take size (drop at bytes))

-- the bytes of a stream in a row are a part of the mini stream
row_read : (bytes : List ℕ) (first size : ℕ) (ns : List ℕ) → ns ≡ range_with_len first ((size + 63) / 64)
    → 64 * first + size ≤ length bytes
    → take size (drop (64 * first) bytes) ≡ take size (joined (block 64 bytes) (map (λ n. 64 * n) ns))
row_read bytes first size ns row h =
    sym (whole_block size bytes (64 * first) h)
    ∙ sym (block_front size (64 * ((size + 63) / 64)) bytes (64 * first) (omega arith))
    ∙ ap (take size) (sym (row_block bytes first ((size + 63) / 64))
    ∙ ap (λ xs. joined (block 64 bytes) (map (λ n. 64 * n) xs)) (sym row))

-- which has to be there only where there are any
pub row_part : (bytes : List ℕ) (first size : ℕ) (ns : List ℕ) → ns ≡ range_with_len first ((size + 63) / 64)
    → (0 < size → 64 * first + size ≤ length bytes)
    → take size (drop (64 * first) bytes) ≡ take size (joined (block 64 bytes) (map (λ n. 64 * n) ns))
row_part bytes first zero ns row h = refl
row_part bytes first (suc k) ns row h = row_read bytes first (suc k) ns row (h (omega arith))
