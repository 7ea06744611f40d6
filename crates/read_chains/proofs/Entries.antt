-- The bytes of sectors that are held as entries of a directory.
use Rattle.std.proofs.Common.{◌≡◌, ◌<◌, ◌≤◌, ◌+◌, ◌-◌, ◌*◌, ℕ, zero, suc, List, [], ◌∷◌, ◌++◌, length, take, drop}
use Rattle.std.proofs.Common.{replicate, get_or, sym, ap, subst, ◌∙◌, arith, drop-drop, length-drop}
use Rattle.std.proofs.lemmas.List.{append-nil, take_all}
use Rattle.cfb_header.specs.Bytes.{block, joined, sector}

take_plus : (a b : ℕ) (xs : List ℕ) → take (a + b) xs ≡ take a xs ++ take b (drop a xs)
take_plus zero b xs = let e : 0 + b ≡ b = omega arith in ap (λ n. take n xs) e
take_plus (suc a) b [] = take_all (suc a + b) [] (omega arith) ∙ sym (take_all b [] (omega arith))
take_plus (suc a) b (x ∷ xs) = let e : suc a + b ≡ suc (a + b) = omega arith in
    ap (λ n. take n (x ∷ xs)) e ∙ ap (λ ys. x ∷ ys) (take_plus a b xs)

-- a block that is whole
whole_block : (bytes : List ℕ) (at : ℕ) → at + 512 ≤ length bytes → block 512 bytes at ≡ take 512 (drop at bytes)
unfolding block
whole_block bytes at h =
    let none : 512 - length (drop at bytes) ≡ 0 = omega (arith, length-drop at bytes, h) in
    ap (λ n. take 512 (drop at bytes) ++ replicate n 0) none ∙ append-nil (take 512 (drop at bytes))

-- the bytes from block j on are those of the sectors
held_from : (file run : List ℕ) (j : ℕ) (ns : List ℕ) → 512 * j + 512 * length ns ≤ length run
    → ((k : ℕ) → k < length ns → block 512 run (512 * (j + k)) ≡ block 512 file (512 * (get_or ns k 0 + 1)))
    → take (512 * length ns) (drop (512 * j) run) ≡ joined (sector file) ns
held_from file run j [] room same = let e : 512 * 0 ≡ 0 = omega arith in ap (λ n. take n (drop (512 * j) run)) e
held_from file run j (n ∷ ns) room same =
    let at : ℕ = 512 * j in
    let bytes : List ℕ = drop at run in
    let rest : take (512 * length ns) (drop (512 * (j + 1)) run) ≡ joined (sector file) ns =
    held_from file run (j + 1) ns (omega (arith, room))
    (λ k l. let e : j + suc k ≡ j + 1 + k = omega arith in
    subst (λ m. block 512 run (512 * m) ≡ block 512 file (512 * (get_or ns k 0 + 1))) e
    (same (suc k) (omega (arith, l)))) in
    let first : take 512 bytes ≡ sector file n =
    sym (whole_block run at (omega (arith, room))) ∙ ap (block 512 run) (omega arith) ∙ same 0 (omega arith)
    ∙ ap (block 512 file) (omega arith) in
    let len : 512 * length (n ∷ ns) ≡ 512 + 512 * length ns = omega arith in
    let behind : at + 512 ≡ 512 * (j + 1) = omega arith in
    ap (λ m. take m bytes) len
    ∙ take_plus 512 (512 * length ns) bytes
    ∙ ap (λ xs. take 512 bytes ++ take (512 * length ns) xs) (drop-drop 512 at run ∙ ap (λ m. drop m run) behind)
    ∙ (λ i. first i ++ rest i)

-- held bytes whose blocks are those of the sectors are the bytes of these
pub held_joined : (file run : List ℕ) (ns : List ℕ) → length run ≡ 512 * length ns
    → ((k : ℕ) → k < length ns → block 512 run (512 * k) ≡ block 512 file (512 * (get_or ns k 0 + 1)))
    → run ≡ joined (sector file) ns
held_joined file run ns long same =
    let z : 512 * 0 ≡ 0 = omega arith in
    sym (take_all (512 * length ns) run (omega (arith, long)))
    ∙ ap (λ n. take (512 * length ns) (drop n run)) (sym z)
    ∙ held_from file run 0 ns (omega (arith, long))
    (λ k l. let e : 0 + k ≡ k = omega arith in
    subst (λ m. block 512 run (512 * m) ≡ block 512 file (512 * (get_or ns k 0 + 1))) (sym e) (same k l))
