-- Sectors that stand one after another.
use Rattle.std.proofs.Common.{inl, inr, min, ◌≡◌, ◌<◌, ◌≤◌, ◌+◌, ◌-◌, ◌*◌, ℕ, zero, suc, List, [], ◌∷◌, ◌++◌, length}
use Rattle.std.proofs.Common.{take, drop, replicate, get_or, sym, ap, subst, ◌∙◌, arith, length-drop}
use Rattle.std.proofs.lemmas.List.{append-nil, drop-drop, take-append-drop, take-append-le, take_all}
use Rattle.std.proofs.lemmas.List.Concat.{flat_map-append}
use Rattle.std.proofs.lemmas.Bool.{cases_lt}
use Rattle.std.proofs.Math.Seq.{take-append-add}
use Rattle.std.specs.List.{slice_range}
use Rattle.cfb_header.specs.Bytes.{block, joined, sector}

take_plus : (a b : ℕ) (xs : List ℕ) → take (a + b) xs ≡ take a xs ++ take b (drop a xs)
take_plus zero b xs = let e : 0 + b ≡ b = omega arith in ap (λ n. take n xs) e
take_plus (suc a) b [] = take_all (suc a + b) [] (omega arith) ∙ sym (take_all b [] (omega arith))
take_plus (suc a) b (x ∷ xs) = let e : suc a + b ≡ suc (a + b) = omega arith in
    ap (λ n. take n (x ∷ xs)) e ∙ ap (λ ys. x ∷ ys) (take_plus a b xs)

-- a sector that is whole
whole_block : (w : ℕ) (bytes : List ℕ) (at : ℕ) → at + w ≤ length bytes → block w bytes at ≡ take w (drop at bytes)
unfolding block
whole_block w bytes at h =
    let none : w - length (drop at bytes) ≡ 0 = omega (arith, length-drop at bytes, h) in
    ap (λ n. take w (drop at bytes) ++ replicate n 0) none ∙ append-nil (take w (drop at bytes))

pub run_joined : (w start : ℕ) (bytes : List ℕ) (first : ℕ) (ns : List ℕ)
    → ((k : ℕ) → k < length ns → get_or ns k 0 ≡ first + k)
    → start + w * first + w * length ns ≤ length bytes
    → take (w * length ns) (drop (start + w * first) bytes) ≡ joined (λ n. block w bytes (start + w * n)) ns
run_joined w start bytes first [] each room = let e : w * 0 ≡ 0 = omega arith in
    ap (λ n. take n (drop (start + w * first) bytes)) e
run_joined w start bytes first (n ∷ ns) each room =
    let here : n ≡ first = each 0 (omega arith) ∙ omega arith in
    let at : ℕ = start + w * first in
    let rest : take (w * length ns) (drop (start + w * (first + 1)) bytes)
    ≡ joined (λ n. block w bytes (start + w * n)) ns =
    run_joined w start bytes (first + 1) ns (λ k l. each (suc k) (omega (arith, l)) ∙ omega arith)
    (omega (arith, room)) in
    let one : block w bytes (start + w * n) ≡ take w (drop at bytes) = ap (λ m. block w bytes (start + w * m)) here
    ∙ whole_block w bytes at (omega (arith, room)) in
    let len : w * length (n ∷ ns) ≡ w + w * length ns = omega arith in
    let behind : at + w ≡ start + w * (first + 1) = omega arith in
    ap (λ m. take m (drop at bytes)) len
    ∙ take_plus w (w * length ns) (drop at bytes)
    ∙ ap (λ xs. take w (drop at bytes) ++ take (w * length ns) xs)
    (drop-drop w at bytes ∙ ap (λ m. drop m bytes) behind)
    ∙ (λ i. sym one i ++ rest i)

-- the bytes that were cut out
pub run_taken : (w start : ℕ) (bytes : List ℕ) (first : ℕ) (ns : List ℕ) (len : ℕ) (rest run : List ℕ)
    → ((k : ℕ) → k < length ns → get_or ns k 0 ≡ first + k)
    → start + w * first ≤ length bytes → rest ≡ slice_range bytes (start + w * first) (length bytes)
    → len ≤ length rest → run ≡ slice_range rest 0 len → len ≡ w * length ns
    → run ≡ joined (λ n. block w bytes (start + w * n)) ns
run_taken w start bytes first ns len rest run each inside rest_is room run_is len_is =
    let at : ℕ = start + w * first in
    let behind : List ℕ = drop at bytes in
    let whole : rest ≡ behind = rest_is ∙ take_all (length bytes - at) behind (omega (arith, length-drop at bytes)) in
    let long : length rest ≡ length bytes - at = ap length whole ∙ length-drop at bytes in
    let cut : run ≡ take (len - 0) rest = run_is in
    let n : len - 0 ≡ w * length ns = omega (arith, len_is) in
    cut ∙ (λ i. take (n i) (whole i)) ∙ run_joined w start bytes first ns each
    (omega (arith, long, room, len_is, inside))

-- the bytes whose blocks are those of sectors in turn
placed_from : (file run : List ℕ) (first j : ℕ) (ns : List ℕ)
    → ((k : ℕ) → k < length ns → get_or ns k 0 ≡ first + (j + k))
    → 512 * (j + length ns) ≤ length run
    → ((k : ℕ) → k < length ns → block 512 run (512 * (j + k)) ≡ block 512 file (512 * (first + 1 + (j + k))))
    → take (512 * length ns) (drop (512 * j) run) ≡ joined (sector file) ns
placed_from file run first j [] each room same = let e : 512 * 0 ≡ 0 = omega arith in
    ap (λ n. take n (drop (512 * j) run)) e
placed_from file run first j (n ∷ ns) each room same =
    let here : n ≡ first + (j + 0) = each 0 (omega arith) in
    let at : ℕ = 512 * j in
    let rest : take (512 * length ns) (drop (512 * (j + 1)) run) ≡ joined (sector file) ns =
    placed_from file run first (j + 1) ns
    (λ k l. let e : j + suc k ≡ j + 1 + k = omega arith in each (suc k) (omega (arith, l)) ∙ ap (λ m. first + m) e)
    (omega (arith, room))
    (λ k l. let e : j + suc k ≡ j + 1 + k = omega arith in
    subst (λ m. block 512 run (512 * m) ≡ block 512 file (512 * (first + 1 + m))) e
    (same (suc k) (omega (arith, l)))) in
    let one : sector file n ≡ take 512 (drop at run) =
    ap (block 512 file) (omega (arith, here)) ∙ sym (same 0 (omega arith)) ∙ ap (block 512 run) (omega arith)
    ∙ whole_block 512 run at (omega (arith, room)) in
    let len : 512 * length (n ∷ ns) ≡ 512 + 512 * length ns = omega arith in
    let behind : at + 512 ≡ 512 * (j + 1) = omega arith in
    ap (λ m. take m (drop at run)) len
    ∙ take_plus 512 (512 * length ns) (drop at run)
    ∙ ap (λ xs. take 512 (drop at run) ++ take (512 * length ns) xs)
    (drop-drop 512 at run ∙ ap (λ m. drop m run) behind)
    ∙ (λ i. sym one i ++ rest i)

pub placed_joined : (file run : List ℕ) (first count : ℕ) (ns : List ℕ)
    → ((k : ℕ) → k < length ns → get_or ns k 0 ≡ first + k)
    → count ≡ length ns → length run ≡ 512 * count
    → ((k : ℕ) → k < count → block 512 run (512 * k) ≡ block 512 file (512 * (first + 1 + k)))
    → run ≡ joined (sector file) ns
placed_joined file run first count ns each count_is long same =
    let all : 512 * length ns ≡ length run = omega (arith, long, count_is) in
    sym (ap (λ m. take m run) all ∙ take_all (length run) run (omega arith))
    ∙ placed_from file run first 0 ns
    (λ k l. let e : 0 + k ≡ k = omega arith in each k l ∙ ap (λ m. first + m) (sym e)) (omega (arith, all))
    (λ k l. let e : 0 + k ≡ k = omega arith in
    subst (λ m. block 512 run (512 * m) ≡ block 512 file (512 * (first + 1 + m))) (sym e)
    (same k (omega (arith, l, count_is))))

-- ---- bytes that are compared where they stand
-- what a list of sectors holds: those in a row, and the rest
pub joined_cut : (piece : ℕ → List ℕ) (ns : List ℕ) (at count : ℕ)
    → joined piece (drop at ns) ≡ joined piece (take count (drop at ns)) ++ joined piece (drop (at + count) ns)
joined_cut piece ns at count =
    let rest : List ℕ = drop at ns in
    let cut : rest ≡ take count rest ++ drop count rest = sym (take-append-drop count rest) in
    let behind : drop count rest ≡ drop (at + count) ns = drop-drop count at ns in
    ap (joined piece) cut ∙ flat_map-append piece (take count rest) (drop count rest)
    ∙ ap (λ xs. joined piece (take count rest) ++ joined piece xs) behind

-- bytes whose front was seen, and whose rest is what stands behind
pub shown_more : (rest run behind : List ℕ) (len : ℕ) → len ≡ min (length rest) (length run)
    → take len rest ≡ take len run
    → drop len rest ≡ take (length (drop len rest)) behind → rest ≡ take (length rest) (run ++ behind)
shown_more rest run behind len least front back =
    elim (cases_lt (length run) (length rest)) [
      | inr all ↦
          let e : len ≡ length rest = omega (arith, least, all) in
          sym (take_all (length rest) rest (omega arith)) ∙ ap (λ n. take n rest) (sym e) ∙ front
          ∙ ap (λ n. take n run) e
          ∙ sym (take-append-le (length rest) run behind (omega (arith, all)))
      | inl more ↦
          let e : len ≡ length run = omega (arith, least, more) in
          let left : length rest ≡ length run + length (drop len rest) = omega (arith, length-drop len rest, e, more) in
          sym (take-append-drop len rest)
          ∙ (λ i. front i ++ back i)
          ∙ ap (λ n. take n run ++ take (length (drop len rest)) behind) e
          ∙ ap (λ xs. xs ++ take (length (drop len rest)) behind) (take_all (length run) run (omega arith))
          ∙ sym (take-append-add run behind (length (drop len rest)))
          ∙ ap (λ n. take n (run ++ behind)) (sym left)
    ]
