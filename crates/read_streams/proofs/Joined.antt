-- Pieces of one width, joined.
use Rattle.std.proofs.Common.{◌≡◌, ◌≤◌, ◌+◌, ◌-◌, ◌*◌, ◌∙◌, ℕ, zero, suc, List, [], ◌∷◌, ◌++◌, length, take, drop, map}
use Rattle.std.proofs.Common.{min, refl, sym, ap, arith}
use Rattle.std.proofs.lemmas.List.{take_all}
use Rattle.std.proofs.lemmas.List.Elements.{All-head, All-tail}
use Rattle.std.proofs.Math.Seq.{drop-append-add, take-append-add}
use Rattle.std.specs.List.{All}
use Rattle.cfb_header.specs.Bytes.{joined, sector}
use Rattle.cfb_chains.proofs.Blocks.{length_block, length_joined}

-- sectors have whole numbers of four bytes
pub whole_numbers : (file ns bytes : List ℕ) → bytes ≡ joined (sector file) ns → (m : ℕ) × (length bytes ≡ 4 * m)
whole_numbers file ns bytes is = (
  128 * length ns,
  ap length is ∙ length_joined (sector file) 512 ns (λ n. length_block 512 file (512 + 512 * n))
      ∙ omega arith,
)

pub cut_take : (m n : ℕ) (xs : List ℕ) → m ≤ n → take m (take n xs) ≡ take m xs
cut_take zero n xs h = refl
cut_take (suc m) zero xs h = absurd (omega (arith, h))
cut_take (suc m) (suc n) [] h = refl
cut_take (suc m) (suc n) (x ∷ xs) h = ap (λ ys. x ∷ ys) (cut_take m n xs (omega (arith, h)))

pub both_cut : (m n : ℕ) (xs : List ℕ) → take m (take n xs) ≡ take (min m n) xs
both_cut zero n xs = let e : min 0 n ≡ 0 = omega arith in ap (λ k. take k xs) (sym e)
both_cut (suc m) zero xs = let e : min (suc m) 0 ≡ 0 = omega arith in ap (λ k. take k xs) (sym e)
both_cut (suc m) (suc n) [] = sym (take_all (min (suc m) (suc n)) [] (omega arith))
both_cut (suc m) (suc n) (x ∷ xs) =
    let e : min (suc m) (suc n) ≡ suc (min m n) = omega arith in
    ap (λ ys. x ∷ ys) (both_cut m n xs) ∙ ap (λ k. take k (x ∷ xs)) (sym e)

pub take_plus : (a b : ℕ) (xs : List ℕ) → take (a + b) xs ≡ take a xs ++ take b (drop a xs)
take_plus zero b xs = let e : 0 + b ≡ b = omega arith in ap (λ n. take n xs) e
take_plus (suc a) b [] = take_all (suc a + b) [] (omega arith) ∙ sym (take_all b [] (omega arith))
take_plus (suc a) b (x ∷ xs) = let e : suc a + b ≡ suc (a + b) = omega arith in
    ap (λ n. take n (x ∷ xs)) e ∙ ap (λ ys. x ∷ ys) (take_plus a b xs)

-- what is cut off and left out, in either order
pub drop_cut : (n len : ℕ) (xs : List ℕ) → drop n (take len xs) ≡ take (len - n) (drop n xs)
drop_cut zero len xs = let e : len - 0 ≡ len = omega arith in rw e refl
drop_cut (suc n) zero xs = let e : 0 - suc n ≡ 0 = omega arith in rw e refl
drop_cut (suc n) (suc len) [] = sym (take_all (suc len - suc n) [] (omega arith))
drop_cut (suc n) (suc len) (x ∷ xs) = let e : suc len - suc n ≡ len - n = omega arith in rw e (drop_cut n len xs)

module _ (w : ℕ) (f : ℕ → List ℕ) (wide : (n : ℕ) → length (f n) ≡ w) where
  pub joined_taken : (c : ℕ) (ns : List ℕ) → c ≤ length ns → take (w * c) (joined f ns) ≡ joined f (take c ns)
  joined_taken zero ns h = let e : w * 0 ≡ 0 = omega arith in ap (λ k. take k (joined f ns)) e
  joined_taken (suc c) [] h = absurd (omega (arith, h))
  joined_taken (suc c) (n ∷ ns) h =
      let long : length (f n) ≡ w = wide n in
      let e : w * suc c ≡ length (f n) + w * c = omega (arith, long) in
      ap (λ k. take k (f n ++ joined f ns)) e ∙ take-append-add (f n) (joined f ns) (w * c)
      ∙ ap (λ ys. f n ++ ys) (joined_taken c ns (omega (arith, h)))

  pub joined_dropped : (c : ℕ) (ns : List ℕ) → c ≤ length ns → drop (w * c) (joined f ns) ≡ joined f (drop c ns)
  joined_dropped zero ns h = let e : w * 0 ≡ 0 = omega arith in ap (λ k. drop k (joined f ns)) e
  joined_dropped (suc c) [] h = absurd (omega (arith, h))
  joined_dropped (suc c) (n ∷ ns) h =
      let long : length (f n) ≡ w = wide n in
      let e : w * suc c ≡ length (f n) + w * c = omega (arith, long) in
      ap (λ k. drop k (f n ++ joined f ns)) e ∙ drop-append-add (f n) (joined f ns) (w * c)
      ∙ joined_dropped c ns (omega (arith, h))

  -- the first bytes lie in the first pieces
  pub joined_cut : (size c : ℕ) (ns : List ℕ) → c ≤ length ns → size ≤ w * c
      → take size (joined f ns) ≡ take size (joined f (take c ns))
  joined_cut size c ns h enough = sym (cut_take size (w * c) (joined f ns) enough)
      ∙ ap (take size) (joined_taken c ns h)

-- pieces that are the same
pub joined_map : (f g : ℕ → List ℕ) (h : ℕ → ℕ) (ns : List ℕ) → All (λ n. f n ≡ g (h n)) ns
    → joined f ns ≡ joined g (map h ns)
joined_map f g h [] same = refl
joined_map f g h (n ∷ ns) same =
    let first : f n ≡ g (h n) = All-head (λ n. f n ≡ g (h n)) n ns same in
    let rest : joined f ns ≡ joined g (map h ns) = joined_map f g h ns (All-tail (λ n. f n ≡ g (h n)) n ns same) in
    λ i. first i ++ rest i
