-- The blocks of a file of which only some were read.
use Rattle.std.proofs.Common.{◌≡◌, ◌≢◌, inl, inr, ◌<◌, ◌≤◌, ◌+◌, ◌-◌, ◌*◌, ◌/◌, ℕ, zero, suc, List, [], ◌∷◌, ◌++◌}
use Rattle.std.proofs.Common.{length, take, drop, replicate, get_or, set, min, refl, sym, ap, subst, ◌∙◌, arith}
use Rattle.std.proofs.Common.{append_assoc, drop-drop, length-append, length-drop, length-set}
use Rattle.std.proofs.lemmas.List.{append-nil, drop_all, drop-append-le, get_or-set_other, get_or-set_same}
use Rattle.std.proofs.lemmas.List.{get_or_default, get_or_past, length-replicate, length-take, same_lists}
use Rattle.std.proofs.lemmas.List.{take-append-le, take_all, take_at, take-take}
use Rattle.std.proofs.lemmas.Bool.{cases_lt}
use Rattle.std.proofs.Math.Seq.{drop-append_seam, drop-append-add}
use Rattle.std.proofs.lemmas.List.Elements.{All-replicate, All-set}
use Rattle.std.specs.List.{All, flat_map}
use Rattle.cfb_bytes.specs.Bytes.{block}
use Rattle.read_packed.specs.Places.{IsPlaced, filled, placed, whole}

-- ---- places behind which no block was read
get_zeros : (n k : ℕ) → let zero_there : ℕ = get_or (replicate n 0) k 0 in zero_there ≡ 0
get_zeros zero k = refl
get_zeros (suc n) zero = refl
get_zeros (suc n) (suc k) = get_zeros n k

get_front : (xs : List ℕ) (n k : ℕ) → get_or (xs ++ replicate n 0) k 0 ≡ get_or xs k 0
get_front [] n k = get_zeros n k
get_front (x ∷ xs) n zero = refl
get_front (x ∷ xs) n (suc k) = get_front xs n k

pub get_filled : (count : ℕ) (xs : List ℕ) (k : ℕ) → get_or (filled count xs) k 0 ≡ get_or xs k 0
get_filled count xs k = get_front xs (count - length xs) k

pub length_filled : (count : ℕ) (xs : List ℕ) → length (filled count xs) ≡ length xs + (count - length xs)
length_filled count xs = length-append xs (replicate (count - length xs) 0)
    ∙ omega (arith, length-replicate {A = ℕ} (count - length xs) 0)

set_front : (xs zs : List ℕ) (n at : ℕ) → n < length xs → set (xs ++ zs) n at ≡ set xs n at ++ zs
set_front [] zs n at l = absurd (omega arith)
set_front (x ∷ xs) zs zero at l = refl
set_front (x ∷ xs) zs (suc n) at l = ap (λ ys. x ∷ ys) (set_front xs zs n at (omega arith))

pub set_inside : (count : ℕ) (xs : List ℕ) (n at : ℕ) → n < length xs → filled count (set xs n at)
    ≡ set (filled count xs) n at
set_inside count xs n at l =
    ap (λ k. set xs n at ++ replicate (count - k) 0) (length-set xs n at)
    ∙ sym (set_front xs (replicate (count - length xs) 0) n at l)

filled_twice : (m count : ℕ) (xs : List ℕ) → m ≤ count → filled count (filled m xs) ≡ filled count xs
filled_twice m count xs le =
    let long : length (filled count (filled m xs)) ≡ length (filled count xs) =
    omega (arith, length_filled count (filled m xs), length_filled m xs, length_filled count xs, le) in
    same_lists (filled count (filled m xs)) (filled count xs) long
    (λ k d l.
    get_or_default (filled count (filled m xs)) k d 0 l ∙ get_filled count (filled m xs) k ∙ get_filled m xs k
    ∙ sym (get_filled count xs k) ∙ get_or_default (filled count xs) k 0 d (omega (arith, l, long)))

pub set_past : (count : ℕ) (xs ys : List ℕ) (n at : ℕ) → length xs ≤ n → n < count
    → ys ≡ take (n + 1) xs ++ replicate (n + 1 - length xs) 0
    → filled count (set ys n at) ≡ set (filled count xs) n at
set_past count xs ys n at past l is =
    let grown : ys ≡ filled (n + 1) xs = is ∙ ap (λ zs. zs ++ replicate (n + 1 - length xs) 0)
    (take_all (n + 1) xs (omega (arith, past))) in
    let here : n < length ys = omega (arith, ap length grown, length_filled (n + 1) xs, past) in
    set_inside count ys n at here ∙ ap (λ zs. set (filled count zs) n at) grown
    ∙ ap (λ zs. set zs n at) (filled_twice (n + 1) count xs (omega (arith, l)))

-- a block has its size
pub length_block : (w : ℕ) (bytes : List ℕ) (at : ℕ) → length (block w bytes at) ≡ w
unfolding block
length_block w bytes at =
    let rest : List ℕ = drop at bytes in
    length-append (take w rest) (replicate (w - length rest) 0)
    ∙ (λ i. length-take w rest i + length-replicate {A = ℕ} (w - length rest) 0 i)
    ∙ omega arith

pub length_blocks : (pool places : List ℕ) → length (flat_map (block 512 pool) places) ≡ 512 * length places
length_blocks pool [] = omega arith
length_blocks pool (at ∷ places) =
    length-append (block 512 pool at) (flat_map (block 512 pool) places)
    ∙ (λ i. length_block 512 pool at i + length_blocks pool places i) ∙ omega arith

pub length_placed : (len : ℕ) (pool places : List ℕ) → IsPlaced len pool places → length (placed len pool places) ≡ len
length_placed len pool places h =
    length-take len (flat_map (block 512 pool) places) ∙ omega (arith, h.enough, length_blocks pool places)

-- so many bytes, of which none was read
pub new_placed : (len count : ℕ) (pool places : List ℕ) → pool ≡ replicate 512 0 → places ≡ [] → len ≤ 512 * count
    → IsPlaced len pool (filled count places)
new_placed len count pool places p ps room = record {
  enough = omega (arith, room, length_filled count places);
  inside = subst (λ xs. All (λ at. at + 512 ≤ length pool) (filled count xs)) (sym ps)
      (All-replicate (λ at. at + 512 ≤ length pool) (count - 0) 0
      (omega (arith, ap length p, length-replicate {A = ℕ} 512 0)));
}

-- the bytes from block k on, and how many there are
drop_blocks : (pool places : List ℕ) (k : ℕ) → k < length places
    → drop (512 * k) (flat_map (block 512 pool) places) ≡ block 512 pool (get_or places k 0)
    ++ flat_map (block 512 pool) (drop (suc k) places)
drop_blocks pool [] k l = absurd (omega arith)
drop_blocks pool (at ∷ places) zero l = let e : 512 * 0 ≡ 0 = omega arith in
    ap (λ n. drop n (flat_map (block 512 pool) (at ∷ places))) e
drop_blocks pool (at ∷ places) (suc k) l =
    let first : List ℕ = block 512 pool at in
    let rest : List ℕ = flat_map (block 512 pool) places in
    let long : length first ≡ 512 = length_block 512 pool at in
    let e : 512 * suc k ≡ length first + 512 * k = omega (arith, long) in
    ap (λ n. drop n (first ++ rest)) e ∙ drop-append-add first rest (512 * k) ∙ drop_blocks pool places k (omega arith)

-- what is cut off and left out, in either order
drop_cut : (n len : ℕ) (xs : List ℕ) → drop n (take len xs) ≡ take (len - n) (drop n xs)
drop_cut zero len xs = let e : len - 0 ≡ len = omega arith in rw e refl
drop_cut (suc n) zero xs = let e : 0 - suc n ≡ 0 = omega arith in rw e refl
drop_cut (suc n) (suc len) [] = sym (take_all (suc len - suc n) [] (omega arith))
drop_cut (suc n) (suc len) (x ∷ xs) = let e : suc len - suc n ≡ len - n = omega arith in rw e (drop_cut n len xs)

-- the first bytes of what begins with a block
cut_front : (a rest : List ℕ) (m : ℕ) → take (length a) (take m (a ++ rest)) ≡ take m a
cut_front [] rest m = sym (take_all m [] (omega arith))
cut_front (x ∷ a) rest zero = refl
cut_front (x ∷ a) rest (suc m) = ap (λ ys. x ∷ ys) (cut_front a rest m)

cut_twice : (w m : ℕ) (xs : List ℕ) → take (min m w) xs ≡ take m (take w xs)
cut_twice zero m xs = let e : min m 0 ≡ 0 = omega arith in rw e (sym (take_all m [] (omega arith)))
cut_twice (suc w) zero xs = let e : min 0 (suc w) ≡ 0 = omega arith in ap (λ n. take n xs) e
cut_twice (suc w) (suc m) [] = take_all (min (suc m) (suc w)) [] (omega arith)
cut_twice (suc w) (suc m) (x ∷ xs) =
    let e : min (suc m) (suc w) ≡ suc (min m w) = omega arith in
    ap (λ n. take n (x ∷ xs)) e ∙ ap (λ ys. x ∷ ys) (cut_twice w m xs)

-- a block of what was cut is the block that stands in the pool, as far as there are bytes
pub block_placed : (len : ℕ) (pool places : List ℕ) (k : ℕ) → k < length places
    → block 512 (placed len pool places) (512 * k)
    ≡ block 512 (take (len - 512 * k) (block 512 pool (get_or places k 0))) 0
unfolding block
block_placed len pool places k l =
    let m : ℕ = len - 512 * k in
    let a : List ℕ = block 512 pool (get_or places k 0) in
    let rest : List ℕ = flat_map (block 512 pool) (drop (suc k) places) in
    let long : length a ≡ 512 = length_block 512 pool (get_or places k 0) in
    let here : drop (512 * k) (placed len pool places) ≡ take m (a ++ rest) =
    drop_cut (512 * k) len (flat_map (block 512 pool) places) ∙ ap (take m) (drop_blocks pool places k l) in
    let front : take 512 (take m (a ++ rest)) ≡ take 512 (take m a) =
    ap (λ w. take w (take m (a ++ rest))) (sym long) ∙ cut_front a rest m
    ∙ sym (take_all 512 (take m a) (omega (arith, length-take m a, long))) in
    let left : 512 - length (take m (a ++ rest)) ≡ 512 - length (take m a) =
    omega (arith, length-take m (a ++ rest), length-take m a, length-append a rest, long) in
    (λ i. take 512 (here i) ++ replicate (512 - length (here i)) 0) ∙ (λ i. front i ++ replicate (left i) 0)

-- no byte stands past the end
pub block_past : (bytes : List ℕ) (at : ℕ) → length bytes ≤ at → block 512 bytes at ≡ block 512 [] 0
unfolding block
block_past bytes at h = ap (λ xs. take 512 xs ++ replicate (512 - length xs) 0) (drop_all at bytes h)

-- the first bytes of a whole block
take_of_block : (pool : List ℕ) (at m : ℕ) → at + 512 ≤ length pool → take (min m 512) (drop at pool)
    ≡ take m (block 512 pool at)
unfolding block
take_of_block pool at m room =
    let rest : List ℕ = drop at pool in
    let long : 512 ≤ length rest = omega (arith, length-drop at pool) in
    let none : 512 - length rest ≡ 0 = omega arith in
    let whole : take 512 rest ++ replicate (512 - length rest) 0 ≡ take 512 rest =
    ap (λ n. take 512 rest ++ replicate n 0) none ∙ append-nil (take 512 rest) in
    cut_twice 512 m rest ∙ ap (take m) (sym whole)

-- ---- a block that is looked at
pub part_past : (len : ℕ) (pool places bytes : List ℕ) (n : ℕ) → IsPlaced len pool places
    → placed len pool places ≡ bytes → len ≤ 512 * n
    → block 512 [] 0 ≡ block 512 bytes (512 * n)
part_past len pool places bytes n h is past =
    sym (block_past bytes (512 * n) (omega (arith, sym (ap length is) ∙ length_placed len pool places h, past)))

pub part_here : (len : ℕ) (pool places bytes : List ℕ) (n at size : ℕ) → IsPlaced len pool places
    → placed len pool places ≡ bytes → n < length places
    → at ≡ get_or places n 0 → size ≡ min (len - 512 * n) 512
    → block 512 (take (at + size - at) (drop at pool)) 0 ≡ block 512 bytes (512 * n)
part_here len pool places bytes n at size h is l at_is size_is =
    let room : at + 512 ≤ length pool = omega (arith, at_is, h.inside n 0 l) in
    let m : ℕ = len - 512 * n in
    let count : at + size - at ≡ min m 512 = omega (arith, size_is) in
    ap (λ c. block 512 (take c (drop at pool)) 0) count
    ∙ ap (λ xs. block 512 xs 0) (take_of_block pool at m room)
    ∙ ap (λ a. block 512 (take m (block 512 pool a)) 0) at_is
    ∙ sym (block_placed len pool places n l) ∙ ap (λ xs. block 512 xs (512 * n)) is

-- ---- a block that is put
module _ (len : ℕ) (pool places bytes : List ℕ) (n : ℕ) (h : IsPlaced len pool places) (long : length bytes ≡ 512) where
  -- what was there is there
  kept : (at : ℕ) → at + 512 ≤ length pool → block 512 (pool ++ bytes) at ≡ block 512 pool at
  unfolding block
  kept at room =
      let rest : List ℕ = drop at pool in
      let e : drop at (pool ++ bytes) ≡ rest ++ bytes = drop-append-le at pool bytes (omega arith) in
      let l : 512 ≤ length rest = omega (arith, length-drop at pool) in
      let none : 512 - length (rest ++ bytes) ≡ 512 - length rest = omega (arith, length-append rest bytes) in
      (λ i. take 512 (e i) ++ replicate (512 - length (e i)) 0)
      ∙ (λ i. take-append-le 512 rest bytes l i ++ replicate (none i) 0)

  -- what was put stands behind it
  added : block 512 (pool ++ bytes) (length pool) ≡ bytes
  unfolding block
  added =
      let e : drop (length pool) (pool ++ bytes) ≡ bytes = drop-append_seam pool bytes in
      let none : 512 - length bytes ≡ 0 = omega (arith, long) in
      (λ i. take 512 (e i) ++ replicate (512 - length (e i)) 0)
      ∙ (λ i. take_all 512 bytes (omega (arith, long)) i ++ replicate (none i) 0) ∙ append-nil bytes

  pub still_placed : IsPlaced len (pool ++ bytes) (set places n (length pool))
  still_placed = record {
    enough = omega (arith, h.enough, length-set places n (length pool));
    inside = All-set (λ at. at + 512 ≤ length (pool ++ bytes)) places n (length pool)
        (omega (arith, length-append pool bytes, long))
        (λ k d l. omega (arith, h.inside k d l, length-append pool bytes));
  }

  pub put_here : 512 * n < len → block 512 (placed len (pool ++ bytes) (set places n (length pool))) (512 * n)
      ≡ block 512 (take (len - 512 * n) bytes) 0
  put_here inside =
      let l : n < length places = omega (arith, h.enough, inside) in
      let at : get_or (set places n (length pool)) n 0 ≡ length pool = get_or-set_same places n (length pool) 0 l in
      block_placed len (pool ++ bytes) (set places n (length pool)) n
      (omega (arith, l, length-set places n (length pool)))
      ∙ ap (λ a. block 512 (take (len - 512 * n) (block 512 (pool ++ bytes) a)) 0) at
      ∙ ap (λ xs. block 512 (take (len - 512 * n) xs) 0) added

  pub put_apart : (m : ℕ) → m ≢ n → block 512 (placed len (pool ++ bytes) (set places n (length pool))) (512 * m)
      ≡ block 512 (placed len pool places) (512 * m)
  put_apart m other =
      elim (cases_lt m (length places)) [
        | inr past ↦
            block_past (placed len (pool ++ bytes) (set places n (length pool))) (512 * m)
            (omega (arith, length_placed len (pool ++ bytes) (set places n (length pool)) still_placed, h.enough, past))
            ∙ sym (block_past (placed len pool places) (512 * m)
            (omega (arith, length_placed len pool places h, h.enough, past)))
        | inl l ↦
            block_placed len (pool ++ bytes) (set places n (length pool)) m
            (omega (arith, l, length-set places n (length pool)))
            ∙ ap (λ a. block 512 (take (len - 512 * m) (block 512 (pool ++ bytes) a)) 0)
            (get_or-set_other places n m (length pool) 0 other)
            ∙ ap (λ xs. block 512 (take (len - 512 * m) xs) 0) (kept (get_or places m 0) (h.inside m 0 l))
            ∙ sym (block_placed len pool places m l)
      ]

-- what the file has of the block, and zeros
whole_length : (bytes : List ℕ) (m : ℕ) → length bytes ≡ min 512 m → length (whole bytes) ≡ 512
whole_length bytes m e = length-append bytes (replicate (512 - length bytes) 0)
    ∙ omega (arith, length-replicate {A = ℕ} (512 - length bytes) 0, e)

whole_cut : (bytes : List ℕ) (m : ℕ) → length bytes ≡ min 512 m → take m (whole bytes) ≡ bytes
whole_cut bytes m e =
    elim (cases_lt m 512) [
      | inl less ↦ take_at bytes (replicate (512 - length bytes) 0) m (omega (arith, e, less))
      | inr all ↦
          let none : 512 - length bytes ≡ 0 = omega (arith, e, all) in
          ap (λ z. take m (bytes ++ replicate z 0)) none ∙ ap (take m) (append-nil bytes)
          ∙ take_all m bytes (omega (arith, e))
    ]

module _ (len : ℕ) (pool places bytes new old : List ℕ) (n at : ℕ) (h : IsPlaced len pool places)
    (made : new ≡ pool ++ whole bytes) (at_is : at ≡ length pool) (is : placed len pool places ≡ old)
    (fits : length bytes ≡ min 512 (length old - 512 * n)) where
  same : placed len new (set places n at) ≡ placed len (pool ++ whole bytes) (set places n (length pool))
  same i = placed len (made i) (set places n (at_is i))

  old_len : length old ≡ len
  old_len = ap length (sym is) ∙ length_placed len pool places h

  long : length (whole bytes) ≡ 512
  long = whole_length bytes (length old - 512 * n) fits

  pub put_placed : IsPlaced len new (set places n at)
  put_placed = subst (λ xs. IsPlaced len xs (set places n at)) (sym made)
      (subst (λ k. IsPlaced len (pool ++ whole bytes) (set places n k)) (sym at_is)
      (still_placed len pool places (whole bytes) n h long))

  pub put_len : length (placed len new (set places n at)) ≡ length old
  put_len = length_placed len new (set places n at) put_placed ∙ sym old_len

  pub put_there : 512 * n < length old → block 512 (placed len new (set places n at)) (512 * n) ≡ block 512 bytes 0
  put_there inside =
      ap (λ xs. block 512 xs (512 * n)) same ∙ put_here len pool places (whole bytes) n h long
      (omega (arith, inside, old_len))
      ∙ ap (λ l. block 512 (take (l - 512 * n) (whole bytes)) 0) (sym old_len)
      ∙ ap (λ xs. block 512 xs 0) (whole_cut bytes (length old - 512 * n) fits)

  pub put_elsewhere : (m : ℕ) → m ≢ n → block 512 (placed len new (set places n at)) (512 * m) ≡ block 512 old (512 * m)
  put_elsewhere m other =
      ap (λ xs. block 512 xs (512 * m)) same ∙ put_apart len pool places (whole bytes) n h long m other
      ∙ ap (λ xs. block 512 xs (512 * m)) is

-- a block that is there has a place
pub has_place : (len : ℕ) (pool places old : List ℕ) (n : ℕ) → IsPlaced len pool places
    → placed len pool places ≡ old → 512 * n < length old → n < len / 512 + 1
has_place len pool places old n h is inside = omega (arith, ap length is, length_placed len pool places h, inside)

-- the file has as many bytes, where only the pool grew
pub pool_grown : (len : ℕ) (pool places bytes new : List ℕ) → IsPlaced len pool places → new ≡ pool ++ bytes
    → IsPlaced len new places
pool_grown len pool places bytes new h e = record {
  enough = h.enough;
  inside = λ k d l. omega (arith, h.inside k d l, ap length e, length-append pool bytes);
}

-- ---- blocks that stand in turn
-- a block of a run that was read is the block of the file
pub run_block : (a bytes : List ℕ) (start count size k : ℕ) → bytes ≡ take size (drop start a)
    → size ≡ min (512 * count) (length a - start) → start ≤ length a
    → 512 * k < size → block 512 bytes (512 * k) ≡ block 512 a (start + 512 * k)
unfolding block
run_block a bytes start count size k is size_is inside l =
    let zs : List ℕ = drop start a in
    let ws : List ℕ = drop (start + 512 * k) a in
    let n : ℕ = size - 512 * k in
    let behind : drop (512 * k) zs ≡ ws = drop-drop (512 * k) start a ∙ ap (λ m. drop m a) (omega arith) in
    let here : drop (512 * k) bytes ≡ take n ws = ap (drop (512 * k)) is ∙ drop_cut (512 * k) size zs
    ∙ ap (take n) behind in
    let long : length ws ≡ length a - (start + 512 * k) = length-drop (start + 512 * k) a in
    let same : take 512 (take n ws) ≡ take 512 ws =
    elim (cases_lt n 512) [
      | inl less ↦ ap (take 512) (take_all n ws (omega (arith, long, size_is, less, l)))
      | inr all ↦ take-take 512 n ws all
    ] in
    let left : 512 - length (take n ws) ≡ 512 - length ws = omega (arith, length-take n ws, long, size_is, l) in
    (λ i. take 512 (here i) ++ replicate (512 - length (here i)) 0) ∙ (λ i. same i ++ replicate (left i) 0)

whole_front : (a : List ℕ) → length a ≡ 512 → block 512 a 0 ≡ a
unfolding block
whole_front a long =
    let none : 512 - length a ≡ 0 = omega (arith, long) in
    (λ i. take_all 512 a (omega (arith, long)) i ++ replicate (none i) 0) ∙ append-nil a

-- a block of what is a block
block_again : (pool : List ℕ) (at m : ℕ) → 512 ≤ m → block 512 (take m (block 512 pool at)) 0 ≡ block 512 pool at
block_again pool at m all =
    let a : List ℕ = block 512 pool at in
    let long : length a ≡ 512 = length_block 512 pool at in
    ap (λ xs. block 512 xs 0) (take_all m a (omega (arith, long, all))) ∙ whole_front a long

-- Blocks that stand one after another in the pool: block `place k` of the file is the k-th of them.
module _ (len : ℕ) (pool places bytes run : List ℕ) (place : ℕ → ℕ) (count at : ℕ) (h : IsPlaced len pool places)
    (is : placed len pool places ≡ bytes)
    (inside : (k : ℕ) → k < count → place k < len / 512) (turns : (k : ℕ) → k < count
    → get_or places (place k) 0 ≡ at + 512 * k)
    (run_is : run ≡ take (512 * count) (drop at pool)) where
  in_pool : (k : ℕ) → k < count → at + 512 * k + 512 ≤ length pool
  in_pool k l = omega (arith, turns k l, h.inside (place k) 0 (omega (arith, inside k l, h.enough)))

  pub run_each : (k : ℕ) → k < count → block 512 run (512 * k) ≡ block 512 bytes (512 * place k)
  run_each k l =
      let there : place k < length places = omega (arith, inside k l, h.enough) in
      let last : at + 512 * (count - 1) + 512 ≤ length pool = in_pool (count - 1) (omega (arith, l)) in
      run_block pool run at count (512 * count) k run_is (omega (arith, last, l)) (omega (arith, last))
      (omega (arith, l))
      ∙ ap (block 512 pool) (sym (turns k l))
      ∙ sym (block_again pool (get_or places (place k) 0) (len - 512 * place k) (omega (arith, inside k l)))
      ∙ sym (block_placed len pool places (place k) there)
      ∙ ap (λ xs. block 512 xs (512 * place k)) is

-- ---- a block that is added to others
-- the first bytes of a block with zeros behind them
pub block_cut : (xs : List ℕ) (size : ℕ) → length xs ≡ size → size ≤ 512
    → xs ++ replicate (512 - size) 0 ≡ block 512 xs 0
unfolding block
block_cut xs size long few =
    (λ i. sym (take_all 512 xs (omega (arith, long, few))) i ++ replicate (512 - sym long i) 0)

-- what was pushed, and zeros up to a block
pub pushed : (out mid new part : List ℕ) (size end count : ℕ) → mid ≡ out ++ part → length part ≡ size → size ≤ 512
    → end ≡ length out + 512
    → count ≡ length mid → new ≡ take end mid ++ replicate (end - count) 0 → new ≡ out ++ block 512 part 0
pushed out mid new part size end count mid_is part_long few end_is count_is new_is =
    let long : length mid ≡ length out + size = omega (arith, ap length mid_is, length-append out part, part_long) in
    let all : take end mid ≡ out ++ part = take_all end mid (omega (arith, long, end_is, few)) ∙ mid_is in
    let left : end - count ≡ 512 - size = omega (arith, long, end_is, count_is) in
    new_is ∙ (λ i. all i ++ replicate (left i) 0) ∙ append_assoc out part (replicate (512 - size) 0)
    ∙ ap (λ xs. out ++ xs) (block_cut part size part_long few)

-- a block that is looked at, where the file has it and where not
pub part_at : (len : ℕ) (pool places bytes : List ℕ) (n at size : ℕ) → IsPlaced len pool places
    → placed len pool places ≡ bytes
    → at ≡ get_or places n 0 → size ≡ min (len - 512 * n) 512 → block 512 (take size (drop at pool)) 0
    ≡ block 512 bytes (512 * n)
part_at len pool places bytes n at size h is at_is size_is =
    elim (cases_lt (512 * n) len) [
      | inl inside ↦
          let e : size ≡ at + size - at = omega arith in
          ap (λ c. block 512 (take c (drop at pool)) 0) e
          ∙ part_here len pool places bytes n at size h is (omega (arith, inside, h.enough)) at_is size_is
      | inr past ↦
          let e : size ≡ 0 = omega (arith, size_is, past) in
          ap (λ c. block 512 (take c (drop at pool)) 0) e ∙ part_past len pool places bytes n h is past
    ]

-- so many bytes are there
pub part_fits : (len : ℕ) (pool places : List ℕ) (n at size : ℕ) → IsPlaced len pool places → at ≡ get_or places n 0
    → size ≡ min (len - 512 * n) 512
    → at + size ≤ length pool
part_fits len pool places n at size h at_is size_is =
    elim (cases_lt n (length places)) [
      | inl l ↦ omega (arith, at_is, size_is, h.inside n 0 l)
      | inr past ↦ omega (arith, at_is, size_is, h.enough, past, get_or_past places n 0 past)
    ]
