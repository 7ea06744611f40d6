-- The bytes of entries that are held in less memory.
use Rattle.std.proofs.Common.{◌%◌, ◌^◌, Bool, true, false, not, cond, eqb, eqb-true, map, bit_or, ◌≡◌, ◌<◌, ◌≤◌, ◌+◌}
use Rattle.std.proofs.Common.{◌-◌, ◌*◌, ◌/◌, inl, inr, min, ℕ, zero, suc, List, [], ◌∷◌, ◌++◌, length, take, drop}
use Rattle.std.proofs.Common.{replicate, get_or, refl, sym, ◌∙◌, ap, arith, append_assoc, drop-drop, length-append}
use Rattle.std.proofs.Common.{length-drop}
use Rattle.std.proofs.lemmas.Nat.{and_le_l, and_le_r}
use Rattle.std.proofs.lemmas.List.{length-map, drop-append-le, append-nil, drop-replicate, get_or-drop, get_or-take}
use Rattle.std.proofs.lemmas.List.{length-replicate, length-take, length-take-le, take-append-drop, take-append-le}
use Rattle.std.proofs.lemmas.List.{take_all}
use Rattle.std.proofs.lemmas.Simd.{length-zip2, mask_l-mod, pick_l-range_with_len, pick_l_whole, put_chunk_whole}
use lib.Bits.{or_add_and}
use lib.Lanes.{mask_l, pick_l, put_chunk, top, zip2}
use Rattle.std.proofs.Math.ListN.{get_or-append}
use Rattle.std.proofs.Math.Seq.{drop-append-add, take-append-add}
use Rattle.std.proofs.lemmas.Bool.{cases_lt}
use Rattle.std.proofs.lemmas.Grind.{flat_map-append}
use Rattle.std.specs.Prelude.{slice_set}
use Rattle.std.specs.List.{flat_map, range_with_len}
use Rattle.std.specs.Int.{from_le_bytes, w32}
use Rattle.cfb_bytes.specs.Bytes.{block, u32_at}
use Rattle.read_packed.specs.Packed.{IsShort, entry_of, evens, odds, spelled, unit}
use Rattle.read_packed.specs.declared.packed.Short.{Short}
use Rattle.read_packed.specs.declared.packed.Slot.{Slot}
use Rattle.read_packed.specs.declared.packed.Slot.TheVariants.{Named, Packed, Whole}
use Rattle.read_packed.specs.Named.{NamedValue, characters_of, laid_out, named_bytes}

-- ---- characters
pub length_units : (name : List ℕ) → length (flat_map unit name) ≡ 2 * length name
length_units [] = refl
length_units (c ∷ name) = omega (arith, length_units name)

-- an entry, its parts where they stand
pub placed : (name head place : List ℕ) → flat_map unit name ++ (head ++ (replicate 36 0 ++ (place ++ replicate 5 0)))
    ≡ flat_map unit name ++ head ++ replicate 36 0 ++ place ++ replicate 5 0
placed name head place =
    let units : List ℕ = flat_map unit name in
    let zeros : List ℕ = replicate 36 0 in
    let rest : List ℕ = replicate 5 0 in
    sym (append_assoc units head (zeros ++ (place ++ rest)))
    ∙ sym (append_assoc (units ++ head) zeros (place ++ rest))
    ∙ sym (append_assoc (units ++ head ++ zeros) place rest)

-- ---- entries
pub length_block : (w : ℕ) (bytes : List ℕ) (at : ℕ) → length (block w bytes at) ≡ w
unfolding block
length_block w bytes at =
    let rest : List ℕ = drop at bytes in
    length-append (take w rest) (replicate (w - length rest) 0)
    ∙ (λ i. length-take w rest i + length-replicate {A = ℕ} (w - length rest) 0 i)
    ∙ omega arith

-- what has the size of a block is one
pub block_whole : (w : ℕ) (bytes : List ℕ) → length bytes ≡ w → block w bytes 0 ≡ bytes
unfolding block
block_whole w bytes long =
    let none : w - length bytes ≡ 0 = omega (arith, long) in
    (λ i. take_all w bytes (omega (arith, long)) i ++ replicate (none i) 0) ∙ append-nil bytes

-- all parts of an entry make it up
pub length_laid : (characters head place : List ℕ) → length characters ≡ 32 → length head ≡ 16 → length place ≡ 7
    → length (laid_out characters head place) ≡ 128
length_laid characters head place n h p =
    let units : List ℕ = flat_map unit characters in
    let zeros : List ℕ = replicate 36 0 in
    length-append (units ++ head ++ zeros ++ place) (replicate 5 0)
    ∙ omega (
      arith,
      length-append (units ++ head ++ zeros) place,
      length-append (units ++ head) zeros,
      length-append units head,
      length_units characters,
      n,
      h,
      p,
    )

pub length_spelled : (s : Short) → length s.name ≡ 32 → length s.head ≡ 16 → length s.place ≡ 7
    → length (spelled s) ≡ 128
unfolding spelled
length_spelled s n h p = length_laid s.name s.head s.place n h p

-- the first bytes, and then zeros
pub fronted : (bytes : List ℕ) (n : ℕ) → n ≡ min (length bytes) 128 → take n bytes ++ drop n (replicate 128 0)
    ≡ block 128 bytes 0
unfolding block
fronted bytes n is =
    let part : take n bytes ≡ take 128 bytes =
    elim (cases_lt (length bytes) 128) [
      | inl less ↦ take_all n bytes (omega (arith, is, less)) ∙ sym (take_all 128 bytes (omega (arith, less)))
      | inr all ↦ let e : n ≡ 128 = omega (arith, is, all) in ap (λ k. take k bytes) e
    ] in
    let zeros : 128 - n ≡ 128 - length bytes = omega (arith, is) in
    (λ t. part t ++ drop-replicate n 128 0 t) ∙ ap (λ k. take 128 bytes ++ replicate k 0) zeros

pub length_named : (n : NamedValue) → length (named_bytes n) ≡ 128
unfolding named_bytes
length_named n = length_block 128 (laid_out (characters_of n.name) n.head n.place) 0

pub length_entry : (slot : Slot) → length (entry_of slot) ≡ 128
length_entry (Packed s) = length_block 128 (spelled s) 0
length_entry (Named n) = length_named n
length_entry (Whole bytes) = length_block 128 bytes.items 0

pub length_entries : (slots : List Slot) → length (flat_map entry_of slots) ≡ 128 * length slots
length_entries [] = omega arith
length_entries (slot ∷ slots) =
    length-append (entry_of slot) (flat_map entry_of slots) ∙ omega (arith, length_entry slot, length_entries slots)

-- the bytes from an entry on
drop_entries : (slots : List Slot) (k : ℕ) (d : Slot) → k < length slots
    → drop (128 * k) (flat_map entry_of slots) ≡ entry_of (get_or slots k d) ++ flat_map entry_of (drop (suc k) slots)
drop_entries [] k d l = absurd (omega arith)
drop_entries (slot ∷ slots) zero d l = let e : 128 * 0 ≡ 0 = omega arith in
    ap (λ n. drop n (flat_map entry_of (slot ∷ slots))) e
drop_entries (slot ∷ slots) (suc k) d l =
    let first : List ℕ = entry_of slot in
    let rest : List ℕ = flat_map entry_of slots in
    let e : 128 * suc k ≡ length first + 128 * k = omega (arith, length_entry slot) in
    ap (λ n. drop n (first ++ rest)) e ∙ drop-append-add first rest (128 * k) ∙ drop_entries slots k d (omega arith)

-- an entry stands where its number says
pub entry_there : (slots : List Slot) (k : ℕ) (d : Slot) → k < length slots
    → block 128 (flat_map entry_of slots) (128 * k) ≡ entry_of (get_or slots k d)
unfolding block
entry_there slots k d l =
    let first : List ℕ = entry_of (get_or slots k d) in
    let rest : List ℕ = flat_map entry_of (drop (suc k) slots) in
    let long : length first ≡ 128 = length_entry (get_or slots k d) in
    let here : drop (128 * k) (flat_map entry_of slots) ≡ first ++ rest = drop_entries slots k d l in
    let none : 128 - length (first ++ rest) ≡ 0 = omega (arith, length-append first rest, long) in
    (λ i. take 128 (here i) ++ replicate (128 - length (here i)) 0)
    ∙ (λ i. take 128 (first ++ rest) ++ replicate (none i) 0)
    ∙ append-nil (take 128 (first ++ rest))
    ∙ take-append-le 128 first rest (omega (arith, long))
    ∙ take_all 128 first (omega (arith, long))

-- the first entries have the first bytes
pub take_entries : (slots : List Slot) (n : ℕ) → n ≤ length slots → flat_map entry_of (take n slots)
    ≡ take (128 * n) (flat_map entry_of slots)
take_entries slots zero l = let e : 128 * 0 ≡ 0 = omega arith in ap (λ n. take n (flat_map entry_of slots)) (sym e)
take_entries [] (suc n) l = absurd (omega arith)
take_entries (slot ∷ slots) (suc n) l =
    let first : List ℕ = entry_of slot in
    let rest : List ℕ = flat_map entry_of slots in
    let e : 128 * suc n ≡ length first + 128 * n = omega (arith, length_entry slot) in
    ap (λ xs. first ++ xs) (take_entries slots n (omega arith)) ∙ sym (take-append-add first rest (128 * n))
    ∙ ap (λ m. take m (first ++ rest)) (sym e)

-- a byte of a block is the byte of the whole
pub byte_there : (bytes : List ℕ) (s j : ℕ) → j < 128 → s + j < length bytes
    → get_or (block 128 bytes s) j 0 ≡ get_or bytes (s + j) 0
unfolding block
byte_there bytes s j few inside =
    let rest : List ℕ = drop s bytes in
    let there : j < length (take 128 rest) = omega (arith, few, inside, length-take 128 rest, length-drop s bytes) in
    get_or-append (take 128 rest) (replicate (128 - length rest) 0) 0 j there ∙ get_or-take 128 rest j 0 few
    ∙ get_or-drop s bytes j 0

-- an entry more of some that are added
pub entry_more : (old bytes : List ℕ) (k : ℕ) → k < length bytes / 128
    → (old ++ take (128 * k) bytes) ++ take 128 (drop (128 * k) bytes) ≡ old ++ take (128 * (k + 1)) bytes
entry_more old bytes k less =
    let front : length (take (128 * k) bytes) ≡ 128 * k = omega (arith, less, length-take (128 * k) bytes) in
    let n : 128 * (k + 1) ≡ length (take (128 * k) bytes) + 128 = omega (arith, front) in
    let whole : take (128 * k) bytes ++ drop (128 * k) bytes ≡ bytes = take-append-drop (128 * k) bytes in
    append_assoc old (take (128 * k) bytes) (take 128 (drop (128 * k) bytes))
    ∙ ap (λ xs. old ++ xs)
    (sym (take-append-add (take (128 * k) bytes) (drop (128 * k) bytes) 128)
    ∙ (λ t. take (sym n t) (whole t)))

-- what was there before some of them were added
pub back : (old more : List ℕ) (slots : List Slot) (n : ℕ) → flat_map entry_of slots ≡ old ++ more
    → 128 * n ≡ length old
    → flat_map entry_of (take n slots) ≡ old
back old more slots n is long =
    let few : n ≤ length slots = omega (arith, long, length_entries slots, ap length is, length-append old more) in
    take_entries slots n few ∙ ap (take (128 * n)) is ∙ ap (λ m. take m (old ++ more)) long
    ∙ take-append-le (length old) old more (omega arith) ∙ take_all (length old) old (omega arith)

-- ---- numbers in the head of an entry
pub head_cut : (characters head place : List ℕ) → length characters ≡ 32 → length head ≡ 16 → length place ≡ 7
    → (at m : ℕ) → at + m ≤ 16
    → take m (drop (64 + at) (block 128 (laid_out characters head place) 0)) ≡ take m (drop at head)
head_cut characters head place n h p at m few =
    let units : List ℕ = flat_map unit characters in
    let tail : List ℕ = replicate 36 0 ++ (place ++ replicate 5 0) in
    let whole : block 128 (laid_out characters head place) 0 ≡ units ++ (head ++ tail) =
    block_whole 128 (laid_out characters head place) (length_laid characters head place n h p)
    ∙ sym (placed characters head place) in
    let start : 64 + at ≡ length units + at = omega (arith, length_units characters, n) in
    let cut : drop (64 + at) (units ++ (head ++ tail)) ≡ drop at head ++ tail =
    ap (λ k. drop k (units ++ (head ++ tail))) start ∙ drop-append-add units (head ++ tail) at
    ∙ drop-append-le at head tail (omega (arith, few, h)) in
    ap (λ xs. take m (drop (64 + at) xs)) whole ∙ ap (take m) cut ∙ take-append-le m (drop at head) tail
    (omega (arith, few, h, length-drop at head))

pub in_head : (s : Short) (at : ℕ) → length s.name ≡ 32 → length s.head ≡ 16 → length s.place ≡ 7 → 64 ≤ at
    → at + 4 ≤ 80
    → u32_at s.head (at - 64) ≡ u32_at (block 128 (spelled s) 0) at
unfolding spelled u32_at
in_head s at n h p from to =
    let place : 64 + (at - 64) ≡ at = omega (arith, from) in
    ap (from_le_bytes w32)
    (sym (head_cut s.name s.head s.place n h p (at - 64) 4 (omega (arith, from, to)))
    ∙ ap (λ k. take 4 (drop k (block 128 (laid_out s.name s.head s.place) 0))) place)

-- ---- sixteen bytes at a time

-- sixteen bytes that are laid over others
pub put_over : (old piece : List ℕ) (at k : ℕ) → k ≡ 16 → length piece ≡ 16 → at + 16 ≤ length old
    → take at old ++ (put_chunk 0 (take k (drop at old)) piece ++ drop k (drop at old)) ≡ take at old ++ piece
    ++ drop (at + 16) old
put_over old piece at k sixteen long room =
    let part : List ℕ = take k (drop at old) in
    let fits : length part ≡ length piece =
    omega (arith, sixteen, long, room, length-take k (drop at old), length-drop at old) in
    let behind : drop k (drop at old) ≡ drop (at + 16) old = drop-drop k at old ∙ ap (λ n. drop (at + n) old) sixteen in
    (λ t. take at old ++ (put_chunk_whole part piece fits t ++ behind t))
    ∙ sym (append_assoc (take at old) piece (drop (at + 16) old))

-- what stands from the place on at which bytes are laid
pub laid_from : (old new piece : List ℕ) (at n : ℕ) → n ≡ at + length piece → n ≤ length old
    → new ≡ take at old ++ piece ++ drop n old
    → drop at new ≡ piece ++ drop n old
laid_from old new piece at n end room is =
    let long : at ≡ length (take at old) + 0 =
    omega (arith, end, room, length-take-le at old (omega (arith, end, room))) in
    ap (drop at) (is ∙ append_assoc (take at old) piece (drop n old))
    ∙ ap (λ k. drop k (take at old ++ (piece ++ drop n old))) long
    ∙ drop-append-add (take at old) (piece ++ drop n old) 0

-- a list by its elements
pub by_elements : (xs : List ℕ) (n : ℕ) → length xs ≡ n → xs ≡ pick_l 0 xs (range_with_len 0 n)
by_elements xs n long = sym (pick_l_whole 0 xs n long)

-- sixteen characters, each with a zero behind it
pub widened : (xs : List ℕ) → length xs ≡ 16
    → pick_l 0 (xs ++ replicate 16 0) (0 ∷ 16 ∷ 1 ∷ 17 ∷ 2 ∷ 18 ∷ 3 ∷ 19 ∷ 4 ∷ 20 ∷ 5 ∷ 21 ∷ 6 ∷ 22 ∷ 7 ∷ 23 ∷ [])
    ++ pick_l 0 (xs ++ replicate 16 0) (8 ∷ 24 ∷ 9 ∷ 25 ∷ 10 ∷ 26 ∷ 11 ∷ 27 ∷ 12 ∷ 28 ∷ 13 ∷ 29 ∷ 14 ∷ 30 ∷ 15 ∷ 31
    ∷ [])
    ≡ flat_map unit xs
widened xs long =
    let is : xs ≡ pick_l 0 xs (range_with_len 0 16) = by_elements xs 16 long in
    (λ t. pick_l 0 (is t ++ replicate 16 0) (0 ∷ 16 ∷ 1 ∷ 17 ∷ 2 ∷ 18 ∷ 3 ∷ 19 ∷ 4 ∷ 20 ∷ 5 ∷ 21 ∷ 6 ∷ 22 ∷ 7 ∷ 23 ∷ [])
    ++ pick_l 0 (is t ++ replicate 16 0) (8 ∷ 24 ∷ 9 ∷ 25 ∷ 10 ∷ 26 ∷ 11 ∷ 27 ∷ 12 ∷ 28 ∷ 13 ∷ 29 ∷ 14 ∷ 30 ∷ 15
    ∷ 31 ∷ []))
    ∙ (λ t. flat_map unit (sym is t))

-- the parts of an entry, its name in four pieces
pub pieced : (name head rest a b c d h : List ℕ) → length name ≡ 32 → length head ≡ 16
    → a ++ b ≡ flat_map unit (take 16 (drop 0 name))
    → c ++ d ≡ flat_map unit (take 16 (drop 16 name)) → h ≡ take 16 (drop 0 head)
    → a ++ (b ++ (c ++ (d ++ (h ++ rest)))) ≡ flat_map unit name ++ (head ++ rest)
pieced name head rest a b c d h n hl first second third =
    let low : List ℕ = take 16 name in
    let high : List ℕ = take 16 (drop 16 name) in
    let last : high ≡ drop 16 name = take_all 16 (drop 16 name) (omega (arith, n, length-drop 16 name)) in
    let whole : low ++ high ≡ name = (λ t. low ++ last t) ∙ take-append-drop 16 name in
    let whole_head : h ≡ head = third ∙ take_all 16 head (omega (arith, hl)) in
    sym (append_assoc a b (c ++ (d ++ (h ++ rest))))
    ∙ (λ t. first t ++ sym (append_assoc c d (h ++ rest)) t)
    ∙ (λ t. flat_map unit low ++ (second t ++ (whole_head t ++ rest)))
    ∙ sym (append_assoc (flat_map unit low) (flat_map unit high) (head ++ rest))
    ∙ (λ t. sym (flat_map-append unit low high) t ++ (head ++ rest))
    ∙ (λ t. flat_map unit (whole t) ++ (head ++ rest))

-- the place of an entry's stream, laid into zeros byte by byte
abbrev pub with_place : List ℕ → List ℕ
with_place place =
    slice_set
    (slice_set
    (slice_set
    (slice_set
    (slice_set
    (slice_set (slice_set (replicate 128 0) 116 (get_or place 0 0)) 117 (get_or place 1 0))
    118
    (get_or place 2 0))
    119
    (get_or place 3 0))
    120
    (get_or place 4 0))
    121
    (get_or place 5 0))
    122
    (get_or place 6 0)

pub place_there : (place : List ℕ) → length place ≡ 7 → drop 80 (with_place place) ≡ replicate 36 0
    ++ (place ++ replicate 5 0)
place_there place long = λ t. replicate 36 0 ++ (pick_l_whole 0 place 7 long t ++ replicate 5 0)

-- ---- what is kept of an entry

-- numbers at even places, all others being zero
spread : (n : ℕ) (xs : List ℕ) → length xs ≡ n + n → odds xs ≡ replicate n 0 → flat_map unit (evens xs) ≡ xs
spread zero [] long zeros = refl
spread zero (x ∷ xs) long zeros = absurd (omega arith)
spread (suc n) [] long zeros = absurd (omega arith)
spread (suc n) (x ∷ []) long zeros = absurd (omega arith)
spread (suc n) (x ∷ y ∷ xs) long zeros =
    let head : y ≡ 0 = ap (λ ys. get_or ys 0 0) zeros in
    let rest : odds xs ≡ replicate n 0 = ap (drop 1) zeros in
    λ t. x ∷ sym head t ∷ spread n xs (omega (arith, long)) rest t

-- sixty-four numbers, parted as vectors part them
pub parted_lower : (entry : List ℕ) → length entry ≡ 128
    → pick_l 0 (take 32 (drop 0 entry) ++ take 32 (drop 32 entry)) (map (λ k. 2 * k) (range_with_len 0 32))
    ≡ evens (take 64 entry)
parted_lower entry long =
    let is : entry ≡ pick_l 0 entry (range_with_len 0 128) = by_elements entry 128 long in
    (λ t. pick_l 0 (take 32 (drop 0 (is t)) ++ take 32 (drop 32 (is t))) (map (λ k. 2 * k) (range_with_len 0 32)))
    ∙ (λ t. evens (take 64 (sym is t)))

pub parted_upper : (entry : List ℕ) → length entry ≡ 128
    → pick_l 0 (take 32 (drop 0 entry) ++ take 32 (drop 32 entry)) (map (λ k. 2 * k + 1) (range_with_len 0 32))
    ≡ odds (take 64 entry)
parted_upper entry long =
    let is : entry ≡ pick_l 0 entry (range_with_len 0 128) = by_elements entry 128 long in
    (λ t. pick_l 0 (take 32 (drop 0 (is t)) ++ take 32 (drop 32 (is t)))
    (map (λ k. 2 * k + 1) (range_with_len 0 32))) ∙ (λ t. odds (take 64 (sym is t)))

pub unplaced : (last : List ℕ) → length last ≡ 32
    → pick_l 0 (last ++ replicate 32 0) (range_with_len 0 20 ++ replicate 7 32 ++ range_with_len 27 5)
    ≡ take 20 last ++ replicate 7 0 ++ drop 27 last
unplaced last long =
    let is : last ≡ pick_l 0 last (range_with_len 0 32) = by_elements last 32 long in
    (λ t. pick_l 0 (is t ++ replicate 32 0) (range_with_len 0 20 ++ replicate 7 32 ++ range_with_len 27 5))
    ∙ (λ t. take 20 (sym is t) ++ replicate 7 0 ++ drop 27 (sym is t))

-- what two numbers make up is zero only where both are
or_zero : (a b : ℕ) → bit_or a b ≡ 0 → (a ≡ 0) × (b ≡ 0)
or_zero a b e = omega (arith, e, or_add_and a b, and_le_l a b, and_le_r a b)

pub both_zero : (n : ℕ) (xs ys : List ℕ) → length xs ≡ n → length ys ≡ n → zip2 bit_or xs ys ≡ replicate n 0
    → (xs ≡ replicate n 0) × (ys ≡ replicate n 0)
both_zero zero [] [] l m e = (refl, refl)
both_zero zero [] (y ∷ ys) l m e = absurd (omega arith)
both_zero zero (x ∷ xs) ys l m e = absurd (omega arith)
both_zero (suc n) [] ys l m e = absurd (omega arith)
both_zero (suc n) (x ∷ xs) [] l m e = absurd (omega arith)
both_zero (suc n) (x ∷ xs) (y ∷ ys) l m e =
    let here : (x ≡ 0) × (y ≡ 0) = or_zero x y (ap (λ zs. get_or zs 0 0) e) in
    let rest : (xs ≡ replicate n 0) × (ys ≡ replicate n 0) = both_zero n xs ys (omega (arith, l)) (omega (arith, m))
    (ap (drop 1) e) in
    (λ t. here.0 t ∷ rest.0 t, λ t. here.1 t ∷ rest.1 t)

-- no lane differs from zero
abbrev pub differs : ℕ → ℕ → ℕ
differs a b = cond (not (eqb a b)) 255 0

flag : (x : ℕ) → ◌≡◌ {A = ℕ} (cond (top 7 (differs x 0)) 1 0) 0 → x ≡ 0
flag x = go (eqb x 0) refl
  where
    go : (t : Bool) → eqb x 0 ≡ t → ◌≡◌ {A = ℕ} (cond (top 7 (cond (not t) 255 0)) 1 0) 0 → x ≡ 0
    go true e q = eqb-true _ _ e
    go false e q = absurd (omega arith)

none_differ : (n : ℕ) (xs : List ℕ) → length xs ≡ n → mask_l (map (top 7) (zip2 differs xs (replicate n 0))) ≡ 0
    → xs ≡ replicate n 0
none_differ zero [] l e = refl
none_differ zero (x ∷ xs) l e = absurd (omega arith)
none_differ (suc n) [] l e = absurd (omega arith)
none_differ (suc n) (x ∷ xs) l e =
    let here : x ≡ 0 = flag x (omega (arith, e)) in
    let rest : xs ≡ replicate n 0 = none_differ n xs (omega (arith, l)) (omega (arith, e)) in
    λ t. here t ∷ rest t

pub zero_of_mask : (xs : List ℕ) → length xs ≡ 32
    → eqb (mask_l (map (top 7) (zip2 differs xs (replicate 32 0))) % 2 ^ 64) 0 ≡ true → xs ≡ replicate 32 0
zero_of_mask xs long e =
    none_differ 32 xs long
    (sym
    (mask_l-mod _ 64
    (omega (
      arith,
      long,
      length-map (zip2 differs xs (replicate 32 0)) (top 7),
      length-zip2 differs xs
          (replicate 32 0) long,
    ))) ∙ eqb-true _ _ e)

-- the last quarter, of which all is zero but the place of a stream
last_is : (last : List ℕ) → length last ≡ 32 → take 20 last ++ replicate 7 0 ++ drop 27 last ≡ replicate 32 0
    → drop 16 last ≡ replicate 4 0 ++ (take 7 (drop 20 last) ++ replicate 5 0)
last_is last long zeros =
    let is : last ≡ pick_l 0 last (range_with_len 0 32) = by_elements last 32 long in
    let spelled : List ℕ = pick_l 0 last (range_with_len 0 32) in
    let clear : take 20 spelled ++ replicate 7 0 ++ drop 27 spelled ≡ replicate 32 0 =
    (λ t. take 20 (sym is t) ++ replicate 7 0 ++ drop 27 (sym is t)) ∙ zeros in
    ap (drop 16) is
    ∙ (λ t. take 4 (drop 16 (clear t)) ++ (take 7 (drop 20 spelled) ++ drop 27 (clear t)))
    ∙ (λ t. replicate 4 0 ++ (take 7 (drop 20 (sym is t)) ++ replicate 5 0))

-- an entry of which all else is zero is made up of what is kept
pub short : (entry : List ℕ) → length entry ≡ 128 → odds (take 64 entry) ≡ replicate 32 0
    → take 32 (drop 80 entry) ≡ replicate 32 0
    → take 20 (take 32 (drop 96 entry)) ++ replicate 7 0 ++ drop 27 (take 32 (drop 96 entry)) ≡ replicate 32 0
    → IsShort entry
short entry long upper dated last =
    let first : List ℕ = take 64 entry in
    let name : flat_map unit (evens first) ≡ first = spread 32 first (omega (arith, long, length-take 64 entry))
    upper in
    let head : List ℕ = take 16 (drop 64 entry) in
    let place : List ℕ = take 7 (drop 116 entry) in
    let rest : List ℕ = drop 96 entry in
    let whole : take 32 rest ≡ rest = take_all 32 rest (omega (arith, long, length-drop 96 entry)) in
    let ends : drop 16 rest ≡ replicate 4 0 ++ (take 7 (drop 20 rest) ++ replicate 5 0) =
    last_is rest (omega (arith, long, length-drop 96 entry))
    ((λ t. take 20 (sym whole t) ++ replicate 7 0 ++ drop 27 (sym whole t)) ∙ last) in
    let tail : drop 112 entry ≡ replicate 4 0 ++ (place ++ replicate 5 0) =
    sym (drop-drop 16 96 entry) ∙ ends ∙ (λ t. replicate 4 0 ++ (take 7 (drop-drop 20 96 entry t) ++ replicate 5 0)) in
    let behind : drop 80 entry ≡ replicate 36 0 ++ (place ++ replicate 5 0) =
    sym (take-append-drop 32 (drop 80 entry)) ∙ (λ t. dated t ++ drop-drop 32 80 entry t)
    ∙ (λ t. replicate 32 0 ++ tail t) in
    let all : drop 64 entry ≡ head ++ drop 80 entry = sym (take-append-drop 16 (drop 64 entry))
    ∙ (λ t. head ++ drop-drop 16 64 entry t) in
    sym (placed (evens first) head place)
    ∙ (λ t. name t ++ (head ++ sym behind t))
    ∙ (λ t. first ++ sym all t)
    ∙ take-append-drop 64 entry

-- an entry that is made up so is the one that is spelled out
pub short_spelled : (s : Short) (entry : List ℕ) → length entry ≡ 128 → s.name ≡ evens (take 64 entry)
    → s.head ≡ take 16 (drop 64 entry) → s.place ≡ take 7 (drop 116 entry)
    → IsShort entry → entry_of (Packed s) ≡ entry
unfolding spelled
short_spelled s entry long name head place is =
    let all : spelled s ≡ entry = (λ t. flat_map unit (name t) ++ head t ++ replicate 36 0 ++ place t
    ++ replicate 5 0) ∙ is in
    ap (λ xs. block 128 xs 0) all ∙ block_whole 128 entry long

pub place_read : (entry : List ℕ) → length entry ≡ 128
    → get_or entry 116 0 ∷ get_or entry 117 0 ∷ get_or entry 118 0 ∷ get_or entry 119 0 ∷ get_or entry 120 0
    ∷ get_or entry 121 0 ∷ get_or entry 122 0 ∷ []
    ≡ take 7 (drop 116 entry)
place_read entry long = pick_l-range_with_len 0 entry 116 7 (omega (arith, long))
