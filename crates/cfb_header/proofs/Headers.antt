-- What a header's bytes say.
use Rattle.std.proofs.Common.{append-nil, inl, inr, min, ◌≡◌, ◌<◌, ◌≤◌, ◌+◌, ◌++◌, ◌-◌, ◌*◌, ℕ, List, [], Bool, false}
use Rattle.std.proofs.Common.{cond, not, nat_lt, nat_eq, Ok, length, take, drop, replicate, get_or, map, refl, sym, ap}
use Rattle.std.proofs.Common.{◌∙◌, arith}
use Rattle.std.specs.List.{range_with_len, starts_with, flat_map}
use Rattle.std.specs.Int.{w16, w32, to_le_bytes}
use Rattle.std.proofs.lemmas.List.FromFn.{fill_by_all, take-map-range_with_len}
use Rattle.std.proofs.lemmas.Bool.{cases_lt}
use Rattle.std.proofs.Math.Seq.{take-append_seam}
use Rattle.std.proofs.lemmas.List.{drop_all, length-replicate, length-take, take_all, take_min}
use Rattle.std.proofs.lemmas.Bool.Decides.{Decides-eqb, nat_tests}
use Rattle.std.proofs.lemmas.Slice.Eq.{slice_eq-Decides}
use Rattle.cfb_header.specs.Bytes.{u16_at, u32_at}
use Rattle.cfb_header.specs.Header.{HeaderValue, IsHeader, header_bytes, header_read, header_of, signature, fat_count}
use Rattle.cfb_header.specs.Header.{difat_count, MOST_FAT_SECTORS, MOST_DIFAT_SECTORS}
use borrow.Rule.Slice.PartMut.{put_mid}

-- the front of a list that is known at each index
pub take_by_index : (f : ℕ → ℕ) (xs : List ℕ) (m n : ℕ) → length xs ≡ m → n ≤ m
    → ((k : ℕ) → k < m → get_or xs k 0 ≡ f k) → take n xs ≡ map f (range_with_len 0 n)
take_by_index f xs m n len le each =
    ap (take n) (fill_by_all f xs m 0 len each) ∙ take-map-range_with_len f 0 m n le

-- and of one that has 109
pub first_by_index : (f : ℕ → ℕ) (xs : List ℕ) (n : ℕ) → length xs ≡ 109
    → ((k : ℕ) → k < 109 → get_or xs k 0 ≡ f k) → take n xs ≡ map f (range_with_len 0 (min n 109))
first_by_index f xs n len each =
    elim (cases_lt n 109) [
      | inl less ↦ let e : min n 109 ≡ n = omega (arith, less) in
          take_by_index f xs 109 n len (omega (arith, less)) each ∙ ap (λ m. map f (range_with_len 0 m)) (sym e)
      | inr more ↦ let e : min n 109 ≡ 109 = omega (arith, more) in let le : length xs ≤ n = omega (arith, len, more) in
          take_all n xs le ∙ sym (take_all 109 xs (omega (arith, len)))
          ∙ take_by_index f xs 109 109 len (omega arith) each ∙ ap (λ m. map f (range_with_len 0 m)) (sym e)
    ]

-- the front of a list, in a list of 109
pub first_listed_is : (fat part : List ℕ) (count : ℕ) → count ≡ min (length fat) 109 → part ≡ take count fat
    → take (length fat) (part ++ drop count (replicate 109 0)) ≡ take 109 fat
first_listed_is fat part count e is =
    let m : min (length fat) 109 ≡ min 109 (length fat) = omega arith in
    let all : part ≡ take 109 fat = is ∙ ap (λ n. take n fat) (e ∙ m) ∙ take_min 109 fat in
    let long : length part ≡ min 109 (length fat) = ap (λ (xs : List ℕ). length xs) all ∙ length-take 109 fat in
    elim (cases_lt (length fat) 109) [
      | inl less ↦
          let same : length fat ≡ length part = omega (arith, long, less) in
          ap (λ n. take n (part ++ drop count (replicate 109 0))) same
          ∙ take-append_seam part (drop count (replicate 109 0)) ∙ all
      | inr more ↦
          let none : drop count (replicate 109 0) ≡ [] = drop_all count (replicate 109 0)
          (omega (arith, e, more, length-replicate {A = ℕ} 109 0)) in
          let le : length part ≤ length fat = omega (arith, long, more) in
          ap (λ xs. take (length fat) (part ++ xs)) none ∙ ap (take (length fat)) (append-nil part)
          ∙ take_all (length fat) part le ∙ all
    ]

pub cond_false : {X : Type 0} (b : Bool) (x y : X) → b ≡ false → cond b x y ≡ y
cond_false b x y e = rw e refl

is_not_lt : (a b : ℕ) → b ≤ a → nat_lt a b ≡ false
is_not_lt a b h = grind (arith, nat_tests)

is_eq : (a b : ℕ) → a ≡ b → not (nat_eq a b) ≡ false
is_eq a b h = grind (arith, nat_tests)

-- a file with the fixed fields has this header
pub read_whole : (file : List ℕ) → IsHeader file → header_read file ≡ Ok (header_of file)
read_whole file h =
    cond_false (nat_lt (length file) 512) _ _ (is_not_lt (length file) 512 h.whole)
    ∙ cond_false (not (starts_with nat_eq file signature)) _ _
    (ap not ((slice_eq-Decides Decides-eqb signature (take 8 file) (starts_with nat_eq file signature) refl).1
    (sym h.signed)))
    ∙ cond_false (not (nat_eq (u16_at file 26) 3)) _ _ (is_eq (u16_at file 26) 3 h.major_version)
    ∙ cond_false (not (nat_eq (u16_at file 28) 0xFFFE)) _ _ (is_eq (u16_at file 28) 0xFFFE h.byte_order)
    ∙ cond_false (not (nat_eq (u16_at file 30) 9)) _ _ (is_eq (u16_at file 30) 9 h.sector_shift)
    ∙ cond_false (not (nat_eq (u16_at file 32) 6)) _ _ (is_eq (u16_at file 32) 6 h.mini_sector_shift)
    ∙ cond_false (not (nat_eq (u32_at file 56) 4096)) _ _ (is_eq (u32_at file 56) 4096 h.cutoff)
    ∙ cond_false (nat_lt MOST_FAT_SECTORS (fat_count file)) _ _
    (is_not_lt MOST_FAT_SECTORS (fat_count file) h.fat_sectors)
    ∙ cond_false (nat_lt MOST_DIFAT_SECTORS (difat_count file)) _ _
    (is_not_lt MOST_DIFAT_SECTORS (difat_count file) h.difat_sectors)

-- a list with a part written into it
abbrev pub put : ℕ → List ℕ → List ℕ → List ℕ
put at part bytes = take at bytes ++ part ++ drop (at + length part) bytes

-- the fields as they are written one after another
abbrev pub fields_of : (count directory mini_fat minis difat difats : ℕ) → List ℕ
fields_of count directory mini_fat minis difat difats =
    put 72 (to_le_bytes w32 difats)
    (put 68 (to_le_bytes w32 difat) (put 64 (to_le_bytes w32 minis) (put 60 (to_le_bytes w32 mini_fat)
    (put 56 (to_le_bytes w32 4096) (put 48 (to_le_bytes w32 directory) (put 44 (to_le_bytes w32 count)
    (put 32 (to_le_bytes w16 6) (put 30 (to_le_bytes w16 9) (put 28 (to_le_bytes w16 0xFFFE) (put 26 (to_le_bytes w16 3)
    (put 24 (to_le_bytes w16 0x3E) (put 0 signature (replicate 512 0)))))))))))))

abbrev pub fields : HeaderValue → List ℕ
fields h = fields_of h.fat_count h.first_directory h.first_mini_fat h.mini_fat_count h.first_difat h.difat_count

-- and the list behind them
pub fields_written : (h : HeaderValue) (bytes entries : List ℕ) → bytes ≡ fields h
    → entries ≡ flat_map (to_le_bytes w32) h.fat ++ replicate (length (take 436 (drop 76 bytes)) - 4 * length h.fat) 255
    → put_mid 76 436 bytes entries ≡ header_bytes h
unfolding header_bytes
fields_written h bytes entries e f =
    let list : List ℕ = flat_map (to_le_bytes w32) h.fat ++ replicate (436 - 4 * length h.fat) 255 in
    let g : entries ≡ list =
    f ∙ ap (λ b. flat_map (to_le_bytes w32) h.fat ++ replicate (length (take 436 (drop 76 b)) - 4 * length h.fat)
    255) e in
    (λ i. put_mid 76 436 (e i) (g i)) ∙ ap (λ x. take 76 (fields h) ++ x) (append-nil list)
