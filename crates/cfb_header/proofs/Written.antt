-- What a written header reads as.
use Rattle.std.proofs.Common.{◌≡◌, ◌<◌, ◌≤◌, ◌+◌, ◌-◌, ◌*◌, ◌^◌, ◌++◌, ◌∷◌, [], ℕ, zero, suc, List, Ok, length, drop}
use Rattle.std.proofs.Common.{get_or, map, replicate, refl, sym, subst, ap, ◌∙◌, arith, min, append_assoc}
use Rattle.std.proofs.Common.{length-append, length-drop}
use Rattle.std.proofs.Math.Seq.{drop-append-add}
use Rattle.std.proofs.lemmas.List.{length-replicate, drop-append-le, take-append-le}
use Rattle.std.proofs.lemmas.List.FromFn.{fill_by_all}
use Rattle.std.proofs.lemmas.Nat.{from_le_bytes-to_le_bytes_4}
use Rattle.std.specs.Int.{w32, to_le_bytes}
use Rattle.std.specs.List.{All, flat_map, range_with_len}
use Rattle.cfb_header.specs.Bytes.{u16_at, u32_at}
use Rattle.cfb_header.specs.Header.{FitsHeader, HeaderValue, IsHeader, MOST_DIFAT_SECTORS, MOST_FAT_SECTORS}
use Rattle.cfb_header.specs.Header.{difat_count, fat_count, first_difat, first_directory, first_mini_fat, header_bytes}
use Rattle.cfb_header.specs.Header.{header_of, header_read, listed_first, mini_fat_count, signature}
use Rattle.cfb_header.proofs.Headers.{read_whole}

-- a number lies in the front, or behind it
pub u32_at_front : (xs ys : List ℕ) (n : ℕ) → n + 4 ≤ length xs → u32_at (xs ++ ys) n ≡ u32_at xs n
unfolding u32_at
u32_at_front xs ys n h =
    let a : n ≤ length xs = omega arith in
    let b : 4 ≤ length (drop n xs) = omega (arith, length-drop n xs) in
    rw (drop-append-le n xs ys a, take-append-le 4 (drop n xs) ys b) refl

pub u32_at_behind : (xs ys : List ℕ) (n : ℕ) → u32_at (xs ++ ys) (length xs + n) ≡ u32_at ys n
unfolding u32_at
u32_at_behind xs ys n = rw drop-append-add refl

four : (x : ℕ) (ys : List ℕ) → x < 2 ^ 32 → u32_at (to_le_bytes w32 x ++ ys) 0 ≡ x
unfolding u32_at
four x ys fits = from_le_bytes-to_le_bytes_4 x fits

-- a number of a list of them
pub u32_at_number : (ns rest : List ℕ) (k : ℕ) → All (λ n. n < 2 ^ 32) ns → k < length ns
    → u32_at (flat_map (to_le_bytes w32) ns ++ rest) (4 * k) ≡ get_or ns k 0
u32_at_number [] rest k fits h = absurd (omega arith)
u32_at_number (n ∷ ns) rest zero fits h = four n (flat_map (to_le_bytes w32) ns ++ rest) (fits 0 0 (omega arith))
u32_at_number (n ∷ ns) rest (suc k) fits h =
    let e : 4 * suc k ≡ 4 + 4 * k = omega arith in
    rw e (u32_at_behind (to_le_bytes w32 n) (flat_map (to_le_bytes w32) ns ++ rest) (4 * k)
    ∙ u32_at_number ns rest k (λ i d l. fits (suc i) d (omega arith)) (omega arith))

-- the fields of a written header, before its list
abbrev pub front : HeaderValue → List ℕ
front h = signature ++ replicate 16 0
    ++ (0x3E ∷ 0 ∷ 3 ∷ 0 ∷ 0xFE ∷ 0xFF ∷ 9 ∷ 0 ∷ 6 ∷ 0 ∷ []) ++ replicate 10 0
    ++ to_le_bytes w32 h.fat_count ++ to_le_bytes w32 h.first_directory ++ replicate 4 0 ++ (0 ∷ 16 ∷ 0 ∷ 0 ∷ [])
    ++ to_le_bytes w32 h.first_mini_fat ++ to_le_bytes w32 h.mini_fat_count
    ++ to_le_bytes w32 h.first_difat ++ to_le_bytes w32 h.difat_count

pub length_numbers : (ns : List ℕ) → length (flat_map (to_le_bytes w32) ns) ≡ 4 * length ns
length_numbers [] = refl
length_numbers (n ∷ ns) = omega (arith, length_numbers ns)

pub length_written : (h : HeaderValue) → length h.fat ≤ 109 → length (header_bytes h) ≡ 512
unfolding header_bytes
length_written h le =
    let numbers : List ℕ = flat_map (to_le_bytes w32) h.fat in
    let free : List ℕ = replicate (436 - 4 * length h.fat) 255 in
    let a : length (numbers ++ free) ≡ length numbers + length free = length-append numbers free in
    let b : length free ≡ 436 - 4 * length h.fat = length-replicate (436 - 4 * length h.fat) 255 in
    let c : length numbers ≡ 4 * length h.fat = length_numbers h.fat in
    let d : 76 + length (numbers ++ free) ≡ 512 = omega (arith, a, b, c) in
    length-append (front h) (numbers ++ free) ∙ d

module _ (h : HeaderValue) (rest : List ℕ) (fits : FitsHeader h) where
  pub written_fat_count : fat_count (header_bytes h ++ rest) ≡ h.fat_count
  unfolding header_bytes u32_at
  written_fat_count = from_le_bytes-to_le_bytes_4 h.fat_count (omega (arith, fits.fat_count))

  pub written_first_directory : first_directory (header_bytes h ++ rest) ≡ h.first_directory
  unfolding header_bytes u32_at
  written_first_directory = from_le_bytes-to_le_bytes_4 h.first_directory fits.first_directory

  pub written_first_mini_fat : first_mini_fat (header_bytes h ++ rest) ≡ h.first_mini_fat
  unfolding header_bytes u32_at
  written_first_mini_fat = from_le_bytes-to_le_bytes_4 h.first_mini_fat fits.first_mini_fat

  pub written_first_difat : first_difat (header_bytes h ++ rest) ≡ h.first_difat
  unfolding header_bytes u32_at
  written_first_difat = from_le_bytes-to_le_bytes_4 h.first_difat fits.first_difat

  pub written_difat_count : difat_count (header_bytes h ++ rest) ≡ h.difat_count
  unfolding header_bytes u32_at
  written_difat_count = from_le_bytes-to_le_bytes_4 h.difat_count (omega (arith, fits.difat_count))

  pub written_mini_fat_count : mini_fat_count (header_bytes h ++ rest) ≡ h.mini_fat_count
  unfolding header_bytes u32_at
  written_mini_fat_count = from_le_bytes-to_le_bytes_4 h.mini_fat_count fits.mini_fat_count

  entry : (k : ℕ) → k < length h.fat → u32_at (header_bytes h ++ rest) (76 + 4 * k) ≡ get_or h.fat k 0
  unfolding header_bytes
  entry k l =
      let numbers : List ℕ = flat_map (to_le_bytes w32) h.fat in
      let free : List ℕ = replicate (436 - 4 * length h.fat) 255 in
      ap (λ x. u32_at x (76 + 4 * k)) (ap (λ x. front h ++ x) (append_assoc numbers free rest))
      ∙ u32_at_behind (front h) (numbers ++ (free ++ rest)) (4 * k)
      ∙ u32_at_number h.fat (free ++ rest) k fits.fat l

  pub written_listed : listed_first (header_bytes h ++ rest) ≡ h.fat
  written_listed =
      let f = λ (k : ℕ). u32_at (header_bytes h ++ rest) (76 + 4 * k) in
      ap (λ n. map f (range_with_len 0 (min n 109))) written_fat_count
      ∙ ap (λ n. map f (range_with_len 0 n)) (sym fits.listed)
      ∙ sym (fill_by_all f h.fat (length h.fat) 0 refl (λ k l. sym (entry k l)))

  pub written_is_header : IsHeader (header_bytes h ++ rest)
  unfolding header_bytes u32_at u16_at
  written_is_header = record {
    whole = omega (arith, length_written h (omega (arith, fits.listed)), length-append (header_bytes h) rest);
    signed = refl;
    major_version = refl;
    byte_order = refl;
    sector_shift = refl;
    mini_sector_shift = refl;
    cutoff = refl;
    fat_sectors = subst (λ n. n ≤ MOST_FAT_SECTORS) (sym written_fat_count) fits.fat_count;
    difat_sectors = subst (λ n. n ≤ MOST_DIFAT_SECTORS) (sym written_difat_count) fits.difat_count;
  }

  pub written_header : header_of (header_bytes h ++ rest) ≡ h
  written_header = λ i. record {
    fat_count = written_fat_count i;
    fat = written_listed i;
    first_difat = written_first_difat i;
    difat_count = written_difat_count i;
    first_directory = written_first_directory i;
    first_mini_fat = written_first_mini_fat i;
    mini_fat_count = written_mini_fat_count i;
  }

  pub written_read : header_read (header_bytes h ++ rest) ≡ Ok h
  written_read = read_whole (header_bytes h ++ rest) written_is_header ∙ ap Ok written_header
