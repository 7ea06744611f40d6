-- A header is read of a file's first 512 bytes, and of how long it is.
use Rattle.std.proofs.Common.{◌≡◌, ◌<◌, ◌≤◌, ◌+◌, ◌-◌, ◌*◌, ℕ, zero, suc, List, ◌∷◌, false, inl, inr, cond, not, nat_lt}
use Rattle.std.proofs.Common.{nat_eq, min, Result, Ok, Err, length, take, drop, map, refl, sym, ◌∙◌, ap, arith}
use Rattle.std.proofs.lemmas.Bool.{cases_lt}
use Rattle.std.proofs.lemmas.Bool.Decides.{nat_tests}
use Rattle.std.proofs.lemmas.List.{drop-take, length-take, length-take-le, take-take, take_all}
use Rattle.std.specs.Int.{w16, w32, from_le_bytes}
use Rattle.std.specs.Cmp.Lexicographic.{pointwise}
use Rattle.std.specs.List.{range_with_len, starts_with}
use Rattle.cfb_header.specs.Bytes.{u16_at, u32_at}
use Rattle.cfb_header.specs.Header.{HeaderValue, IsHeader, LISTED, MOST_DIFAT_SECTORS, MOST_FAT_SECTORS, difat_count}
use Rattle.cfb_header.specs.Header.{fat_count, first_difat, first_directory, first_mini_fat, header_of, header_read}
use Rattle.cfb_header.specs.Header.{listed_first, mini_fat_count, signature}
use Rattle.cfb_header.specs.declared.fault.ChainFault.{ChainFault}
use Rattle.cfb_header.specs.declared.fault.ChainFault.TheVariants.{Truncated, BadSignature, Unsupported, TooBig}

-- ---- what is read of the first 512 bytes alone
-- bytes at a place in the front
part_cut : (n at size : ℕ) (file : List ℕ) → at + size ≤ n → take size (drop at (take n file))
    ≡ take size (drop at file)
part_cut n at size file h =
    let e : n ≡ at + (n - at) = omega arith in
    let le : size ≤ n - at = omega arith in
    ap (λ k. take size (drop at (take k file))) e ∙ ap (take size) (drop-take at (n - at) file)
    ∙ take-take size (n - at) (drop at file) le

pub u16_cut : (file : List ℕ) (at : ℕ) → at + 2 ≤ 512 → u16_at (take 512 file) at ≡ u16_at file at
unfolding u16_at
u16_cut file at h = ap (from_le_bytes w16) (part_cut 512 at 2 file h)

pub u32_cut : (file : List ℕ) (at : ℕ) → at + 4 ≤ 512 → u32_at (take 512 file) at ≡ u32_at file at
unfolding u32_at
u32_cut file at h = ap (from_le_bytes w32) (part_cut 512 at 4 file h)

-- numbers in a row that are read alike
numbers_alike : (f g : ℕ → ℕ) (at n : ℕ) → ((k : ℕ) → k < at + n → f k ≡ g k)
    → map f (range_with_len at n) ≡ map g (range_with_len at n)
numbers_alike f g at zero each = refl
numbers_alike f g at (suc n) each =
    let first : f at ≡ g at = each at (omega arith) in
    let rest : map f (range_with_len (at + 1) n) ≡ map g (range_with_len (at + 1) n) =
    numbers_alike f g (at + 1) n (λ k l. each k (omega arith)) in
    λ i. first i ∷ rest i

fat_count_cut : (file : List ℕ) → fat_count (take 512 file) ≡ fat_count file
fat_count_cut file = u32_cut file 44 (omega arith)

listed_cut : (file : List ℕ) → listed_first (take 512 file) ≡ listed_first file
listed_cut file =
    ap (λ n. map (λ k. u32_at (take 512 file) (76 + 4 * k)) (range_with_len 0 (min n LISTED))) (fat_count_cut file)
    ∙ numbers_alike (λ k. u32_at (take 512 file) (76 + 4 * k)) (λ k. u32_at file (76 + 4 * k)) 0
    (min (fat_count file) LISTED)
    (λ k l. u32_cut file (76 + 4 * k) (omega arith))

pub header_of_cut : (file : List ℕ) → header_of (take 512 file) ≡ header_of file
header_of_cut file =
    let all : fat_count (take 512 file) ≡ fat_count file = fat_count_cut file in
    let difat : first_difat (take 512 file) ≡ first_difat file = u32_cut file 68 (omega arith) in
    let difats : difat_count (take 512 file) ≡ difat_count file = u32_cut file 72 (omega arith) in
    let directory : first_directory (take 512 file) ≡ first_directory file = u32_cut file 48 (omega arith) in
    let mini_fat : first_mini_fat (take 512 file) ≡ first_mini_fat file = u32_cut file 60 (omega arith) in
    let count : mini_fat_count (take 512 file) ≡ mini_fat_count file = u32_cut file 64 (omega arith) in
    λ i. record {
      fat_count = all i;
      fat = listed_cut file i;
      first_difat = difat i;
      difat_count = difats i;
      first_directory = directory i;
      first_mini_fat = mini_fat i;
      mini_fat_count = count i;
    }

-- ---- and the header
-- the last checks of a header
abbrev rest_read : List ℕ → Result HeaderValue ChainFault
rest_read file =
    cond (nat_lt MOST_FAT_SECTORS (fat_count file)) (Err TooBig) (
    cond (nat_lt MOST_DIFAT_SECTORS (difat_count file)) (Err TooBig) (
    Ok (header_of file)))

is_not_lt : (m n : ℕ) → n ≤ m → nat_lt m n ≡ false
is_not_lt m n h = grind (arith, nat_tests)

rest_cut : (file : List ℕ) → rest_read (take 512 file) ≡ rest_read file
rest_cut file =
    let count : fat_count (take 512 file) ≡ fat_count file = fat_count_cut file in
    let difats : difat_count (take 512 file) ≡ difat_count file = u32_cut file 72 (omega arith) in
    λ i.
    cond (nat_lt MOST_FAT_SECTORS (count i)) (Err TooBig) (
    cond (nat_lt MOST_DIFAT_SECTORS (difats i)) (Err TooBig) (
    Ok (header_of_cut file i)))

signature_cut : (file : List ℕ) → starts_with nat_eq (take 512 file) signature ≡ starts_with nat_eq file signature
signature_cut file = let le : 8 ≤ 512 = omega arith in
    ap (λ (xs : List ℕ). pointwise nat_eq signature xs) (take-take 8 512 file le)

-- the first 512 bytes are read as the file is
pub header_cut : (file : List ℕ) → 512 ≤ length file → header_read (take 512 file) ≡ header_read file
header_cut file h =
    let long : length (take 512 file) ≡ 512 = length-take-le 512 file h in
    let whole : nat_lt (length (take 512 file)) 512 ≡ nat_lt (length file) 512 =
    is_not_lt (length (take 512 file)) 512 (omega (arith, long)) ∙ sym (is_not_lt (length file) 512 h) in
    let signed : starts_with nat_eq (take 512 file) signature ≡ starts_with nat_eq file signature =
    signature_cut file in
    let version : u16_at (take 512 file) 26 ≡ u16_at file 26 = u16_cut file 26 (omega arith) in
    let order : u16_at (take 512 file) 28 ≡ u16_at file 28 = u16_cut file 28 (omega arith) in
    let shift : u16_at (take 512 file) 30 ≡ u16_at file 30 = u16_cut file 30 (omega arith) in
    let mini_shift : u16_at (take 512 file) 32 ≡ u16_at file 32 = u16_cut file 32 (omega arith) in
    let cutoff : u32_at (take 512 file) 56 ≡ u32_at file 56 = u32_cut file 56 (omega arith) in
    let rest : rest_read (take 512 file) ≡ rest_read file = rest_cut file in
    λ i.
    cond (whole i) (Err Truncated) (
    cond (not (signed i)) (Err BadSignature) (
    cond (not (nat_eq (version i) 3)) (Err (Unsupported 26)) (
    cond (not (nat_eq (order i) 0xFFFE)) (Err (Unsupported 28)) (
    cond (not (nat_eq (shift i) 9)) (Err (Unsupported 30)) (
    cond (not (nat_eq (mini_shift i) 6)) (Err (Unsupported 32)) (
    cond (not (nat_eq (cutoff i) 4096)) (Err (Unsupported 56)) (
    rest i)))))))

-- two files of one length with the same first 512 bytes have one header, or are refused for one fault
pub header_alike : (a b : List ℕ) → take 512 a ≡ take 512 b → length a ≡ length b → header_read a ≡ header_read b
header_alike a b front len =
    elim (cases_lt (length a) 512) [
      | inl short ↦
          let same : a ≡ b = sym (take_all 512 a (omega arith)) ∙ front ∙ take_all 512 b (omega arith) in
          ap header_read same
      | inr long ↦ sym (header_cut a long) ∙ ap header_read front ∙ header_cut b (omega arith)
    ]

-- ---- the fields
module _ (a b : List ℕ) (front : take 512 a ≡ take 512 b) where
  u16_alike : (at : ℕ) → at + 2 ≤ 512 → u16_at b at ≡ u16_at a at
  u16_alike at h = sym (u16_cut b at h) ∙ ap (λ (xs : List ℕ). u16_at xs at) (sym front) ∙ u16_cut a at h

  u32_alike : (at : ℕ) → at + 4 ≤ 512 → u32_at b at ≡ u32_at a at
  u32_alike at h = sym (u32_cut b at h) ∙ ap (λ (xs : List ℕ). u32_at xs at) (sym front) ∙ u32_cut a at h

  signature_alike : take 8 b ≡ take 8 a
  signature_alike =
      let le : 8 ≤ 512 = omega arith in
      sym (take-take 8 512 b le) ∙ ap (take 8) (sym front) ∙ take-take 8 512 a le

  pub is_header_alike : 512 ≤ length b → IsHeader a → IsHeader b
  is_header_alike long h = record {
    whole = long;
    signed = signature_alike ∙ h.signed;
    major_version = u16_alike 26 (omega arith) ∙ h.major_version;
    byte_order = u16_alike 28 (omega arith) ∙ h.byte_order;
    sector_shift = u16_alike 30 (omega arith) ∙ h.sector_shift;
    mini_sector_shift = u16_alike 32 (omega arith) ∙ h.mini_sector_shift;
    cutoff = u32_alike 56 (omega arith) ∙ h.cutoff;
    fat_sectors = omega (arith, h.fat_sectors, u32_alike 44 (omega arith));
    difat_sectors = omega (arith, h.difat_sectors, u32_alike 72 (omega arith));
  }

  pub header_of_alike : header_of a ≡ header_of b
  header_of_alike = sym (header_of_cut a) ∙ ap header_of front ∙ header_of_cut b

-- a file whose first 512 bytes have the fixed fields
pub is_header_of_front : (file : List ℕ) → IsHeader (take 512 file) → IsHeader file
is_header_of_front file h =
    let le : 512 ≤ 512 = omega arith in
    is_header_alike (take 512 file) file (take-take 512 512 file le) (omega (arith, h.whole, length-take 512 file)) h
