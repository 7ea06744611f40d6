-- What was read of a file is what its listing looks at.
use Rattle.std.proofs.Common.{◌≡◌, ◌<◌, ◌≤◌, ◌+◌, ◌-◌, ◌*◌, ◌/◌, ℕ, zero, suc, List, ◌++◌, Result, Ok, inl, inr, length}
use Rattle.std.proofs.Common.{take, drop, replicate, get_or, min, refl, sym, ap, subst, ◌∙◌, arith}
use Rattle.std.proofs.lemmas.Bool.{cases_lt}
use Rattle.std.proofs.lemmas.List.{append-nil, length-take, take_all, take-take}
use Rattle.std.specs.List.{flat_map}
use Rattle.cfb_bytes.specs.Bytes.{block}
use Rattle.cfb_header.specs.Bytes.{joined, sector, u32_at}
use Rattle.cfb_chains.specs.Chain.{IsChain, IsChainOf, Store}
use Rattle.cfb_chains.specs.Fat.{AreSame, sectors_in, sectors_of}
use Rattle.cfb_header.specs.Header.{HeaderValue, IsHeader, difat, difat_by, fat_by, fat_count, first_directory}
use Rattle.cfb_header.specs.Header.{first_mini_fat, header_of, header_read, listed, listed_first, mini_fat_count}
use Rattle.cfb_header.specs.Header.{named_in}
use Rattle.cfb_header.specs.declared.fault.ChainFault.{ChainFault}
use Rattle.cfb_chains.proofs.Chains.{chain_any, chain_same}
use Rattle.cfb_header.proofs.Headers.{read_whole}
use Rattle.cfb_file.specs.Alike.{AgreeOn, Alike}
use Rattle.cfb_file.proofs.AlikeHeaders.{header_cut, u16_cut, u32_cut}
use Rattle.cfb_file.proofs.AlikeStores.{joined_alike}
use Rattle.read_source.specs.Filled.{AreListsRead, IsChainRead}

-- ---- the header
-- the fixed fields stand in the first 512 bytes
header_uncut : (file : List ℕ) → 512 ≤ length file → IsHeader (take 512 file) → IsHeader file
header_uncut file long h = record {
  whole = long;
  signed = (let le : 8 ≤ 512 = omega arith in sym (take-take 8 512 file le)) ∙ h.signed;
  major_version = sym (u16_cut file 26 (omega arith)) ∙ h.major_version;
  byte_order = sym (u16_cut file 28 (omega arith)) ∙ h.byte_order;
  sector_shift = sym (u16_cut file 30 (omega arith)) ∙ h.sector_shift;
  mini_sector_shift = sym (u16_cut file 32 (omega arith)) ∙ h.mini_sector_shift;
  cutoff = sym (u32_cut file 56 (omega arith)) ∙ h.cutoff;
  fat_sectors = omega (arith, h.fat_sectors, u32_cut file 44 (omega arith));
  difat_sectors = omega (arith, h.difat_sectors, u32_cut file 72 (omega arith));
}

-- the front of a file is read as the file is
pub front_read : (a front : List ℕ) (len : ℕ) → length a ≡ len → front ≡ take (min len 512) (drop 0 a)
    → header_read front ≡ header_read a
front_read a front len len_is is =
    elim (cases_lt len 512) [
      | inl short ↦ ap header_read (is ∙ take_all (min len 512) a (omega (arith, len_is, short)))
      | inr long ↦
          let all : min len 512 ≡ 512 = omega (arith, long) in
          ap header_read (is ∙ ap (λ n. take n a) all) ∙ header_cut a (omega (arith, long, len_is))
    ]

module _ (b front : List ℕ) (len : ℕ) (h : HeaderValue) (long : length b ≡ len)
    (front_long : length front ≡ min len 512) (whole : IsHeader front)
    (read : Ok h ≡ header_read front) (same : block 512 b 0 ≡ block 512 front 0) where
  enough : 512 ≤ len
  enough = omega (arith, whole.whole, front_long)

  block_front : (xs : List ℕ) → 512 ≤ length xs → block 512 xs 0 ≡ take 512 xs
  unfolding block
  block_front xs l =
      let none : 512 - length xs ≡ 0 = omega arith in
      ap (λ n. take 512 xs ++ replicate n 0) none ∙ append-nil (take 512 xs)

  pub front_same : take 512 b ≡ front
  front_same =
      sym (block_front b (omega (arith, long, enough))) ∙ same ∙ block_front front whole.whole
      ∙ take_all 512 front (omega (arith, front_long))

  pub header_same : header_read b ≡ Ok h
  header_same = sym (header_cut b (omega (arith, long, enough))) ∙ ap header_read front_same ∙ sym read

  pub whole_same : IsHeader b
  whole_same = header_uncut b (omega (arith, long, enough)) (subst IsHeader (sym front_same) whole)

-- ---- what was read
same_header : {h g : HeaderValue} → ◌≡◌ {A = Result HeaderValue ChainFault} (Ok h) (Ok g) → h ≡ g
same_header e = cc

module _ (a b0 b1 b2 b3 front table ns : List ℕ) (len : ℕ) (h : HeaderValue) (len_a : length a ≡ len)
    (long : length b3 ≡ len) (long_1 : length b1 ≡ len)
    (front_long : length front ≡ min len 512) (front_is : front ≡ take (min len 512) (drop 0 a))
    (whole : IsHeader front)
    (read : Ok h ≡ header_read front) (same : block 512 b3 0 ≡ block 512 front 0)
    (fat_read : AreListsRead a b0 b1 h ns)
    (count : length table ≡ min (128 * length ns) (sectors_in b1))
    (each : (k : ℕ) → k < length table → get_or table k 0 ≡ u32_at (joined (sector b1) ns) (4 * k))
    (directory_read : IsChainRead a b1 b2 table h.first_directory)
    (mini_fat_read : IsChainRead a b2 b3 table h.first_mini_fat) where
  all_there : 512 ≤ len
  all_there = omega (arith, whole.whole, front_long)

  front_of_a : take 512 a ≡ front
  front_of_a = let all : min len 512 ≡ 512 = omega (arith, all_there) in sym (front_is ∙ ap (λ n. take n a) all)

  whole_a : IsHeader a
  whole_a = header_uncut a (omega (arith, len_a, all_there)) (subst IsHeader (sym front_of_a) whole)

  says : h ≡ header_of a
  says = same_header (read ∙ front_read a front len len_a front_is ∙ read_whole a whole_a)

  fat_is : ns ≡ listed a
  fat_is = fat_read.listed_are ∙ ap (fat_by a) says

  -- the entries are those of the file
  store : Store
  store = record { count = length table; width = 512; piece = sector a; next = λ n. get_or table n 0 }

  few : length ns ≤ 1125
  few = omega (
    arith,
    whole_a.fat_sectors,
    ap (λ (xs : List ℕ). length xs) fat_is,
    length-take (fat_count a) (listed_first a ++ flat_map (named_in a) (difat a)),
  )

  count_same : min (128 * length (listed a)) (sectors_in a) ≡ length table
  count_same =
      ap (λ (fat : List ℕ). min (128 * length fat) (sectors_in a)) (sym fat_is)
      ∙ ap (λ n. min (128 * length ns) ((n + 511) / 512 - 1)) (len_a ∙ sym long_1) ∙ sym count

  same_store : AreSame (sectors_of a (listed a)) store
  unfolding sectors_of store
  same_store = record {
    count = count_same;
    width = refl;
    piece = λ n l. refl;
    next = λ n l.
        ap (λ (fat : List ℕ). u32_at (joined (sector a) fat) (4 * n)) (sym fat_is)
        ∙ ap (λ (xs : List ℕ). u32_at xs (4 * n)) (joined_alike a b1 ns fat_read.fat_there)
        ∙ sym (each n (subst (λ c. n < c) count_same l));
  }

  -- what was read of a chain's sectors
  chain_read : (old new : List ℕ) (start : ℕ) (ns : List ℕ) → IsChainRead a old new table start
      → IsChain (sectors_of a (listed a)) start 0 ns → AgreeOn a new ns
  unfolding store
  chain_read old new start ns r c =
      let d : IsChain store start 0 ns = chain_same (sectors_of a (listed a)) store same_store start 0 ns c in
      r.there ns (omega (arith, count, few)) d.linked (λ k e l. (d.present k e l).1)

  directory_there : (ns : List ℕ) → IsChain (sectors_of a (listed a)) (first_directory a) 0 ns → AgreeOn a b3 ns
  directory_there ns c =
      let start : h.first_directory ≡ first_directory a = ap (λ (v : HeaderValue). v.first_directory) says in
      let there : AgreeOn a b2 ns =
      chain_read b1 b2 h.first_directory ns directory_read
      (subst (λ n. IsChain (sectors_of a (listed a)) n 0 ns) (sym start) c) in
      λ k d l. mini_fat_read.kept _ (there k d l)

  mini_fat_there : (bytes : ℕ) (ns : List ℕ) → IsChainOf (sectors_of a (listed a)) (first_mini_fat a) bytes ns
      → AgreeOn a b3 ns
  mini_fat_there zero ns c = subst (AgreeOn a b3) (sym c) (λ k d l. absurd (omega arith))
  mini_fat_there (suc n) ns c =
      let start : h.first_mini_fat ≡ first_mini_fat a = ap (λ (v : HeaderValue). v.first_mini_fat) says in
      chain_read b2 b3 h.first_mini_fat ns mini_fat_read
      (subst (λ m. IsChain (sectors_of a (listed a)) m 0 ns) (sym start)
      (chain_any (sectors_of a (listed a)) (first_mini_fat a) (suc n) ns c))

  pub cataloged : Alike a b3
  cataloged = record {
    is_header = whole_a;
    len = len_a ∙ sym long;
    header = front_of_a ∙ sym (front_same b3 front len h long front_long whole read same);
    difat = subst (λ v. AgreeOn a b3 (difat_by a v)) says
        (λ k d l. mini_fat_read.kept _ (directory_read.kept _ (fat_read.difat_there k d l)));
    fat = subst (AgreeOn a b3) fat_is
        (λ k d l. mini_fat_read.kept _ (directory_read.kept _ (fat_read.fat_there k d l)));
    directory = directory_there;
    mini_fat = mini_fat_there (512 * mini_fat_count a);
  }
