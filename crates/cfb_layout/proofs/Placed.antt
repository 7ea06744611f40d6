-- The parts of a file lie where they were laid out.
use Rattle.std.proofs.Common.{◌≡◌, ◌<◌, ◌≤◌, ◌+◌, ◌*◌, ◌^◌, ℕ, zero, suc, List, ◌∷◌, ◌++◌, lit<, min, length, take}
use Rattle.std.proofs.Common.{get_or, replicate, refl, sym, ◌∙◌, ap, subst, arith, append_assoc, length-append}
use Rattle.std.proofs.lemmas.List.{take_all, get_or-append-add, length-replicate}
use Rattle.std.proofs.lemmas.List.Elements.{All-append, All-replicate}
use Rattle.std.proofs.lemmas.List.FromFn.{length-range_with_len}
use Rattle.std.proofs.lemmas.List.Sums.{sum_by-cons}
use Rattle.std.specs.List.{flat_map, range_with_len, sum, All}
use Rattle.cfb_header.specs.Bytes.{u32_at, block}
use Rattle.cfb_chains.specs.Chain.{Store, IsPresent, IsChain, IsChainOf, AreDistinct, DIFAT_SECTOR, FAT_SECTOR}
use Rattle.cfb_header.specs.Header.{HeaderValue, FitsHeader, IsHeader, named_in, difat, difat_by, fat_by, listed}
use Rattle.cfb_header.specs.Header.{header_of, header_bytes, first_directory, first_mini_fat, mini_fat_count}
use Rattle.cfb_chains.specs.Fat.{IsFat, sectors_of, mini_sectors_of}
use Rattle.cfb_header.proofs.Written.{written_is_header, written_header, length_written}
use Rattle.cfb_entries.specs.Entries.{entry_at, first_of, size_of}
use Rattle.cfb_file.specs.Need.{difat_sectors, pieces}
use Rattle.cfb_file.specs.Denotes.{Layout, IsLaidOut, directory_of, root_of, sectors, minis}
use Rattle.cfb_file.specs.Limits.{MOST_FAT_SECTORS}
use Rattle.cfb_layout.specs.Image.{Parts, behind_fat, difat_numbers, own_entries, run, runs, start, table_bytes}
use Rattle.cfb_layout.specs.Image.{pieces_of, whole_pieces, image, mini_stream_start, longs_start}
use Rattle.cfb_layout.specs.Placed.{Fits, IsPlaced, ArePlaced, layout_of}
use Rattle.cfb_layout.proofs.ListsLaid.{AreLaid, length-difat, lists_laid, names_all}
use Rattle.cfb_layout.proofs.Tables.{length-numbers_bytes, numbers_bytes, IsWord, IsTabled, length-table_bytes}
use Rattle.cfb_layout.proofs.Tables.{table_number, length-run, length-runs, words_in_runs, words_in_range}
use Rattle.cfb_layout.proofs.Tables.{present_in_range, chain_in_table, chain_of_in_table, range-append, range_distinct}
use Rattle.cfb_layout.proofs.PlacedParts.{IsJoined, joined_parts}
use Rattle.cfb_layout.proofs.ContentsPieces.{width-512, length-whole}

-- the FAT of the parts, before its free entries: its own sectors' and the DIFAT's, and the runs behind them from b on
abbrev pub fat_table : (own : List ℕ) (b d m s : ℕ) → List ℕ → List ℕ
fat_table own b d m s ns = own ++ runs b (d ∷ m ∷ s ∷ ns)

pub sum-runs : (d m s : ℕ) (ns : List ℕ) → sum (d ∷ m ∷ s ∷ ns) ≡ d + m + s + sum ns
sum-runs d m s ns =
    omega (arith, sum_by-cons (λ x. x) d (m ∷ s ∷ ns), sum_by-cons (λ x. x) m (s ∷ ns), sum_by-cons (λ x. x) s ns)

length-fat_table : (own : List ℕ) (b d m s : ℕ) (ns : List ℕ) → length own ≡ b
    → length (fat_table own b d m s ns) ≡ b + d + m + s + sum ns
length-fat_table own b d m s ns long =
    length-append own (runs b (d ∷ m ∷ s ∷ ns))
    ∙ omega (arith, long, length-runs b (d ∷ m ∷ s ∷ ns), sum-runs d m s ns)

words_in_fat_table : (own : List ℕ) (b d m s : ℕ) (ns : List ℕ) → All IsWord own → b + d + m + s + sum ns ≤ 2 ^ 32
    → All IsWord (fat_table own b d m s ns)
words_in_fat_table own b d m s ns words h =
    All-append IsWord own (runs b (d ∷ m ∷ s ∷ ns)) words
    (words_in_runs b (d ∷ m ∷ s ∷ ns) (omega (arith, sum-runs d m s ns)))

-- the FAT as the table of a file's sectors
fat_tabled : (file difat directory mini_fat mini_stream longs own : List ℕ) (f x d m s : ℕ) (ns : List ℕ)
    → f ≤ MOST_FAT_SECTORS → length own ≡ f + x → All IsWord own
    → f + x + d + m + s + sum ns ≤ 128 * f
    → IsJoined file (table_bytes f (fat_table own (f + x) d m s ns)) difat directory mini_fat mini_stream longs f x
    d m s (sum ns)
    → IsTabled (sectors_of file (range_with_len 0 f)) (fat_table own (f + x) d m s ns)
unfolding sectors_of
fat_tabled file difat directory mini_fat mini_stream longs own f x d m s ns few long_own words covered j =
    let long : length (fat_table own (f + x) d m s ns) ≡ f + x + d + m + s + sum ns =
    length-fat_table own (f + x) d m s ns long_own in
    record {
      count = omega (arith, long, j.size, length-range_with_len 0 f);
      next = λ k l. ap (λ bytes. u32_at bytes (4 * k)) j.fat_bytes
          ∙ table_number f (fat_table own (f + x) d m s ns) k
          (words_in_fat_table own (f + x) d m s ns words (omega arith)) l;
      small = omega (arith, long);
    }

module _ (s : Store) (own : List ℕ) (f d m n : ℕ) (ns : List ℕ) (long_own : length own ≡ f)
    (t : IsTabled s (fat_table own f d m n ns)) where
  directory_chain : 0 < d → IsChain s f 0 (range_with_len f d)
  directory_chain some =
      chain_in_table s (fat_table own f d m n ns) own (runs (f + d) (m ∷ n ∷ ns)) f d 0 t refl long_own some
      (omega arith)

  mini_fat_chain : (bytes : ℕ) → bytes ≤ s.width * m → (bytes ≡ 0 → m ≡ 0)
      → IsChainOf s (start (f + d) m) bytes (range_with_len (f + d) m)
  mini_fat_chain bytes enough none =
      chain_of_in_table s (fat_table own f d m n ns) (own ++ run f d) (runs (f + d + m) (n ∷ ns)) (f + d) m bytes t
      (sym (append_assoc own (run f d) (runs (f + d) (m ∷ n ∷ ns))))
      (length-append own (run f d) ∙ omega (arith, long_own, length-run f d)) enough none

  mini_stream_chain : (bytes : ℕ) → bytes ≤ s.width * n → (bytes ≡ 0 → n ≡ 0)
      → IsChainOf s (start (f + d + m) n) bytes (range_with_len (f + d + m) n)
  mini_stream_chain bytes enough none =
      chain_of_in_table s (fat_table own f d m n ns) (own ++ run f d ++ run (f + d) m) (runs (f + d + m + n) ns)
      (f + d + m) n bytes t
      (simp append_assoc)
      (length-append (own ++ run f d) (run (f + d) m)
      ∙ omega (arith, length-append own (run f d), long_own, length-run f d, length-run (f + d) m)) enough none

  own_present : All (IsPresent s) (range_with_len 0 f)
  own_present = present_in_range s 0 f (omega (arith, t.count, length-fat_table own f d m n ns long_own))
      (omega (arith, t.count, t.small))

  -- the runs behind the mini stream's
  longs_next : (k : ℕ) → k < sum ns → s.next (f + d + m + n + k) ≡ get_or (runs (f + d + m + n) ns) k 0
  longs_next k l =
      let front : List ℕ = own ++ run f d ++ run (f + d) m ++ run (f + d + m) n in
      let long : length front ≡ f + d + m + n =
      length-append (own ++ run f d ++ run (f + d) m) (run (f + d + m) n)
      ∙ omega (
        arith,
        length-append (own ++ run f d) (run (f + d) m),
        length-append own (run f d),
        long_own,
        length-run f d,
        length-run (f + d) m,
        length-run (f + d + m) n,
      ) in
      let parted : fat_table own f d m n ns ≡ front ++ runs (f + d + m + n) ns = simp append_assoc in
      let place : f + d + m + n + k ≡ length front + k = omega arith in
      t.next (f + d + m + n + k) (omega (arith, length-fat_table own f d m n ns long_own))
      ∙ (λ i. get_or (parted i) (place i) 0) ∙ get_or-append-add front (runs (f + d + m + n) ns) k 0

-- two ranges in a row are one
in_a_row : (m n : ℕ) → range_with_len 0 m ++ range_with_len m n ≡ range_with_len 0 (m + n)
in_a_row m n = let z : 0 + m ≡ m = omega arith in ap (λ k. range_with_len 0 m ++ range_with_len k n) (sym z)
    ∙ range-append 0 m n

-- the parts take each sector once
parts_apart : (f x d m n k : ℕ)
    → AreDistinct (range_with_len 0 f ++ range_with_len f x ++ range_with_len (f + x) d
    ++ range_with_len (f + x + d) m ++ range_with_len (f + x + d + m) n ++ range_with_len (f + x + d + m + n) k)
parts_apart f x d m n k =
    let all : range_with_len 0 f ++ range_with_len f x ++ range_with_len (f + x) d ++ range_with_len (f + x + d) m
    ++ range_with_len (f + x + d + m) n ++ range_with_len (f + x + d + m + n) k
    ≡ range_with_len 0 (f + x + d + m + n + k) =
    ap (λ xs. xs ++ range_with_len (f + x) d ++ range_with_len (f + x + d) m ++ range_with_len (f + x + d + m) n
    ++ range_with_len (f + x + d + m + n) k) (in_a_row f x)
    ∙ ap (λ xs. xs ++ range_with_len (f + x + d) m ++ range_with_len (f + x + d + m) n
    ++ range_with_len (f + x + d + m + n) k) (in_a_row (f + x) d)
    ∙ ap (λ xs. xs ++ range_with_len (f + x + d + m) n ++ range_with_len (f + x + d + m + n) k) (in_a_row (f + x + d) m)
    ∙ ap (λ xs. xs ++ range_with_len (f + x + d + m + n) k) (in_a_row (f + x + d + m) n)
    ∙ in_a_row (f + x + d + m + n) k in
    subst AreDistinct (sym all) (range_distinct 0 (f + x + d + m + n + k))

-- what the FAT says of its own sectors and the DIFAT's
pub length-own : (f : ℕ) → length (own_entries f) ≡ behind_fat f
length-own f =
    length-append (replicate f FAT_SECTOR) (replicate (difat_sectors f) DIFAT_SECTOR)
    ∙ omega (arith, length-replicate f FAT_SECTOR, length-replicate (difat_sectors f) DIFAT_SECTOR)

words-own : (f : ℕ) → All IsWord (own_entries f)
words-own f =
    All-append IsWord (replicate f FAT_SECTOR) (replicate (difat_sectors f) DIFAT_SECTOR)
    (All-replicate IsWord f FAT_SECTOR (lit< tt))
    (All-replicate IsWord (difat_sectors f) DIFAT_SECTOR (lit< tt))

abbrev pub header_value : ℕ → Parts → HeaderValue
header_value f p = record {
  fat_count = f;
  fat = range_with_len 0 (min f 109);
  first_difat = start f (difat_sectors f);
  difat_count = difat_sectors f;
  first_directory = behind_fat f;
  first_mini_fat = start (behind_fat f + p.directory_count) p.mini_fat_count;
  mini_fat_count = p.mini_fat_count;
}

start_word : (at n : ℕ) → at < 2 ^ 32 → start at n < 2 ^ 32
start_word at zero h = omega arith
start_word at (suc n) h = h

header_fits : (f : ℕ) (p : Parts) → Fits f p → FitsHeader (header_value f p)
header_fits f p h =
    let most : difat_sectors f ≤ 8 = omega (arith, h.few) in
    let behind : behind_fat f < 2 ^ 32 = omega (arith, h.few, most) in
    record {
      fat_count = h.few;
      listed = length-range_with_len 0 (min f 109);
      first_difat = start_word f (difat_sectors f) (omega (arith, h.few));
      difat_count = most;
      fat = words_in_range 0 (min f 109) (omega (arith, h.few));
      first_directory = behind;
      first_mini_fat = start_word (behind_fat f + p.directory_count) p.mini_fat_count (omega (arith, h.few, h.covered));
      mini_fat_count = omega (arith, h.few, h.covered);
    }

-- the FAT of the parts
abbrev table_of : ℕ → Parts → List ℕ
table_of f p = fat_table (own_entries f) (behind_fat f) p.directory_count p.mini_fat_count p.mini_stream_count
    (pieces_of 512 p.longs)

-- how many sectors the long streams take
abbrev longs_count : Parts → ℕ
longs_count p = sum (pieces_of 512 p.longs)

-- the bytes of the DIFAT
abbrev difat_of : ℕ → List ℕ
difat_of f = numbers_bytes (difat_numbers (difat_sectors f) f 109 f)

-- what stands behind the header
behind_header : ℕ → Parts → List ℕ
behind_header f p = table_bytes f (table_of f p)
    ++ (difat_of f
    ++ (p.directory ++ (table_bytes p.mini_fat_count (runs 0 p.minis)
    ++ (p.mini_stream ++ whole_pieces 512 p.longs))))

image_is : (f : ℕ) (p : Parts) → image f p ≡ header_bytes (header_value f p) ++ behind_header f p
unfolding image behind_header
image_is f p = simp append_assoc

image_header : (f : ℕ) (p : Parts) → Fits f p → IsHeader (image f p)
image_header f p h =
    subst IsHeader (sym (image_is f p)) (written_is_header (header_value f p) (behind_header f p) (header_fits f p h))

image_header_of : (f : ℕ) (p : Parts) → Fits f p → header_of (image f p) ≡ header_value f p
image_header_of f p h = ap header_of (image_is f p) ∙ written_header (header_value f p) (behind_header f p)
    (header_fits f p h)

-- how many sectors the mini FAT takes for its entries
minis_in : (total : ℕ) → total ≤ 128 * pieces 128 total
minis_in total = omega arith

image_joined : (f : ℕ) (p : Parts) → Fits f p
    → IsJoined (image f p) (table_bytes f (table_of f p)) (difat_of f) p.directory
    (table_bytes p.mini_fat_count (runs 0 p.minis)) p.mini_stream (whole_pieces 512 p.longs) f (difat_sectors f)
    p.directory_count p.mini_fat_count
    p.mini_stream_count (longs_count p)
unfolding image
image_joined f p h =
    let fat : List ℕ = table_of f p in
    let listed : length (header_value f p).fat ≤ 109 = omega (arith, (header_fits f p h).listed) in
    let numbers : List ℕ = difat_numbers (difat_sectors f) f 109 f in
    joined_parts (image f p) (header_bytes (header_value f p)) (table_bytes f fat) (difat_of f) p.directory
    (table_bytes p.mini_fat_count (runs 0 p.minis)) p.mini_stream (whole_pieces 512 p.longs) f (difat_sectors f)
    p.directory_count p.mini_fat_count
    p.mini_stream_count (longs_count p) refl (length_written (header_value f p) listed)
    (length-table_bytes f fat
    (omega (
      arith,
      length-fat_table (own_entries f) (behind_fat f) p.directory_count p.mini_fat_count
          p.mini_stream_count (pieces_of 512 p.longs) (length-own f),
      h.covered,
    )))
    (omega (arith, length-numbers_bytes numbers, length-difat (difat_sectors f) f 109 f))
    h.whole_directory
    (length-table_bytes p.mini_fat_count (runs 0 p.minis)
    (omega (arith, length-runs 0 p.minis, minis_in (sum p.minis), h.table_size)))
    h.whole_stream (length-whole 512 width-512 p.longs)

module _ (f : ℕ) (p : Parts) (some : 0 < f) (h : Fits f p) where
  file : List ℕ
  file = image f p

  j : IsJoined file (table_bytes f (table_of f p)) (difat_of f) p.directory
      (table_bytes p.mini_fat_count (runs 0 p.minis)) p.mini_stream (whole_pieces 512 p.longs) f (difat_sectors f)
      p.directory_count p.mini_fat_count
      p.mini_stream_count (longs_count p)
  unfolding file
  j = image_joined f p h

  tabled : IsTabled (sectors file (layout_of f p)) (table_of f p)
  tabled = fat_tabled file (difat_of f) p.directory (table_bytes p.mini_fat_count (runs 0 p.minis)) p.mini_stream
      (whole_pieces 512 p.longs) (own_entries f) f
      (difat_sectors f) p.directory_count p.mini_fat_count p.mini_stream_count (pieces_of 512 p.longs) h.few
      (length-own f) (words-own f) h.covered j

  said : header_of file ≡ header_value f p
  unfolding file
  said = image_header_of f p h

  directory_is : directory_of file (layout_of f p) ≡ p.directory
  unfolding directory_of
  directory_is = j.directory_bytes

  root_is : root_of file (layout_of f p) ≡ entry_at p.directory 0
  root_is = ap (λ d. entry_at d 0) directory_is

  width : (sectors file (layout_of f p)).width ≡ 512
  unfolding sectors_of
  width = refl

  mini_fat_laid : IsChainOf (sectors file (layout_of f p)) (first_mini_fat file) (512 * mini_fat_count file)
      (layout_of f p).mini_fat
  mini_fat_laid =
      let s : Store = sectors file (layout_of f p) in
      let c : IsChainOf s (start (behind_fat f + p.directory_count) p.mini_fat_count) (512 * p.mini_fat_count)
      (layout_of f p).mini_fat =
      mini_fat_chain s (own_entries f) (behind_fat f) p.directory_count p.mini_fat_count p.mini_stream_count
      (pieces_of 512 p.longs) (length-own f) tabled (512 * p.mini_fat_count)
      (rw width (omega arith)) (λ e. omega arith) in
      let P : HeaderValue → Type 0 = λ v. IsChainOf s v.first_mini_fat (512 * v.mini_fat_count)
      (layout_of f p).mini_fat in
      subst P (sym said) c

  mini_stream_laid : IsChainOf (sectors file (layout_of f p)) (first_of (root_of file (layout_of f p)))
      (size_of (root_of file (layout_of f p))) (layout_of f p).mini_stream
  mini_stream_laid =
      let s : Store = sectors file (layout_of f p) in
      let c : IsChainOf s (mini_stream_start f p) (64 * sum p.minis) (layout_of f p).mini_stream =
      mini_stream_chain s (own_entries f) (behind_fat f) p.directory_count p.mini_fat_count p.mini_stream_count
      (pieces_of 512 p.longs) (length-own f) tabled (64 * sum p.minis)
      (rw width (omega (arith, h.stream_size))) (λ e. omega (arith, h.stream_size)) in
      let first : mini_stream_start f p ≡ first_of (root_of file (layout_of f p)) =
      sym (ap first_of root_is ∙ h.root_first) in
      let size : 64 * sum p.minis ≡ size_of (root_of file (layout_of f p)) = sym (ap size_of root_is ∙ h.root_size) in
      let P : ℕ → ℕ → Type 0 = λ a b. IsChainOf s a b (layout_of f p).mini_stream in
      subst (λ (b : ℕ). P (first_of (root_of file (layout_of f p))) b) size
      (subst (λ (a : ℕ). P a (64 * sum p.minis)) first c)

  are_laid : AreLaid file (difat_sectors f) f 109 f
  are_laid = lists_laid file (difat_sectors f) f 109 f j.difat_bytes (omega (arith, h.few)) (omega (arith, h.few))

  difat_is : difat file ≡ range_with_len f (difat_sectors f)
  difat_is = ap (difat_by file) said ∙ are_laid.walked

  listed_is : listed file ≡ range_with_len 0 f
  listed_is =
      ap (fat_by file) said
      ∙ ap (λ ns. take f (range_with_len 0 (min f 109) ++ flat_map (named_in file) ns)) are_laid.walked
      ∙ ap (λ ns. take f (range_with_len 0 (min f 109) ++ ns)) are_laid.named_so
      ∙ names_all f (difat_sectors f) (omega arith)

  fat_is : IsFat file (header_of file)
  fat_is =
      let s : Store = sectors file (layout_of f p) in
      let own : range_with_len 0 f ++ range_with_len f (difat_sectors f) ≡ range_with_len 0 (behind_fat f) =
      in_a_row f (difat_sectors f) in
      let there : All (IsPresent s) (range_with_len 0 (behind_fat f)) =
      own_present s (own_entries f) (behind_fat f) p.directory_count p.mini_fat_count p.mini_stream_count
      (pieces_of 512 p.longs) (length-own f) tabled in
      record {
        whole = ap (λ (xs : List ℕ). length xs) listed_is ∙ length-range_with_len 0 f
            ∙ sym (ap (λ (v : HeaderValue). v.fat_count) said);
        present = subst (λ (ns : List ℕ). All (IsPresent (sectors_of file ns)) (ns ++ difat file)) (sym listed_is)
            (subst (λ (ns : List ℕ). All (IsPresent s) (range_with_len 0 f ++ ns)) (sym difat_is)
            (subst (All (IsPresent s)) (sym own) there));
        once = subst (λ (ns : List ℕ). AreDistinct (ns ++ difat file)) (sym listed_is)
            (subst (λ (ns : List ℕ). AreDistinct (range_with_len 0 f ++ ns)) (sym difat_is)
            (subst AreDistinct (sym own) (range_distinct 0 (behind_fat f))));
      }

  laid : IsLaidOut file (layout_of f p)
  laid =
      let s : Store = sectors file (layout_of f p) in
      let start_said : behind_fat f ≡ first_directory file = sym (ap (λ (v : HeaderValue). v.first_directory) said) in
      let c : IsChain s (behind_fat f) 0 (layout_of f p).directory =
      directory_chain s (own_entries f) (behind_fat f) p.directory_count p.mini_fat_count p.mini_stream_count
      (pieces_of 512 p.longs) (length-own f) tabled h.some_directory in
      record {
        fat_listed = sym listed_is;
        difat_listed = sym difat_is;
        fat_sectors = fat_is;
        directory = subst (λ (a : ℕ). IsChain s a 0 (layout_of f p).directory) start_said c;
        mini_fat = mini_fat_laid;
        mini_stream = mini_stream_laid;
      }

  -- the mini sectors, by what the header and the root say
  minis_are : minis file (layout_of f p) ≡ mini_sectors_of file (layout_of f p).mini_fat (layout_of f p).mini_stream
      (64 * sum p.minis)
  minis_are =
      let l : Layout = layout_of f p in
      let need : mini_fat_count file ≡ p.mini_fat_count = ap (λ (v : HeaderValue). v.mini_fat_count) said in
      let cut : take (mini_fat_count file) l.mini_fat ≡ l.mini_fat =
      take_all (mini_fat_count file) l.mini_fat
      (omega (arith, need, length-range_with_len (behind_fat f + p.directory_count) p.mini_fat_count)) in
      let size : size_of (root_of file l) ≡ 64 * sum p.minis = ap size_of root_is ∙ h.root_size in
      ap (λ ns. mini_sectors_of file ns l.mini_stream (size_of (root_of file l))) cut
      ∙ ap (λ n. mini_sectors_of file l.mini_fat l.mini_stream n) size

  minis_count : (minis file (layout_of f p)).count ≡ sum p.minis
  unfolding mini_sectors_of
  minis_count =
      ap (λ (s : Store). s.count) minis_are
      ∙ omega (
        arith,
        length-range_with_len (behind_fat f + p.directory_count) p.mini_fat_count,
        minis_in (sum p.minis),
        h.table_size,
      )

  minis_piece : (m : ℕ) → (minis file (layout_of f p)).piece m ≡ block 64 p.mini_stream (64 * m)
  unfolding mini_sectors_of
  minis_piece m = ap (λ (s : Store). s.piece m) minis_are ∙ ap (λ bytes. block 64 bytes (64 * m)) j.mini_stream_bytes

  minis_next : (m : ℕ) → m < sum p.minis → (minis file (layout_of f p)).next m ≡ get_or (runs 0 p.minis) m 0
  unfolding mini_sectors_of
  minis_next m l =
      ap (λ (s : Store). s.next m) minis_are ∙ ap (λ bytes. u32_at bytes (4 * m)) j.mini_fat_bytes
      ∙ table_number p.mini_fat_count (runs 0 p.minis) m
      (words_in_runs 0 p.minis (omega (arith, minis_in (sum p.minis), h.table_size, h.covered, h.few)))
      (omega (arith, length-runs 0 p.minis))

  placed_in : IsPlaced file p (layout_of f p)
  unfolding file
  placed_in = record {
    header = image_header f p h;
    laid_out = laid;
    directory = directory_is;
    mini_count = minis_count;
    mini_piece = λ m l. minis_piece m;
    mini_next = minis_next;
  }

  longs_placed : ArePlaced file (layout_of f p) (longs_start f p) p.longs
  unfolding sectors_of
  longs_placed = record {
    there = λ l. omega (
      arith,
      tabled.count,
      length-fat_table (own_entries f) (behind_fat f) p.directory_count
          p.mini_fat_count p.mini_stream_count (pieces_of 512 p.longs) (length-own f),
    );
    piece = λ m l. j.long_block m;
    next = λ m l. longs_next (sectors file (layout_of f p)) (own_entries f) (behind_fat f) p.directory_count
        p.mini_fat_count p.mini_stream_count (pieces_of 512 p.longs) (length-own f) tabled m l;
    apart = parts_apart f (difat_sectors f) p.directory_count p.mini_fat_count p.mini_stream_count (longs_count p);
  }

pub placed : (f : ℕ) (p : Parts) → 0 < f → Fits f p → IsPlaced (image f p) p (layout_of f p)
unfolding file
placed f p some h = placed_in f p some h

pub long-placed : (f : ℕ) (p : Parts) → 0 < f → Fits f p
    → ArePlaced (image f p) (layout_of f p) (longs_start f p) p.longs
unfolding file
long-placed f p some h = longs_placed f p some h
