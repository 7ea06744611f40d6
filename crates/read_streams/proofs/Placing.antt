-- What was read of a file tells where a stream of a file that is alike lies.
use Rattle.std.proofs.Common.{◌≡◌, ◌<◌, ◌≤◌, ◌+◌, ◌-◌, ◌*◌, ◌/◌, ◌∙◌, inl, inr, ℕ, List, [], ◌∷◌, ◌++◌, Result, Ok}
use Rattle.std.proofs.Common.{drop, length, length-drop, get_or, min, replicate, refl, sym, ap, subst, take, arith}
use Rattle.std.proofs.lemmas.Bool.{cases_lt}
use Rattle.std.proofs.lemmas.List.{append-nil}
use Rattle.std.proofs.lemmas.List.Elements.{All-head, All-take}
use Rattle.std.specs.Int.{w32, from_le_bytes}
use Rattle.cfb_header.specs.Bytes.{block, joined, sector, u32_at}
use Rattle.cfb_header.specs.Header.{HeaderValue, MOST_FAT_SECTORS, difat_by, fat_by, first_directory, first_mini_fat}
use Rattle.cfb_header.specs.Header.{header_of, header_read, mini_fat_count}
use Rattle.cfb_header.specs.declared.fault.ChainFault.{ChainFault}
use Rattle.cfb_header.proofs.Headers.{read_whole}
use Rattle.cfb_chains.specs.Chain.{END_OF_CHAIN, IsChain, IsChainOf, Leads}
use Rattle.cfb_chains.specs.Fat.{mini_sectors_of, sectors_in, sectors_of}
use Rattle.cfb_chains.proofs.Blocks.{length_block, length_joined}
use Rattle.cfb_entries.specs.Entries.{entry_at, first_of, kind, size_of}
use Rattle.cfb_entries.specs.Tree.{Tree}
use Rattle.cfb_file.specs.Alike.{AgreeOn, Alike}
use Rattle.cfb_file.specs.Denotes.{Denotes, Layout, directory_of, minis, root_of, sectors}
use Rattle.cfb_file.proofs.AlikeHeaders.{header_alike}
use Rattle.cfb_file.proofs.AlikeStores.{difat_by_alike, fat_by_alike, joined_alike}
use Rattle.cfb_faults.proofs.EntryKinds.{kind_inside}
use Rattle.read_streams.specs.Chains.{IsFatOf}
use Rattle.read_streams.proofs.Filled.{block_first, block_within}

directory_joined : (file : List ℕ) (l : Layout) (ns : List ℕ) → ns ≡ l.directory
    → joined (sector file) ns ≡ directory_of file l
unfolding directory_of
directory_joined file l ns e = ap (joined (sector file)) e

next_all : (a : List ℕ) (l : Layout) → (minis a l).next
    ≡ (λ n. u32_at (joined (sector a) (take (mini_fat_count a) l.mini_fat)) (4 * n))
unfolding mini_sectors_of
next_all a l = refl

-- a chain that isn't empty begins with its start
leads_first : (next : ℕ → ℕ) (start last : ℕ) (ns : List ℕ) → Leads next start ns last → 0 < length ns
    → (rest : List ℕ) × (ns ≡ start ∷ rest)
leads_first next start last [] h some = absurd (omega (arith, some))
leads_first next start last (n ∷ ns) h some = (ns, λ i. sym h.0 i ∷ ns)

-- a number in the first entry of a directory stands in its first sector
four_bytes : (xs : List ℕ) (at : ℕ) → at + 4 ≤ length xs → u32_at xs at ≡ from_le_bytes w32 (block 4 xs at)
unfolding u32_at block
four_bytes xs at h =
    let z : 4 - length (drop at xs) ≡ 0 = omega (arith, h, length-drop at xs) in
    ap (from_le_bytes w32) (sym (ap (λ k. take 4 (drop at xs) ++ replicate k 0) z ∙ append-nil (take 4 (drop at xs))))

number_first : (xs ys : List ℕ) (at : ℕ) → length xs ≡ 512 → at + 4 ≤ 128
    → u32_at (entry_at (xs ++ ys) 0) at ≡ u32_at xs at
number_first xs ys at long fits =
    let wide : length (block 128 (xs ++ ys) 0) ≡ 128 = length_block 128 (xs ++ ys) 0 in
    let zero_at : 0 + at ≡ at = omega arith in
    four_bytes (block 128 (xs ++ ys) 0) at (omega (arith, wide, fits))
    ∙ ap (λ zs. from_le_bytes w32 (block 4 zs at)) (block_first 128 xs ys 0 (omega (arith, long)))
    ∙ ap (from_le_bytes w32) (block_within 128 4 xs 0 at fits ∙ ap (block 4 xs) zero_at)
    ∙ sym (four_bytes xs at (omega (arith, long, fits)))

-- ---- a directory has whole sectors, the first of which has its root
directory_long : (file : List ℕ) (l : Layout) → length (directory_of file l) ≡ 512 * length l.directory
unfolding directory_of
directory_long file l = length_joined (sector file) 512 l.directory (λ n. length_block 512 file (512 + 512 * n))

directory_some : (file : List ℕ) (l : Layout) → kind (root_of file l) ≡ 5 → 0 < length l.directory
directory_some file l root =
    elim (cases_lt 0 (length l.directory)) [
      | inl lt ↦ lt
      | inr le ↦ absurd (kind_inside (directory_of file l) 0 4 root (omega (arith, le, directory_long file l)))
    ]

-- ---- the FAT of a file
counted_by : (file fat : List ℕ) → (sectors_of file fat).count ≡ min (128 * length fat) (sectors_in file)
unfolding sectors_of
counted_by file fat = refl

next_by : (file fat : List ℕ) (n : ℕ) → (sectors_of file fat).next n ≡ u32_at (joined (sector file) fat) (4 * n)
unfolding sectors_of
next_by file fat n = refl

header_is : (a b : HeaderValue) → ◌≡◌ {A = Result HeaderValue ChainFault} (Ok a) (Ok b) → a ≡ b
header_is a b h = cc

module _ (a p : List ℕ) (h : Alike a p) (t : Tree) (d : Denotes a t) where
  directory_agrees : AgreeOn a p d.layout.directory
  directory_agrees = h.directory d.layout.directory
      (subst (λ (fat : List ℕ). IsChain (sectors_of a fat) (first_directory a) 0 d.layout.directory)
      d.laid_out.fat_listed d.laid_out.directory)

  mini_fat_agrees : AgreeOn a p d.layout.mini_fat
  mini_fat_agrees = h.mini_fat d.layout.mini_fat
      (subst (λ (fat : List ℕ). IsChainOf (sectors_of a fat) (first_mini_fat a) (512 * mini_fat_count a)
      d.layout.mini_fat) d.laid_out.fat_listed d.laid_out.mini_fat)

  module _ (v : HeaderValue) (read : header_read p ≡ Ok v) where
    header_same : v ≡ header_of a
    header_same = header_is v (header_of a) (sym read ∙ sym (header_alike a p h.header h.len) ∙ read_whole a d.header)

    -- the sectors of the FAT and of the DIFAT
    pub fat_of : (ns : List ℕ) → ns ≡ fat_by p v → ns ≡ d.layout.fat
    fat_of ns is = is ∙ ap (λ (x : HeaderValue). fat_by p x) header_same
        ∙ sym (fat_by_alike a p (header_of a) h.difat) ∙ sym d.laid_out.fat_listed

    pub difat_of : (ns : List ℕ) → ns ≡ difat_by p v → ns ≡ d.layout.difat
    difat_of ns is = is ∙ ap (λ (x : HeaderValue). difat_by p x) header_same
        ∙ sym (difat_by_alike a p (header_of a) h.difat) ∙ sym d.laid_out.difat_listed

    -- the chains of the directory and of the mini FAT
    pub directory_of_header : IsChain (sectors a d.layout) v.first_directory 0 d.layout.directory
    directory_of_header = subst (λ (x : HeaderValue). IsChain (sectors a d.layout) x.first_directory 0
        d.layout.directory) (sym header_same) d.laid_out.directory

    pub mini_fat_of : IsChainOf (sectors a d.layout) v.first_mini_fat (512 * v.mini_fat_count) d.layout.mini_fat
    mini_fat_of = subst (λ (x : HeaderValue). IsChainOf (sectors a d.layout) x.first_mini_fat (512 * x.mini_fat_count)
        d.layout.mini_fat) (sym header_same) d.laid_out.mini_fat

    count_same : v.mini_fat_count ≡ mini_fat_count a
    count_same = ap (λ (x : HeaderValue). x.mini_fat_count) header_same

    -- what was read of the FAT is what lies in the other file
    pub entries_over : (fat table : List ℕ) → fat ≡ fat_by p v → length fat ≤ MOST_FAT_SECTORS
        → length table ≡ min (128 * length fat) (sectors_in p)
        → ((k : ℕ) → k < length table → get_or table k 0 ≡ u32_at (joined (sector p) fat) (4 * k))
        → IsFatOf a d.layout table
    entries_over fat table is few count each =
        let l : Layout = d.layout in
        let same : fat ≡ l.fat = fat_of fat is in
        let agree : AgreeOn a p l.fat = subst (λ (ns : List ℕ). AgreeOn a p ns) (sym d.laid_out.fat_listed) h.fat in
        record {
          few = omega (arith, few, count);
          count = count ∙ ap (λ (n : ℕ). min (128 * length fat) ((n + 511) / 512 - 1)) (sym h.len)
              ∙ ap (λ (ns : List ℕ). min (128 * length ns) (sectors_in a)) same ∙ sym (counted_by a l.fat);
          next = λ k lt. each k lt ∙ ap (λ (ns : List ℕ). u32_at (joined (sector p) ns) (4 * k)) same
              ∙ ap (λ (xs : List ℕ). u32_at xs (4 * k)) (sym (joined_alike a p l.fat agree))
              ∙ sym (next_by a l.fat k);
        }

    -- the root's entry says where the mini stream lies
    root_number : (front : List ℕ) (start at : ℕ) → start ≡ v.first_directory
        → front ≡ joined (sector p) (start ∷ []) → at + 4 ≤ 128 → u32_at front at ≡ u32_at (root_of a d.layout) at
    root_number front start at first is fits =
        let l : Layout = d.layout in
        let begins : start ≡ first_directory a = first ∙ ap (λ (x : HeaderValue). x.first_directory) header_same in
        let list : (rest : List ℕ) × (l.directory ≡ first_directory a ∷ rest) =
        leads_first (sectors a l).next (first_directory a) END_OF_CHAIN l.directory d.laid_out.directory.linked
        (directory_some a l d.root) in
        let agree : AgreeOn a p (first_directory a ∷ list.0) = subst (λ (xs : List ℕ). AgreeOn a p xs) list.1
        directory_agrees in
        let same : sector a (first_directory a) ≡ sector p (first_directory a) =
        All-head (λ n. sector a n ≡ sector p n) (first_directory a) list.0 agree in
        let bytes : sector a (first_directory a) ++ joined (sector a) list.0 ≡ directory_of a l =
        directory_joined a l (first_directory a ∷ list.0) (sym list.1) in
        ap (λ xs. u32_at xs at) (is ∙ append-nil (sector p start) ∙ ap (sector p) begins ∙ sym same)
        ∙ sym (number_first (sector a (first_directory a)) (joined (sector a) list.0) at
        (length_block 512 a (512 + 512 * first_directory a)) fits)
        ∙ ap (λ xs. u32_at (entry_at xs 0) at) bytes

    pub root_first : (front : List ℕ) (start n : ℕ) → start ≡ v.first_directory
        → front ≡ joined (sector p) (start ∷ []) → n ≡ u32_at front (4 * 29) → n ≡ first_of (root_of a d.layout)
    root_first front start n first is e = e ∙ root_number front start 116 first is (omega arith)

    pub root_size : (front : List ℕ) (start n : ℕ) → start ≡ v.first_directory
        → front ≡ joined (sector p) (start ∷ []) → n ≡ u32_at front (4 * 30) → n ≡ size_of (root_of a d.layout)
    root_size front start n first is e = e ∙ root_number front start 120 first is (omega arith)

    -- what the mini FAT was read as is what lies in the other file
    pub next_same : (λ (n : ℕ). u32_at (joined (sector p) (take v.mini_fat_count d.layout.mini_fat)) (4 * n))
        ≡ (minis a d.layout).next
    next_same =
        let bytes_same : joined (sector p) (take v.mini_fat_count d.layout.mini_fat)
        ≡ joined (sector a) (take (mini_fat_count a) d.layout.mini_fat) =
        sym (joined_alike a p (take v.mini_fat_count d.layout.mini_fat)
        (All-take (λ n. sector a n ≡ sector p n) v.mini_fat_count d.layout.mini_fat mini_fat_agrees))
        ∙ ap (λ n. joined (sector a) (take n d.layout.mini_fat)) count_same in
        ap (λ (xs : List ℕ). (λ (n : ℕ). u32_at xs (4 * n))) bytes_same ∙ sym (next_all a d.layout)
