-- The parts of a file in which its streams lie, as they are read.
use Rattle.std.proofs.Common.{◌≡◌, ◌<◌, ◌≤◌, ◌+◌, ◌*◌, ◌/◌, ◌++◌, ◌∙◌, ℕ, zero, suc, Option, Some, None, IfNone, IfSome}
use Rattle.std.proofs.Common.{Vec, Global, List, [], arith, length, length-take, get_or, min, take, refl, sym, ap}
use Rattle.std.proofs.Common.{subst}
use Rattle.std.proofs.lemmas.List.Elements.{All-take}
use Rattle.std.specs.List.{All}
use Rattle.cfb_header.specs.Bytes.{joined, sector, u32_at}
use Rattle.cfb_header.specs.Header.{difat, first_directory, first_mini_fat, listed, mini_fat_count}
use Rattle.cfb_chains.specs.Chain.{IsChain, IsChainOf, Store}
use Rattle.cfb_chains.specs.Fat.{FatValue, mini_sectors_of, sectors_of, store_of}
use Rattle.cfb_chains.proofs.Blocks.{length_block, length_joined}
use Rattle.cfb_chains.proofs.Chains.{chain_below, chain_once, chain_one, joined_same}
use Rattle.cfb_entries.specs.Entries.{entry_at, first_of, size_of}
use Rattle.cfb_file.specs.Denotes.{IsLaidOut, Layout, directory_of, minis, root_of, sectors}
use Rattle.cfb_faults.specs.Faults.{base_in}
use Rattle.tell_faults.specs.Places.{IsNotWhole}
use Rattle.tell_faults.specs.Tables.{AreTablesOf, IsTabled}
use Rattle.tell_chains.specs.Streams.{ArePartsOf, IsBaseOf}
use Rattle.tell_chains.specs.declared.parts.Parts.{Parts}
use Rattle.tell_faults.specs.declared.walking.Chain.{Chain}
use Rattle.tell_faults.proofs.Places.{pieces_by, width_by}
use Rattle.tell_faults.proofs.Walks.{chain_of_some, some_of_chain}

-- a chain of nothing
pub chain_none : (s : Store) (start size : ℕ) (ns : List ℕ) → size ≡ 0 → ns ≡ [] → IsChainOf s start size ns
chain_none s start size ns e n = subst (λ (x : ℕ). IsChainOf s start x ns) (sym e) n

pub some_chain : (table : List ℕ) (c : Chain) (v : Option (Vec ℕ Global)) → 0 < c.size
    → IfSome v (λ ns. (s : Store) → IsTabled table s → s.width ≡ c.width → IsChain s c.first c.size ns.items)
    → IfSome v (λ ns. (s : Store) → IsTabled table s → s.width ≡ c.width → IsChainOf s c.first c.size ns.items)
some_chain table c None some h = tt
some_chain table c (Some ns) some h = λ s t w. chain_of_some s c.first c.size ns.items some (h s t w)

pub no_chain_of : (table : List ℕ) (c : Chain) (v : Option (Vec ℕ Global)) → 0 < c.size → IfNone v (IsNotWhole table c)
    → IfNone v ((s : Store) → IsTabled table s → s.width ≡ c.width → (ns : List ℕ) → IsChainOf s c.first c.size ns → ⊥)
no_chain_of table c None some h = λ s t w ns g. h s t w ns (some_of_chain s c.first c.size ns some g)
no_chain_of table c (Some ns) some h = tt

-- a chain has room
room_of : (s : Store) (start size : ℕ) (ns : List ℕ) → IsChainOf s start size ns → size ≤ s.width * length ns
room_of s start zero ns h = omega arith
room_of s start (suc n) ns h = h.enough

pub counted_in : (file : List ℕ) (start count : ℕ) (ns : List ℕ)
    → IsChainOf (sectors_of file (listed file)) start (512 * count) ns → count ≤ length ns
counted_in file start count ns h =
    let room : 512 * count ≤ 512 * length ns = subst (λ (w : ℕ). 512 * count ≤ w * length ns)
    (width_by file (listed file)) (room_of (sectors_of file (listed file)) start (512 * count) ns h) in
    omega (arith, room)

mini_count : (file mini_fat stream : List ℕ) (size : ℕ) → (mini_sectors_of file mini_fat stream size).count
    ≡ min (128 * length mini_fat) ((size + 63) / 64)
unfolding mini_sectors_of
mini_count file mini_fat stream size = refl

mini_next : (file mini_fat stream : List ℕ) (size n : ℕ) → (mini_sectors_of file mini_fat stream size).next n
    ≡ u32_at (joined (sector file) mini_fat) (4 * n)
unfolding mini_sectors_of
mini_next file mini_fat stream size n = refl

mini_width : (file mini_fat stream : List ℕ) (size : ℕ) → (mini_sectors_of file mini_fat stream size).width ≡ 64
unfolding mini_sectors_of
mini_width file mini_fat stream size = refl

module _ (file : List ℕ) (f : FatValue) (lists table : List ℕ) (t : AreTablesOf file f lists table) where
  -- the sectors of a chain are in the table
  pub chain_inside : (start size : ℕ) (ns : List ℕ) → IsChainOf (sectors_of file (listed file)) start size ns
      → All (λ n. n < length f.table) ns
  chain_inside start size ns h = subst (λ (c : ℕ). All (λ n. n < c) ns) (sym t.same.count)
      (chain_below (sectors_of file (listed file)) start size ns h)

  pub front_inside : (start size k : ℕ) (ns : List ℕ) → IsChainOf (sectors_of file (listed file)) start size ns
      → All (λ n. n < length f.table) (take k ns)
  front_inside start size k ns h = All-take (λ n. n < length f.table) k ns (chain_inside start size ns h)

  pub front_joined : (start size k : ℕ) (ns bytes : List ℕ)
      → IsChainOf (sectors_of file (listed file)) start size ns → bytes ≡ joined (store_of f).piece (take k ns)
      → bytes ≡ joined (sector file) (take k ns)
  front_joined start size k ns bytes h e =
      e ∙ joined_same (store_of f) (sectors_of file (listed file)) t.same (take k ns)
      (front_inside start size k ns h) ∙ pieces_by file (listed file) (take k ns)

  -- a chain of sectors, by the table
  pub chain_in : (seen : List ℕ) (c : Chain) (first size : ℕ) (ns seen_ns : List ℕ)
      → ((s : Store) → IsTabled seen s → s.width ≡ c.width → IsChainOf s c.first c.size ns) → seen ≡ table
      → c.first ≡ first → c.size ≡ size → c.width ≡ 512 → seen_ns ≡ ns
      → IsChainOf (sectors_of file (listed file)) first size seen_ns
  chain_in seen c first size ns seen_ns e s a b w n =
      let tabled : IsTabled seen (sectors_of file (listed file)) =
      subst (λ (xs : List ℕ). IsTabled xs (sectors_of file (listed file))) (sym s) t.tabled in
      let at : IsChainOf (sectors_of file (listed file)) c.first c.size ns =
      e (sectors_of file (listed file)) tabled (width_by file (listed file) ∙ sym w) in
      subst (λ (xs : List ℕ). IsChainOf (sectors_of file (listed file)) first size xs) (sym n)
      (subst (λ (x : ℕ). IsChainOf (sectors_of file (listed file)) x size ns) a
      (subst (λ (x : ℕ). IsChainOf (sectors_of file (listed file)) c.first x ns) b at))

-- how many bytes sectors have
pub long_joined : (file ns : List ℕ) → length (joined (sector file) ns) ≡ 512 * length ns
long_joined file ns = length_joined (sector file) 512 ns (λ n. length_block 512 file (512 + 512 * n))

-- the mini FAT's entries
pub mini_tabled : (file mini_fat bytes seen v : List ℕ) (start count size entries : ℕ)
    → IsChainOf (sectors_of file (listed file)) start (512 * count) mini_fat
    → bytes ≡ joined (sector file) (take count mini_fat)
    → seen ≡ bytes → entries ≡ min (128 * count) ((size + 63) / 64) → length v ≡ entries
    → ((k : ℕ) → k < entries → get_or v k 0 ≡ u32_at seen (4 * k))
    → (stream : List ℕ) → IsTabled v (mini_sectors_of file (take count mini_fat) stream size)
mini_tabled file mini_fat bytes seen v start count size entries h b s is n each stream =
    let long : length (take count mini_fat) ≡ min count (length mini_fat) = length-take count mini_fat in
    let taken : length (take count mini_fat) ≡ count = omega (arith, long, counted_in file start count mini_fat h) in
    record {
      count = mini_count file (take count mini_fat) stream size ∙ ap (λ (x : ℕ). min (128 * x) ((size + 63) / 64))
          taken ∙ sym is ∙ sym n;
      next = λ k lt. each k (subst (λ (x : ℕ). k < x) n lt) ∙ ap (λ (xs : List ℕ). u32_at xs (4 * k)) (s ∙ b)
          ∙ sym (mini_next file (take count mini_fat) stream size k);
    }

-- all of them
pub parts_are : (file : List ℕ) (f : FatValue) (lists table : List ℕ) (t : AreTablesOf file f lists table)
    (ns mini_fat mini_stream dir : List ℕ) (first size count : ℕ) (p : Parts)
    → IsChain (sectors_of file (listed file)) (first_directory file) 0 ns → count ≡ mini_fat_count file
    → IsChainOf (sectors_of file (listed file)) (first_mini_fat file) (512 * count) mini_fat
    → dir ≡ joined (sector file) ns → first ≡ first_of (entry_at dir 0) → size ≡ size_of (entry_at dir 0)
    → IsChainOf (sectors_of file (listed file)) first size mini_stream
    → p.directory.items ≡ dir → p.table.items ≡ table → p.own.items ≡ lists ++ ns ++ mini_fat ++ mini_stream
    → ((stream : List ℕ) → IsTabled p.minis.items (mini_sectors_of file (take count mini_fat) stream size))
    → length p.minis.items ≤ 0xFFFFFFF9 → ArePartsOf file p
unfolding directory_of
parts_are file f lists table t ns mini_fat mini_stream dir first size count p d c m j fi si ms pd pt po tabled few =
    let l : Layout = record {
      fat = listed file;
      difat = difat file;
      directory = ns;
      mini_fat = mini_fat;
      mini_stream = mini_stream;
    } in
    let dir_is : dir ≡ directory_of file l = j in
    let first_is : first ≡ first_of (root_of file l) = fi ∙ ap (λ (x : List ℕ). first_of (entry_at x 0)) dir_is in
    let size_is : size ≡ size_of (root_of file l) = si ∙ ap (λ (x : List ℕ). size_of (entry_at x 0)) dir_is in
    let laid : IsLaidOut file l = record {
      fat_listed = refl;
      difat_listed = refl;
      fat_sectors = t.is_fat;
      directory = d;
      mini_fat = subst (λ (x : ℕ). IsChainOf (sectors_of file (listed file)) (first_mini_fat file) (512 * x)
          mini_fat) c m;
      mini_stream = subst (λ (x : ℕ). IsChainOf (sectors_of file (listed file)) x (size_of (root_of file l))
          mini_stream) first_is
          (subst (λ (x : ℕ). IsChainOf (sectors_of file (listed file)) first x mini_stream) size_is ms);
    } in
    let one : IsTabled p.minis.items (mini_sectors_of file (take (mini_fat_count file) mini_fat) mini_stream size) =
    subst (λ (x : ℕ). IsTabled p.minis.items (mini_sectors_of file (take x mini_fat) mini_stream size)) c
    (tabled mini_stream) in
    let two : IsTabled p.minis.items (minis file l) =
    subst (λ (x : ℕ). IsTabled p.minis.items
    (mini_sectors_of file (take (mini_fat_count file) mini_fat) mini_stream x)) size_is one in
    let base : IsBaseOf p (base_in file l) = record {
      directory = pd ∙ dir_is;
      own = po ∙ ap (λ (xs : List ℕ). xs ++ ns ++ mini_fat ++ mini_stream) t.lists_are;
      tabled = subst (λ (xs : List ℕ). IsTabled xs (sectors file l)) (sym pt) t.tabled;
      wide = width_by file (listed file);
      tabled_minis = two;
      narrow = mini_width file (take (mini_fat_count file) mini_fat) mini_stream (size_of (root_of file l));
    } in
    ((subst (λ (xs : List ℕ). length xs ≤ 0xFFFFFFF9) (sym pt) t.few, few), (l, laid, base))

-- ---- a file has one layout
module _ (file : List ℕ) (l : Layout) (laid : IsLaidOut file l) where
  pub directory_laid : IsChain (sectors_of file (listed file)) (first_directory file) 0 l.directory
  directory_laid = subst (λ (x : List ℕ). IsChain (sectors_of file x) (first_directory file) 0 l.directory)
      laid.fat_listed laid.directory

  pub mini_fat_laid : IsChainOf (sectors_of file (listed file)) (first_mini_fat file) (512 * mini_fat_count file)
      l.mini_fat
  mini_fat_laid = subst (λ (x : List ℕ). IsChainOf (sectors_of file x) (first_mini_fat file)
      (512 * mini_fat_count file) l.mini_fat) laid.fat_listed laid.mini_fat

  pub mini_stream_laid : (ns : List ℕ) → l.directory ≡ ns
      → IsChainOf (sectors_of file (listed file)) (first_of (entry_at (joined (sector file) ns) 0))
      (size_of (entry_at (joined (sector file) ns) 0)) l.mini_stream
  unfolding directory_of
  mini_stream_laid ns same =
      subst (λ (x : List ℕ). IsChainOf (sectors_of file (listed file)) (first_of (entry_at (joined (sector file) x) 0))
      (size_of (entry_at (joined (sector file) x) 0)) l.mini_stream) same
      (subst (λ (x : List ℕ). IsChainOf (sectors_of file x)
      (first_of (entry_at (joined (sector file) l.directory) 0))
      (size_of (entry_at (joined (sector file) l.directory) 0)) l.mini_stream) laid.fat_listed laid.mini_stream)

  pub directory_same : (ns : List ℕ) → IsChain (sectors_of file (listed file)) (first_directory file) 0 ns
      → l.directory ≡ ns
  directory_same ns h = chain_one (sectors_of file (listed file)) (first_directory file) l.directory ns directory_laid h

pub one_layout : (file : List ℕ) (l m : Layout) → IsLaidOut file l → IsLaidOut file m → l ≡ m
one_layout file l m a b =
    let fat : l.fat ≡ m.fat = a.fat_listed ∙ sym b.fat_listed in
    let difat : l.difat ≡ m.difat = a.difat_listed ∙ sym b.difat_listed in
    let dir : l.directory ≡ m.directory = directory_same file l a m.directory (directory_laid file m b) in
    let mini : l.mini_fat ≡ m.mini_fat =
    chain_once (sectors_of file (listed file)) (first_mini_fat file) (512 * mini_fat_count file) l.mini_fat m.mini_fat
    (mini_fat_laid file l a) (mini_fat_laid file m b) in
    let stream : l.mini_stream ≡ m.mini_stream =
    chain_once (sectors_of file (listed file)) (first_of (entry_at (joined (sector file) m.directory) 0))
    (size_of (entry_at (joined (sector file) m.directory) 0)) l.mini_stream m.mini_stream
    (mini_stream_laid file l a m.directory dir) (mini_stream_laid file m b m.directory refl) in
    λ i. record {
      fat = fat i;
      difat = difat i;
      directory = dir i;
      mini_fat = mini i;
      mini_stream = stream i;
    }

-- ---- a file with a part at fault has none
pub no_directory : (file : List ℕ)
    → ((ns : List ℕ) → IsChain (sectors_of file (listed file)) (first_directory file) 0 ns → ⊥)
    → (l : Layout) → IsLaidOut file l → ⊥
no_directory file none l laid = none l.directory (directory_laid file l laid)

pub no_mini_fat : (file : List ℕ) → ((ns : List ℕ)
    → IsChainOf (sectors_of file (listed file)) (first_mini_fat file) (512 * mini_fat_count file) ns → ⊥)
    → (l : Layout) → IsLaidOut file l → ⊥
no_mini_fat file none l laid = none l.mini_fat (mini_fat_laid file l laid)

pub no_mini_stream : (file ns dir : List ℕ)
    → IsChain (sectors_of file (listed file)) (first_directory file) 0 ns → dir ≡ joined (sector file) ns
    → ((ms : List ℕ)
    → IsChainOf (sectors_of file (listed file)) (first_of (entry_at dir 0)) (size_of (entry_at dir 0)) ms → ⊥)
    → (l : Layout) → IsLaidOut file l → ⊥
no_mini_stream file ns dir h is none l laid =
    none l.mini_stream
    (subst (λ (x : List ℕ). IsChainOf (sectors_of file (listed file)) (first_of (entry_at x 0))
    (size_of (entry_at x 0)) l.mini_stream) (sym is)
    (mini_stream_laid file l laid ns (directory_same file l laid ns h)))

-- no chain of a file, by its table
pub not_chain_in : (file table seen : List ℕ) (c : Chain) (first size : ℕ)
    → IsTabled table (sectors_of file (listed file)) → seen ≡ table
    → ((s : Store) → IsTabled seen s → s.width ≡ c.width → (ns : List ℕ) → IsChainOf s c.first c.size ns → ⊥)
    → c.first ≡ first → c.size ≡ size → c.width ≡ 512
    → (ns : List ℕ) → IsChainOf (sectors_of file (listed file)) first size ns → ⊥
not_chain_in file table seen c first size t same none a b w ns h =
    none (sectors_of file (listed file))
    (subst (λ (x : List ℕ). IsTabled x (sectors_of file (listed file))) (sym same) t)
    (width_by file (listed file) ∙ sym w) ns
    (subst (λ (x : ℕ). IsChainOf (sectors_of file (listed file)) c.first x ns) (sym b)
    (subst (λ (x : ℕ). IsChainOf (sectors_of file (listed file)) x size ns) (sym a) h))

-- a directory has whole entries
pub whole_directory : (file : List ℕ) (p : Parts) → ArePartsOf file p
    → (m : ℕ) × (length p.directory.items ≡ 128 * m)
unfolding directory_of
whole_directory file p h =
    let l : Layout = h.1.0 in
    let base : IsBaseOf p (base_in file l) = h.1.2 in
    let long : length p.directory.items ≡ 512 * length l.directory =
    ap (λ (x : List ℕ). length x) base.directory ∙ long_joined file l.directory in
    (4 * length l.directory, omega (arith, long))
