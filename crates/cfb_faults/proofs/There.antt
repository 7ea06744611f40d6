-- The parts of a file that denotes a tree are there to be read.
use Rattle.std.proofs.Common.{◌≡◌, ◌≢◌, ◌<◌, ◌+◌, ◌*◌, ◌/◌, inl, inr, ℕ, true, false, List, [], ◌∷◌, ◌++◌, length}
use Rattle.std.proofs.Common.{get_or, replicate, refl, sym, ◌∙◌, ap, subst, arith, append_assoc, get_or-set_other}
use Rattle.std.proofs.lemmas.List.{get_or-replicate}
use Rattle.std.proofs.lemmas.List.Elements.{All-append}
use Rattle.std.specs.List.{All}
use Rattle.cfb_header.specs.Bytes.{joined, sector}
use Rattle.cfb_chains.specs.Chain.{AreDistinct, IsChain, IsChainOf}
use Rattle.cfb_chains.specs.Fat.{AreFree, AreSame, FatValue, IsFat, IsMiniFound, IsTableOf, sectors_of, store_of}
use Rattle.cfb_chains.specs.Fat.{set_all}
use Rattle.cfb_header.specs.Header.{HeaderValue, difat, first_directory, first_mini_fat, header_of, listed}
use Rattle.cfb_header.specs.Header.{mini_fat_count}
use Rattle.cfb_chains.proofs.Blocks.{length_block, length_joined}
use Rattle.cfb_chains.proofs.Chains.{chain_below, chain_of_same, chain_same, same_back}
use Rattle.cfb_chains.proofs.Marks.{distinct_left, free_when, marks_load}
use Rattle.cfb_entries.specs.Entries.{EntriesValue, MayRefuseEntry, MayRefuseLoad, entry_at, first_of, kind, size_of}
use Rattle.cfb_names.specs.declared.fault.DirFault.{DirFault}
use Rattle.cfb_names.specs.declared.fault.DirFault.TheVariants.{NameEmpty, NameTooLong, NameNotAscii, NameForbidden}
use Rattle.cfb_names.specs.declared.fault.DirFault.TheVariants.{DuplicateName, BadEntry, TreeCycle, TooNested, NoMemory}
use Rattle.cfb_entries.proofs.Marks.{set_all-there}
use Rattle.cfb_entries.specs.Tree.{Tree}
use Rattle.cfb_file.specs.Denotes.{Denotes, directory_of, root_of}
use Rattle.cfb_faults.proofs.EntryKinds.{kind_inside}
use Rattle.cfb_faults.proofs.Opened.{IsOpened}
use Rattle.cfb_file.proofs.Unique.{chain_unique}

-- the root of loaded entries is marked
pub root_marked : (e : EntriesValue) (count : ℕ) → e.used ≡ set_all (replicate count false) (0 ∷ [])
    → get_or e.used 0 true ≡ true
root_marked e count is = ap (λ us. get_or us 0 true) is ∙ set_all-there (replicate count false) (0 ∷ []) 0
    (0, omega arith, refl)

-- others aren't
pub others_free : (e : EntriesValue) (n : ℕ) → e.used ≡ set_all (replicate (length e.directory / 128) false)
    (0 ∷ []) → n ≢ 0 → n < length e.directory / 128
    → get_or e.used n true ≡ false
others_free e n is ne lt =
    let count : ℕ = length e.directory / 128 in
    ap (λ us. get_or us n true) is ∙ get_or-set_other (replicate count false) 0 n true true ne
    ∙ get_or-replicate count n false true lt

module _ (file : List ℕ) (t : Tree) (d : Denotes file t) where
  -- the FAT
  pub fat_there : (h : HeaderValue) → h ≡ header_of file → IsFat file h
  fat_there h is = subst (IsFat file) (sym is) d.laid_out.fat_sectors

  chain : IsChain (sectors_of file (listed file)) (first_directory file) 0 d.layout.directory
  chain = subst (λ (xs : List ℕ). IsChain (sectors_of file xs) (first_directory file) 0 d.layout.directory)
      d.laid_out.fat_listed d.laid_out.directory

  -- the sectors of the directory, the mini FAT and the mini stream
  apart : AreDistinct ((listed file ++ difat file ++ d.layout.directory) ++ (d.layout.mini_fat ++ d.layout.mini_stream))
  apart =
      let all : AreDistinct (d.layout.fat ++ d.layout.difat ++ d.layout.directory ++ d.layout.mini_fat
      ++ d.layout.mini_stream) =
      distinct_left (d.layout.fat ++ d.layout.difat ++ d.layout.directory ++ d.layout.mini_fat
      ++ d.layout.mini_stream) d.used.sectors d.sectors_apart in
      subst (λ (xs : List ℕ). AreDistinct ((xs ++ difat file ++ d.layout.directory)
      ++ (d.layout.mini_fat ++ d.layout.mini_stream))) d.laid_out.fat_listed
      (subst (λ (xs : List ℕ). AreDistinct ((d.layout.fat ++ xs ++ d.layout.directory)
      ++ (d.layout.mini_fat ++ d.layout.mini_stream))) d.laid_out.difat_listed
      (subst AreDistinct (append_assoc (d.layout.fat ++ d.layout.difat ++ d.layout.directory) d.layout.mini_fat
      d.layout.mini_stream) all))

  pub directory_there : (h : HeaderValue) (f : FatValue) → h ≡ header_of file → IsTableOf file h f
      → (ns : List ℕ) × IsChain (store_of f) h.first_directory 0 ns × AreFree f ns
  directory_there h f is table =
      let table' : IsTableOf file (header_of file) f = subst (λ (x : HeaderValue). IsTableOf file x f) is table in
      let here : IsChain (store_of f) (first_directory file) 0 d.layout.directory =
      chain_same (sectors_of file (listed file)) (store_of f) (same_back table'.sectors) (first_directory file) 0
      d.layout.directory chain in
      let below : All (λ n. n < length f.table) d.layout.directory = λ k x lt. (here.present k x lt).1 in (
        d.layout.directory,
        subst (λ (x : HeaderValue). IsChain (store_of f) x.first_directory 0 d.layout.directory) (sym is) here,
        free_when f (listed file ++ difat file) d.layout.directory (marks_load file (header_of file) f table')
            (distinct_left (listed file ++ difat file ++ d.layout.directory)
            (d.layout.mini_fat ++ d.layout.mini_stream) apart) below,
      )

  module _ (fat : FatValue) (directory bytes : List ℕ) (o : IsOpened file fat directory bytes) where
    same_directory : directory ≡ d.layout.directory
    same_directory = chain_unique (sectors_of file (listed file)) (first_directory file) 0 directory
        d.layout.directory o.chain chain

    same_bytes : bytes ≡ directory_of file d.layout
    unfolding directory_of
    same_bytes = o.bytes_are ∙ ap (joined (sector file)) same_directory

    root_kind : kind (entry_at bytes 0) ≡ 5
    root_kind = ap (λ x. kind (entry_at x 0)) same_bytes ∙ d.root

    length_bytes : length bytes ≡ 512 * length directory
    length_bytes = ap (λ (x : List ℕ). length x) o.bytes_are ∙ length_joined (sector file) 512 directory
        (λ n. length_block 512 file (512 + 512 * n))

    pub load_not_refused : (fault : DirFault) → MayRefuseLoad bytes fault → fault ≡ NoMemory
    load_not_refused NameEmpty r = absurd r
    load_not_refused NameTooLong r = absurd r
    load_not_refused NameNotAscii r = absurd r
    load_not_refused NameForbidden r = absurd r
    load_not_refused DuplicateName r = absurd r
    load_not_refused BadEntry r = absurd (kind_inside bytes 0 4 root_kind (omega (arith, length_bytes, r)))
    load_not_refused TreeCycle r = absurd r
    load_not_refused TooNested r = absurd r
    load_not_refused NoMemory r = refl

    pub root_not_refused : (fault : DirFault) → MayRefuseEntry bytes 0 fault → ⊥
    root_not_refused NameEmpty r = r.0 refl
    root_not_refused NameTooLong r = r.0 refl
    root_not_refused NameNotAscii r = r.0 refl
    root_not_refused NameForbidden r = r.0 refl
    root_not_refused DuplicateName r = r
    root_not_refused BadEntry (inl le) = kind_inside bytes 0 4 root_kind le
    root_not_refused BadEntry (inr (inl other)) = other root_kind
    root_not_refused BadEntry (inr (inr odd)) = odd.0 refl
    root_not_refused TreeCycle r = r
    root_not_refused TooNested r = r
    root_not_refused NoMemory r = r

    pub mini_there : (h : HeaderValue) (first size : ℕ) → h ≡ header_of file → first ≡ first_of (entry_at bytes 0)
        → size ≡ size_of (entry_at bytes 0)
        → IsMiniFound fat h.first_mini_fat h.mini_fat_count first size d.layout.mini_fat d.layout.mini_stream
    mini_there h first size is f s =
        let first_is : first ≡ first_of (root_of file d.layout) = f ∙ ap (λ x. first_of (entry_at x 0)) same_bytes in
        let size_is : size ≡ size_of (root_of file d.layout) = s ∙ ap (λ x. size_of (entry_at x 0)) same_bytes in
        let back : AreSame (sectors_of file (listed file)) (store_of fat) = same_back o.same in
        let table : IsChainOf (store_of fat) (first_mini_fat file) (512 * mini_fat_count file) d.layout.mini_fat =
        chain_of_same (sectors_of file (listed file)) (store_of fat) back (first_mini_fat file)
        (512 * mini_fat_count file) d.layout.mini_fat
        (subst (λ (xs : List ℕ). IsChainOf (sectors_of file xs) (first_mini_fat file) (512 * mini_fat_count file)
        d.layout.mini_fat) d.laid_out.fat_listed d.laid_out.mini_fat) in
        let stream : IsChainOf (store_of fat) first size d.layout.mini_stream =
        chain_of_same (sectors_of file (listed file)) (store_of fat) back first size d.layout.mini_stream
        (subst (λ (x : ℕ). IsChainOf (sectors_of file (listed file)) x size d.layout.mini_stream) (sym first_is)
        (subst (λ (x : ℕ). IsChainOf (sectors_of file (listed file)) (first_of (root_of file d.layout)) x
        d.layout.mini_stream) (sym size_is)
        (subst (λ (xs : List ℕ). IsChainOf (sectors_of file xs) (first_of (root_of file d.layout))
        (size_of (root_of file d.layout)) d.layout.mini_stream)
        d.laid_out.fat_listed d.laid_out.mini_stream))) in
        let below : All (λ n. n < length fat.table) (d.layout.mini_fat ++ d.layout.mini_stream) =
        All-append (λ n. n < length fat.table) d.layout.mini_fat d.layout.mini_stream
        (chain_below (store_of fat) (first_mini_fat file) (512 * mini_fat_count file) d.layout.mini_fat table)
        (chain_below (store_of fat) first size d.layout.mini_stream stream) in
        record {
          table = subst (λ (x : HeaderValue). IsChainOf (store_of fat) x.first_mini_fat (512 * x.mini_fat_count)
              d.layout.mini_fat) (sym is) table;
          stream = stream;
          free = free_when fat (listed file ++ difat file ++ directory) (d.layout.mini_fat ++ d.layout.mini_stream)
              o.marks
              (subst (λ (xs : List ℕ). AreDistinct ((listed file ++ difat file ++ xs)
              ++ (d.layout.mini_fat ++ d.layout.mini_stream))) (sym same_directory) apart) below;
        }
