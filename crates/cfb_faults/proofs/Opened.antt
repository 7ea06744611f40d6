-- The parts of a file as they are read.
use Rattle.std.proofs.Common.{◌≡◌, ◌<◌, ◌*◌, ℕ, List, [], ◌++◌, Result, Ok, length, take, refl, sym, ◌∙◌, ap, subst}
use Rattle.std.proofs.Common.{append_assoc}
use Rattle.std.proofs.lemmas.List.Elements.{All-take}
use Rattle.std.specs.List.{All}
use Rattle.cfb_header.specs.Bytes.{joined, sector}
use Rattle.cfb_chains.specs.Chain.{IsChain, IsChainOf, Store}
use Rattle.cfb_chains.specs.Fat.{AreFree, AreSame, FatValue, IsFat, IsMiniFound, IsMiniTable, IsTableOf, marked}
use Rattle.cfb_chains.specs.Fat.{sectors_of, store_of}
use Rattle.cfb_header.specs.Header.{HeaderValue, IsHeader, difat, first_directory, first_mini_fat, header_of}
use Rattle.cfb_header.specs.Header.{header_read, listed, mini_fat_count}
use Rattle.cfb_header.specs.declared.fault.ChainFault.{ChainFault}
use Rattle.cfb_chains.proofs.Chains.{chain_below, chain_of_same, chain_same, joined_same}
use Rattle.cfb_header.proofs.Headers.{read_whole}
use Rattle.cfb_chains.proofs.Marks.{Marks, marks_load, marks_more, marks_none}
use Rattle.cfb_chains.proofs.Tables.{mini_same}
use Rattle.cfb_entries.specs.Entries.{entry_at, first_of, size_of}
use Rattle.cfb_file.specs.Denotes.{IsLaidOut, Layout, directory_of, minis, root_of, sectors}

header_is : (a b : HeaderValue) → ◌≡◌ {A = Result HeaderValue ChainFault} (Ok a) (Ok b) → a ≡ b
header_is a b h = cc

-- the header that is read
pub read_header : (file : List ℕ) (h : HeaderValue) → IsHeader file → Ok h ≡ header_read file → h ≡ header_of file
read_header file h is read = header_is h (header_of file) (read ∙ read_whole file is)

-- ---- as they are read
-- the FAT and the directory
pub record IsOpened (file : List ℕ) (fat : FatValue) (directory bytes : List ℕ) : Type 0 where
  pub is_fat : IsFat file (header_of file)
  pub same : AreSame (store_of fat) (sectors_of file (listed file))
  pub marks : Marks fat (listed file ++ difat file ++ directory)
  pub chain : IsChain (sectors_of file (listed file)) (first_directory file) 0 directory
  pub bytes_are : bytes ≡ joined (sector file) directory

-- the store of a file's sectors joins them as they stand in the file
sectors_joined : (file fat ns : List ℕ) → joined (sectors_of file fat).piece ns ≡ joined (sector file) ns
unfolding sectors_of
sectors_joined file fat ns = refl

chain_present : (s : Store) (start bytes : ℕ) (ns : List ℕ) → IsChain s start bytes ns → All (λ n. n < s.count) ns
chain_present s start bytes ns h = λ k d l. (h.present k d l).1

pub opened : (file : List ℕ) (h : HeaderValue) (f fat : FatValue) (directory bytes : List ℕ) → h ≡ header_of file
    → IsTableOf file h f
    → IsChain (store_of f) h.first_directory 0 directory → AreFree f directory → fat ≡ marked f directory
    → bytes ≡ joined (store_of fat).piece directory
    → IsOpened file fat directory bytes
opened file h f fat directory bytes is table chain free after joined_are =
    let table' : IsTableOf file (header_of file) f = subst (λ (x : HeaderValue). IsTableOf file x f) is table in
    let chain' : IsChain (store_of f) (first_directory file) 0 directory =
    subst (λ (x : HeaderValue). IsChain (store_of f) x.first_directory 0 directory) is chain in
    let P : FatValue → Type 0 = λ x. bytes ≡ joined (store_of x).piece directory → IsOpened file x directory bytes in
    subst P (sym after) (λ j. record {
      is_fat = table'.is_fat;
      same = table'.sectors;
      marks = marks_more f (listed file ++ difat file) directory (marks_load file (header_of file) f table') free;
      chain = chain_same (store_of f) (sectors_of file (listed file)) table'.sectors (first_directory file) 0
          directory chain';
      bytes_are = j ∙ joined_same (store_of f) (sectors_of file (listed file)) table'.sectors directory
          (chain_present (store_of f) (first_directory file) 0 directory chain')
          ∙ sectors_joined file (listed file) directory;
    }) joined_are

-- all tables
pub record IsReady (file : List ℕ) (l : Layout) (fat mini : FatValue) (bytes : List ℕ) : Type 0 where
  pub laid_out : IsLaidOut file l
  pub bytes_are : bytes ≡ directory_of file l
  pub same : AreSame (store_of fat) (sectors file l)
  pub same_minis : AreSame (store_of mini) (minis file l)
  pub marks : Marks fat (l.fat ++ l.difat ++ l.directory ++ l.mini_fat ++ l.mini_stream)
  pub mini_marks : Marks mini []

pub ready : (file : List ℕ) (h : HeaderValue) (fat fat' mini : FatValue) (directory bytes : List ℕ) (first size : ℕ)
    (mini_fat mini_stream : List ℕ)
    → h ≡ header_of file → IsOpened file fat directory bytes → first ≡ first_of (entry_at bytes 0)
    → size ≡ size_of (entry_at bytes 0)
    → IsMiniFound fat h.first_mini_fat h.mini_fat_count first size mini_fat mini_stream
    → IsMiniTable fat (take h.mini_fat_count mini_fat) mini_stream size mini
    → fat' ≡ marked fat (mini_fat ++ mini_stream)
    → IsReady file (record {
      fat = listed file;
      difat = difat file;
      directory = directory;
      mini_fat = mini_fat;
      mini_stream = mini_stream;
    }) fat' mini bytes
unfolding directory_of
ready file h fat fat' mini directory bytes first size mini_fat mini_stream is o f s found table after =
    let l : Layout = record {
      fat = listed file;
      difat = difat file;
      directory = directory;
      mini_fat = mini_fat;
      mini_stream = mini_stream;
    } in
    let bytes_are : bytes ≡ directory_of file l = o.bytes_are in
    let first_is : first ≡ first_of (root_of file l) = f ∙ ap (λ x. first_of (entry_at x 0)) bytes_are in
    let size_is : size ≡ size_of (root_of file l) = s ∙ ap (λ x. size_of (entry_at x 0)) bytes_are in
    let in_fat : IsChainOf (store_of fat) (first_mini_fat file) (512 * mini_fat_count file) mini_fat =
    subst (λ (x : HeaderValue). IsChainOf (store_of fat) x.first_mini_fat (512 * x.mini_fat_count) mini_fat) is
    found.table in
    let in_stream : IsChainOf (store_of fat) (first_of (root_of file l)) (size_of (root_of file l)) mini_stream =
    subst (λ (x : ℕ). IsChainOf (store_of fat) x (size_of (root_of file l)) mini_stream) first_is
    (subst (λ (x : ℕ). IsChainOf (store_of fat) first x mini_stream) size_is found.stream) in
    let below_fat : All (λ n. n < length fat.table) mini_fat = chain_below (store_of fat) (first_mini_fat file)
    (512 * mini_fat_count file) mini_fat in_fat in
    let below_stream : All (λ n. n < length fat.table) mini_stream =
    chain_below (store_of fat) (first_of (root_of file l)) (size_of (root_of file l)) mini_stream in_stream in
    let table' : IsMiniTable fat (take (mini_fat_count file) mini_fat) mini_stream (size_of (root_of file l)) mini =
    subst (λ (x : ℕ). IsMiniTable fat (take (mini_fat_count file) mini_fat) mini_stream x mini) size_is
    (subst (λ (x : HeaderValue). IsMiniTable fat (take x.mini_fat_count mini_fat) mini_stream size mini) is table) in
    record {
      laid_out = record {
        fat_listed = refl;
        difat_listed = refl;
        fat_sectors = o.is_fat;
        directory = o.chain;
        mini_fat = chain_of_same (store_of fat) (sectors_of file (listed file)) o.same (first_mini_fat file)
            (512 * mini_fat_count file) mini_fat in_fat;
        mini_stream = chain_of_same (store_of fat) (sectors_of file (listed file)) o.same
            (first_of (root_of file l)) (size_of (root_of file l)) mini_stream in_stream;
      };
      bytes_are = bytes_are;
      same = subst (λ (x : FatValue). AreSame (store_of x) (sectors file l)) (sym after) o.same;
      same_minis = mini_same file (listed file) (take (mini_fat_count file) mini_fat) mini_stream
          (size_of (root_of file l)) fat mini o.same
          (All-take (λ n. n < length fat.table) (mini_fat_count file) mini_fat below_fat) below_stream table';
      marks = subst (λ (x : FatValue). Marks x (l.fat ++ l.difat ++ l.directory ++ l.mini_fat ++ l.mini_stream))
          (sym after)
          (subst (Marks (marked fat (mini_fat ++ mini_stream)))
          (sym (append_assoc (listed file ++ difat file ++ directory) mini_fat mini_stream))
          (marks_more fat (listed file ++ difat file ++ directory) (mini_fat ++ mini_stream) o.marks found.free));
      mini_marks = marks_none mini table'.marks;
    }

-- the same, by what the calls answer
pub opened_at : (file : List ℕ) (h : HeaderValue) (f fat : FatValue) (start : ℕ)
    (directory listed_are joined_are bytes : List ℕ) → h ≡ header_of file → IsTableOf file h f
    → start ≡ h.first_directory → IsChain (store_of f) start 0 directory → AreFree f directory
    → fat ≡ marked f directory → listed_are ≡ directory
    → joined_are ≡ joined (store_of fat).piece listed_are → bytes ≡ joined_are → IsOpened file fat directory bytes
opened_at file h f fat start directory listed_are joined_are bytes is table s chain free after l j b =
    opened file h f fat directory bytes is table (subst (λ (x : ℕ). IsChain (store_of f) x 0 directory) s chain)
    free after
    (b ∙ j ∙ ap (λ (xs : List ℕ). joined (store_of fat).piece xs) l)
