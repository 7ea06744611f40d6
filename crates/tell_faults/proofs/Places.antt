-- What is found at a place is what is wrong with the file.
use Rattle.std.proofs.Common.{◌≡◌, ◌≢◌, ◌<◌, ◌≤◌, ◌*◌, ◌++◌, ◌∙◌, ℕ, Bool, true, Option, Some, None, IfNone, IfOk}
use Rattle.std.proofs.Common.{IfSome, List, Result, Ok, Err, length, get_or, min, refl, sym, ap, subst, arith}
use Rattle.std.specs.List.{All, Contains}
use Rattle.cfb_header.specs.Bytes.{joined, sector, u32_at}
use Rattle.cfb_header.specs.Header.{HeaderValue, IsHeader, difat, difat_by, fat_by, first_directory, first_mini_fat}
use Rattle.cfb_header.specs.Header.{header_of, header_read, listed, mini_fat_count}
use Rattle.cfb_header.specs.declared.fault.ChainFault.{ChainFault}
use Rattle.cfb_header.specs.declared.fault.ChainFault.TheVariants as chain
use Rattle.cfb_header.proofs.Headers.{read_whole}
use Rattle.cfb_chains.specs.Chain.{IsChain, IsChainOf, Store}
use Rattle.cfb_chains.specs.Fat.{AreSame, FatValue, IsFat, IsTableOf, MayRefuseFat, sectors_in, sectors_of, store_of}
use Rattle.cfb_chains.proofs.Chains.{chain_once, chain_one, joined_same, refused_not_fat}
use Rattle.cfb_entries.specs.Entries.{entry_at, first_of, size_of}
use Rattle.cfb_faults.specs.Faults.{IsChainAtFault, IsDirectory, IsFatAtFault}
use Rattle.cfb_faults.specs.Faults as faults
use Rattle.tell_faults.specs.Places.{IsExamined, IsFaultAt, IsLinkAtFault, IsNotWhole, IsNowhere, IsUnfaulted}
use Rattle.tell_faults.specs.Places.{IsUnfaultedAt, ToldIsAtFault}
use Rattle.tell_faults.specs.Tables.{AreListsOf, AreTablesOf, IsTabled}
use Rattle.tell_faults.specs.declared.place.Link.{Link}
use Rattle.tell_faults.specs.declared.place.FaultPlace.{FaultPlace}
use Rattle.tell_faults.specs.declared.place.FaultPlace.TheVariants as place
use Rattle.tell_faults.specs.declared.walking.Chain.{Chain}
use Rattle.tell_faults.specs.declared.walking.Examined.{Examined}
use Rattle.tell_faults.specs.declared.walking.Examined.TheVariants as examined

header_is : (a b : HeaderValue) → ◌≡◌ {A = Result HeaderValue ChainFault} (Ok a) (Ok b) → a ≡ b
header_is a b h = cc

counted_by : (file fat : List ℕ) → (sectors_of file fat).count ≡ min (128 * length fat) (sectors_in file)
unfolding sectors_of
counted_by file fat = refl

next_by : (file fat : List ℕ) (n : ℕ) → (sectors_of file fat).next n ≡ u32_at (joined (sector file) fat) (4 * n)
unfolding sectors_of
next_by file fat n = refl

pub width_by : (file fat : List ℕ) → (sectors_of file fat).width ≡ 512
unfolding sectors_of
width_by file fat = refl

pub pieces_by : (file fat ns : List ℕ) → joined (sectors_of file fat).piece ns ≡ joined (sector file) ns
unfolding sectors_of
pieces_by file fat ns = refl

-- ---- the law
pub link_at_fault : (s : Store) (taken : ℕ → Type 0) (start size : ℕ) (fault : ChainFault) (link : Link)
    → IsLinkAtFault s taken start size fault link → IsChainAtFault s taken start size fault
link_at_fault s taken start size chain.OutOfFile link h = (h.0, link.to, h.1.walks, h.2, h.3)
link_at_fault s taken start size chain.Cycle link h = (h.0, link.to, h.1.walks, h.2)
link_at_fault s taken start size chain.CrossLinked link h = (h.0, link.to, h.1.walks, h.2, h.3)
link_at_fault s taken start size chain.ShortChain link h =
    (h.0, subst (λ (x : ℕ). faults.Walks s start h.0 x) h.2 h.1.walks, h.3)
link_at_fault s taken start size chain.Truncated link h = absurd h
link_at_fault s taken start size chain.BadSignature link h = absurd h
link_at_fault s taken start size (chain.Unsupported n) link h = absurd h
link_at_fault s taken start size chain.TooBig link h = absurd h
link_at_fault s taken start size chain.NoMemory link h = absurd h

pub told_is_at_fault : ToldIsAtFault
told_is_at_fault file fault place.Header h = faults.in_header h
told_is_at_fault file fault place.Fat h = faults.in_fat h
told_is_at_fault file fault (place.Directory link) h = faults.in_directory (link_at_fault _ _ _ _ fault link h)
told_is_at_fault file fault (place.MiniFat link) h = faults.in_mini_fat h.0 h.1 h.2
    (link_at_fault _ _ _ _ fault link h.3)
told_is_at_fault file fault (place.MiniStream link) h = faults.in_mini_stream h.0 h.1 h.2 h.3 h.4
    (link_at_fault _ _ _ _ fault link h.5)

-- ---- the header
pub header_same : (file : List ℕ) (h : HeaderValue) → header_read file ≡ Ok h → IsHeader file → h ≡ header_of file
header_same file h read is = header_is h (header_of file) (sym read ∙ read_whole file is)

same_fault : (a b : ChainFault) → ◌≡◌ {A = Result HeaderValue ChainFault} (Err a) (Err b) → a ≡ b
same_fault a b h = cc

pub header_told : (file : List ℕ) (r : Result HeaderValue ChainFault) (a b : ChainFault) → r ≡ header_read file
    → r ≡ Err a → header_read file ≡ Err b → a ≡ b
header_told file r a b read is refused = same_fault a b (sym is ∙ read ∙ refused)

-- a place that is told where a test holds
pub place_told : (file : List ℕ) (fault : ChainFault) (p : Option FaultPlace) (found : Bool) (q : FaultPlace)
    → IfSome p (λ x. (found ≡ true) × (x ≡ q))
    → (found ≡ true → IsFaultAt file fault q) → IfSome p (IsFaultAt file fault)
place_told file fault None found q told at = tt
place_told file fault (Some x) found q told at = subst (IsFaultAt file fault) (sym told.1) (at told.0)

pub not_refused : (file : List ℕ) (e : ChainFault) → IsHeader file → header_read file ≡ Err e → ⊥
not_refused file e is refused = absurd (cc (read_whole file is, refused))

-- none of the places has the fault that none of the parts has
pub nowhere : (file : List ℕ) (fault : ChainFault) → IsHeader file → (IsFatAtFault file fault → ⊥)
    → IsUnfaultedAt file fault place.Directory → IsUnfaultedAt file fault place.MiniFat
    → IsUnfaultedAt file fault place.MiniStream → IsNowhere file fault
nowhere file fault is fat dir mini_fat mini_stream place.Header h = not_refused file fault is h
nowhere file fault is fat dir mini_fat mini_stream place.Fat h = fat h
nowhere file fault is fat dir mini_fat mini_stream (place.Directory link) h = dir link h
nowhere file fault is fat dir mini_fat mini_stream (place.MiniFat link) h = mini_fat link h
nowhere file fault is fat dir mini_fat mini_stream (place.MiniStream link) h = mini_stream link h

pub nowhere_of : {E : Type 0} (file : List ℕ) (fault : ChainFault) (r : Result (Option FaultPlace) E)
    → IsHeader file → IfOk r (λ v. IfNone v (IsFatAtFault file fault → ⊥))
    → IfOk r (λ v. IfNone v (IsUnfaultedAt file fault place.Directory))
    → IfOk r (λ v. IfNone v (IsUnfaultedAt file fault place.MiniFat))
    → IfOk r (λ v. IfNone v (IsUnfaultedAt file fault place.MiniStream)) → IfOk r (λ v. IfNone v (IsNowhere file fault))
nowhere_of file fault (Ok None) is fat dir mini_fat mini_stream = nowhere file fault is fat dir mini_fat mini_stream
nowhere_of file fault (Ok (Some p)) is fat dir mini_fat mini_stream = tt
nowhere_of file fault (Err e) is fat dir mini_fat mini_stream = tt

-- ---- the FAT
fat_fault : (file : List ℕ) (fault : ChainFault) → fault ≢ chain.NoMemory → MayRefuseFat file (header_of file) fault
    → IsFatAtFault file fault
fat_fault file chain.OutOfFile other r = r
fat_fault file chain.Cycle other r = r
fat_fault file chain.CrossLinked other r = r
fat_fault file chain.ShortChain other r = r
fat_fault file chain.NoMemory other r = absurd (other refl)
fat_fault file chain.Truncated other r = absurd r
fat_fault file chain.BadSignature other r = absurd r
fat_fault file (chain.Unsupported n) other r = absurd r
fat_fault file chain.TooBig other r = absurd r

pub fat_at_fault : (file : List ℕ) (h : HeaderValue) (a b : ChainFault) → h ≡ header_of file
    → (a ≡ b) × (a ≢ chain.NoMemory) → MayRefuseFat file h a → IsFatAtFault file b
fat_at_fault file h a b same e r = subst (IsFatAtFault file) e.0
    (fat_fault file a e.1 (subst (λ (x : HeaderValue). MayRefuseFat file x a) same r))

-- the tables that were read are those of the file
pub lists_are : (file : List ℕ) (h : HeaderValue) (fat dif table : List ℕ) → h ≡ header_of file
    → fat ≡ fat_by file h → length fat ≤ 1125
    → dif ≡ difat_by file h → length table ≡ min (128 * length fat) (sectors_in file)
    → ((k : ℕ) → k < length table → get_or table k 0 ≡ u32_at (joined (sector file) fat) (4 * k))
    → AreListsOf file fat dif table
lists_are file h fat dif table same fat_is few dif_is count each =
    let fat_same : fat ≡ listed file = fat_is ∙ ap (λ (x : HeaderValue). fat_by file x) same in
    record {
      fat_is = fat_same;
      difat_is = dif_is ∙ ap (λ (x : HeaderValue). difat_by file x) same;
      tabled = record {
        count = counted_by file (listed file) ∙ ap (λ (ns : List ℕ). min (128 * length ns) (sectors_in file))
            (sym fat_same) ∙ sym count;
        next = λ n lt. each n lt ∙ ap (λ (ns : List ℕ). u32_at (joined (sector file) ns) (4 * n)) fat_same
            ∙ sym (next_by file (listed file) n);
      };
      few = omega (arith, count, few);
    }

pub tables_by : (file : List ℕ) (h : HeaderValue) (f : FatValue) (fat dif lists table : List ℕ) → h ≡ header_of file
    → IsTableOf file h f → AreListsOf file fat dif table → lists ≡ fat ++ dif
    → AreTablesOf file f lists table
tables_by file h f fat dif lists table same t l are = record {
  is_fat = subst (λ (x : HeaderValue). IsFat file x) same t.is_fat;
  same = subst (λ (x : HeaderValue). AreSame (store_of f) (sectors_of file (fat_by file x))) same t.sectors;
  lists_are = are ∙ (λ i. l.fat_is i ++ l.difat_is i);
  tabled = l.tabled;
  few = l.few;
}

-- ---- chains of a file whose FAT has these entries
module _ (file table : List ℕ) (t : IsTabled table (sectors_of file (listed file))) where
  pub at_link : (taken : List ℕ) (c : Chain) (first size : ℕ) (fault : ChainFault) (link : Link)
      → IsExamined table taken c fault (examined.AtFault link)
      → c.first ≡ first → c.size ≡ size → c.width ≡ 512 → IsLinkAtFault (sectors_of file (listed file))
      (Contains taken) first size fault link
  at_link taken c first size fault link e a b w =
      subst (λ (x : ℕ). IsLinkAtFault (sectors_of file (listed file)) (Contains taken) x size fault link) a
      (subst (λ (x : ℕ). IsLinkAtFault (sectors_of file (listed file)) (Contains taken) c.first x fault link) b
      (e (sectors_of file (listed file)) t (width_by file (listed file) ∙ sym w)))

  pub whole_at : (c : Chain) (first size : ℕ) (ns : List ℕ)
      → ((s : Store) → IsTabled table s → s.width ≡ c.width → IsChain s c.first c.size ns)
      → c.first ≡ first → c.size ≡ size → c.width ≡ 512 → IsChain (sectors_of file (listed file)) first size ns
  whole_at c first size ns e a b w =
      subst (λ (x : ℕ). IsChain (sectors_of file (listed file)) x size ns) a
      (subst (λ (x : ℕ). IsChain (sectors_of file (listed file)) c.first x ns) b
      (e (sectors_of file (listed file)) t (width_by file (listed file) ∙ sym w)))

  pub unfaulted_at : (taken : List ℕ) (c : Chain) (first size : ℕ) (fault : ChainFault)
      → IsUnfaulted table taken c fault → c.first ≡ first → c.size ≡ size → c.width ≡ 512
      → (link : Link) → IsLinkAtFault (sectors_of file (listed file)) (Contains taken) first size fault link → ⊥
  unfaulted_at taken c first size fault u a b w link h =
      u (sectors_of file (listed file)) t (width_by file (listed file) ∙ sym w) link
      (subst (λ (x : ℕ). IsLinkAtFault (sectors_of file (listed file)) (Contains taken) c.first x fault link) (sym b)
      (subst (λ (x : ℕ). IsLinkAtFault (sectors_of file (listed file)) (Contains taken) x size fault link) (sym a) h))

  pub not_whole_at : (c : Chain) (first size : ℕ) → IsNotWhole table c → c.first ≡ first → c.size ≡ size
      → c.width ≡ 512 → (ns : List ℕ) → IsChain (sectors_of file (listed file)) first size ns → ⊥
  not_whole_at c first size u a b w ns h =
      u (sectors_of file (listed file)) t (width_by file (listed file) ∙ sym w) ns
      (subst (λ (x : ℕ). IsChain (sectors_of file (listed file)) c.first x ns) (sym b)
      (subst (λ (x : ℕ). IsChain (sectors_of file (listed file)) x size ns) (sym a) h))

-- what is examined by lists that are copies
pub examined_by : (entries table seen taken : List ℕ) (c : Chain) (fault : ChainFault) (found is : Examined)
    → entries ≡ table → seen ≡ taken → found ≡ is → IsExamined entries seen c fault found
    → IsExamined table taken c fault is
examined_by entries table seen taken c fault found is t s e h =
    subst (λ (x : List ℕ). IsExamined x taken c fault is) t
    (subst (λ (x : List ℕ). IsExamined entries x c fault is) s (subst (IsExamined entries seen c fault) e h))

-- ---- no place of a part
module _ (file : List ℕ) (fault : ChainFault) where
  -- a directory whose chain isn't whole has no parts behind it
  module _ (none : (ns : List ℕ) → IsChain (sectors_of file (listed file)) (first_directory file) 0 ns → ⊥) where
    pub no_directory_mini_fat : IsUnfaultedAt file fault place.MiniFat
    no_directory_mini_fat link h = let d : IsDirectory file h.0 = h.1 in none d.sectors d.is_chain

    pub no_directory_mini_stream : IsUnfaultedAt file fault place.MiniStream
    no_directory_mini_stream link h = let d : IsDirectory file h.0 = h.1 in none d.sectors d.is_chain

  -- nor has a file whose FAT is at fault
  module _ (none : IsFat file (header_of file) → ⊥) where
    pub no_fat_mini_fat : IsUnfaultedAt file fault place.MiniFat
    no_fat_mini_fat link h = let d : IsDirectory file h.0 = h.1 in none d.is_fat

    pub no_fat_mini_stream : IsUnfaultedAt file fault place.MiniStream
    no_fat_mini_stream link h = let d : IsDirectory file h.0 = h.1 in none d.is_fat

  pub no_directory : ((link : Link) → IsLinkAtFault (sectors_of file (listed file))
      (Contains (listed file ++ difat file)) (first_directory file) 0 fault link → ⊥)
      → IsUnfaultedAt file fault place.Directory
  no_directory none link h = none link h

  module _ (ns : List ℕ) (is : IsChain (sectors_of file (listed file)) (first_directory file) 0 ns) where
    pub directory_one : (dir : List ℕ) (d : IsDirectory file dir) → d.sectors ≡ ns
    directory_one dir d = chain_one (sectors_of file (listed file)) (first_directory file) d.sectors ns d.is_chain is

    pub bytes_one : (dir : List ℕ) → IsDirectory file dir → dir ≡ joined (sector file) ns
    bytes_one dir d = d.bytes_are ∙ ap (joined (sector file)) (directory_one dir d)

    pub uncounted_mini_fat : mini_fat_count file ≡ 0 → IsUnfaultedAt file fault place.MiniFat
    uncounted_mini_fat zero link h = absurd (omega (arith, zero, h.2))

    pub no_mini_fat : ((link : Link)
        → IsLinkAtFault (sectors_of file (listed file)) (Contains (listed file ++ difat file ++ ns))
        (first_mini_fat file) (512 * mini_fat_count file) fault link → ⊥)
        → IsUnfaultedAt file fault place.MiniFat
    no_mini_fat none link h =
        none link
        (subst (λ (x : List ℕ). IsLinkAtFault (sectors_of file (listed file))
        (Contains (listed file ++ difat file ++ x)) (first_mini_fat file) (512 * mini_fat_count file) fault
        link)
        (directory_one h.0 h.1) h.3)

    -- a mini FAT whose chain isn't whole has no mini stream behind it
    pub no_mini_fat_stream : ((ms : List ℕ) → IsChainOf (sectors_of file (listed file)) (first_mini_fat file)
        (512 * mini_fat_count file) ms → ⊥) → IsUnfaultedAt file fault place.MiniStream
    no_mini_fat_stream none link h = none h.2 h.3

    pub empty_mini_stream : (dir : List ℕ) → dir ≡ joined (sector file) ns → size_of (entry_at dir 0) ≡ 0
        → IsUnfaultedAt file fault place.MiniStream
    empty_mini_stream dir e zero link h =
        let some : 0 < size_of (entry_at dir 0) = subst (λ (x : List ℕ). 0 < size_of (entry_at x 0))
        (bytes_one h.0 h.1 ∙ sym e) h.4 in absurd (omega (arith, zero, some))

    pub no_mini_stream : (dir mini : List ℕ) → dir ≡ joined (sector file) ns
        → IsChainOf (sectors_of file (listed file)) (first_mini_fat file) (512 * mini_fat_count file) mini
        → ((link : Link)
        → IsLinkAtFault (sectors_of file (listed file)) (Contains (listed file ++ difat file ++ ns ++ mini))
        (first_of (entry_at dir 0)) (size_of (entry_at dir 0)) fault link → ⊥)
        → IsUnfaultedAt file fault place.MiniStream
    no_mini_stream dir mini e m none link h =
        let same : h.0 ≡ dir = bytes_one h.0 h.1 ∙ sym e in
        let sectors_same : h.1.sectors ≡ ns = directory_one h.0 h.1 in
        let mini_same : h.2 ≡ mini = chain_once (sectors_of file (listed file)) (first_mini_fat file)
        (512 * mini_fat_count file) h.2 mini h.3 m in
        none link
        (subst (λ (x : List ℕ). IsLinkAtFault (sectors_of file (listed file))
        (Contains (listed file ++ difat file ++ ns ++ mini)) (first_of (entry_at x 0)) (size_of (entry_at x 0))
        fault link) same
        (subst (λ (x : List ℕ). IsLinkAtFault (sectors_of file (listed file))
        (Contains (listed file ++ difat file ++ ns ++ x)) (first_of (entry_at h.0 0)) (size_of (entry_at h.0 0))
        fault link) mini_same
        (subst (λ (x : List ℕ). IsLinkAtFault (sectors_of file (listed file))
        (Contains (listed file ++ difat file ++ x ++ h.2)) (first_of (entry_at h.0 0))
        (size_of (entry_at h.0 0)) fault link) sectors_same h.5)))

-- ---- a file with these tables
module _ (file : List ℕ) (f : FatValue) (lists table : List ℕ) (t : AreTablesOf file f lists table) where
  pub sectors_below : (start : ℕ) (ns : List ℕ) → IsChain (sectors_of file (listed file)) start 0 ns
      → All (λ n. n < length f.table) ns
  sectors_below start ns h = λ k d lt. subst (λ (x : ℕ). get_or ns k d < x) (sym t.same.count) ((h.present k d lt).1)

  pub bytes_joined : (bytes ns : List ℕ) (start : ℕ) → IsChain (sectors_of file (listed file)) start 0 ns
      → bytes ≡ joined (store_of f).piece ns → bytes ≡ joined (sector file) ns
  bytes_joined bytes ns start h e =
      e ∙ joined_same (store_of f) (sectors_of file (listed file)) t.same ns (sectors_below start ns h)
      ∙ pieces_by file (listed file) ns

  abbrev pub directory_at : (dir ns : List ℕ) → IsChain (sectors_of file (listed file)) (first_directory file) 0 ns
      → dir ≡ joined (sector file) ns → IsDirectory file dir
  directory_at dir ns h e = record { is_fat = t.is_fat; sectors = ns; is_chain = h; bytes_are = e }

  -- the same where the table is a copy
  pub whole_in : (seen : List ℕ) (c : Chain) (first size : ℕ) (ns seen_ns : List ℕ)
      → ((s : Store) → IsTabled seen s → s.width ≡ c.width → IsChain s c.first c.size ns) → seen ≡ table
      → c.first ≡ first → c.size ≡ size → c.width ≡ 512 → seen_ns ≡ ns
      → IsChain (sectors_of file (listed file)) first size seen_ns
  whole_in seen c first size ns seen_ns e s a b w n =
      let tabled : IsTabled seen (sectors_of file (listed file)) =
      subst (λ (xs : List ℕ). IsTabled xs (sectors_of file (listed file))) (sym s) t.tabled in
      let at : IsChain (sectors_of file (listed file)) c.first c.size ns =
      e (sectors_of file (listed file)) tabled (width_by file (listed file) ∙ sym w) in
      subst (λ (xs : List ℕ). IsChain (sectors_of file (listed file)) first size xs) (sym n)
      (subst (λ (x : ℕ). IsChain (sectors_of file (listed file)) x size ns) a
      (subst (λ (x : ℕ). IsChain (sectors_of file (listed file)) c.first x ns) b at))
