-- Chains at fault, as calls tell of them, in stores that agree.
use Rattle.std.proofs.Common.{◌≡◌, ◌<◌, ◌≤◌, ◌*◌, ◌⊎◌, inl, inr, ℕ, zero, suc, Bool, true, false, if◌then◌else◌, List}
use Rattle.std.proofs.Common.{[], ◌∷◌, ◌++◌, length, get_or, refl, sym, ◌∙◌, ap, subst, arith, nat_lt}
use Rattle.std.proofs.lemmas.List.{append-nil}
use Rattle.std.proofs.lemmas.List.Elements.{All-head, All-tail}
use Rattle.std.specs.List.{All, Contains}
use Rattle.cfb_chains.specs.Chain.{IsChainOf, Leads, Store}
use Rattle.cfb_chains.specs.Fat.{AreFree, AreSame, FatValue, IsFound, IsFree, IsMiniFound, IsTableOf, MayRefuse}
use Rattle.cfb_chains.specs.Fat.{MayRefuseChain, MayRefuseFat, MayRefuseMini, marked, sectors_of, store_of}
use Rattle.cfb_chains.proofs.Chains.{chain_of_same}
use Rattle.cfb_chains.proofs.Marks.{Marks, marks_load, marks_more}
use Rattle.cfb_entries.specs.Entries.{entry_at, first_of, size_of}
use Rattle.cfb_header.specs.Header.{HeaderValue, difat, first_directory, first_mini_fat, header_of, listed}
use Rattle.cfb_header.specs.Header.{mini_fat_count}
use Rattle.cfb_header.specs.declared.fault.ChainFault.{ChainFault}
use Rattle.cfb_header.specs.declared.fault.ChainFault.TheVariants as chain
use Rattle.cfb_file.proofs.AlikeStores.{HaveSameLinks}
use Rattle.cfb_faults.specs.Faults.{Base, IsBelow, IsChainAtFault, IsDirectory, IsFileAtFault, IsStreamAtFault}
use Rattle.cfb_faults.specs.Faults.{IsTakenFor, Walks, in_directory, in_fat, in_mini_fat, in_mini_stream, store_in}

-- stores with the same links between the sectors that are there
pub record Agree (s t : Store) : Type 0 where
  pub count : s.count ≡ t.count
  pub width : s.width ≡ t.width
  pub next : (n : ℕ) → n < s.count → s.next n ≡ t.next n

pub agree_same : (s t : Store) → AreSame s t → Agree s t
agree_same s t h = record { count = h.count; width = h.width; next = h.next }

pub agree_links : (s t : Store) → HaveSameLinks s t → Agree s t
agree_links s t h = record { count = h.count; width = h.width; next = λ n l. ap (λ (f : ℕ → ℕ). f n) h.next }

leads_agree : (s t : Store) → Agree s t → (start : ℕ) (ns : List ℕ) (last : ℕ) → All (λ n. n < s.count) ns
    → Leads s.next start ns last → Leads t.next start ns last
leads_agree s t same start [] last below h = h
leads_agree s t same start (n ∷ ns) last below h =
    let P : ℕ → Type 0 = λ x. Leads t.next x ns last in (
      h.0,
      subst P (same.next n (All-head (λ n. n < s.count) n ns below))
          (leads_agree s t same (s.next n) ns last (All-tail (λ n. n < s.count) n ns below) h.1),
    )

walks_agree : (s t : Store) → Agree s t → (start : ℕ) (ns : List ℕ) (last : ℕ) → Walks s start ns last
    → Walks t start ns last
walks_agree s t same start ns last h = record {
  linked = leads_agree s t same start ns last h.present h.linked;
  present = subst (λ (c : ℕ). All (λ n. n < c) ns) same.count h.present;
}

-- ---- a chain at fault in one store is so in the other
pub fault_carried : (s t : Store) → Agree s t → (P Q : ℕ → Type 0) → ((n : ℕ) → P n → Q n)
    → (start size : ℕ) (fault : ChainFault) → IsChainAtFault s P start size fault
    → IsChainAtFault t Q start size fault
fault_carried s t same P Q each start size chain.Truncated h = absurd h
fault_carried s t same P Q each start size chain.BadSignature h = absurd h
fault_carried s t same P Q each start size (chain.Unsupported n) h = absurd h
fault_carried s t same P Q each start size chain.OutOfFile h =
    (h.0, h.1, walks_agree s t same start h.0 h.1 h.2, h.3, subst (λ (c : ℕ). c ≤ h.1) same.count h.4)
fault_carried s t same P Q each start size chain.Cycle h = (h.0, h.1, walks_agree s t same start h.0 h.1 h.2, h.3)
fault_carried s t same P Q each start size chain.CrossLinked h =
    (h.0, h.1, walks_agree s t same start h.0 h.1 h.2, subst (λ (c : ℕ). h.1 < c) same.count h.3, each h.1 h.4)
fault_carried s t same P Q each start size chain.ShortChain h =
    (h.0, walks_agree s t same start h.0 0xFFFFFFFE h.1, subst (λ (w : ℕ). w * length h.0 < size) same.width h.2)
fault_carried s t same P Q each start size chain.TooBig h = absurd h
fault_carried s t same P Q each start size chain.NoMemory h = absurd h

-- what is taken may be told in other words
pub taken_as : (s : Store) (P Q : ℕ → Type 0) → ((n : ℕ) → P n → Q n) → (start size : ℕ) (fault : ChainFault)
    → IsChainAtFault s P start size fault
    → IsChainAtFault s Q start size fault
taken_as s P Q each start size fault h =
    fault_carried s s (record { count = refl; width = refl; next = λ n l. refl }) P Q each start size fault h

-- ---- what a call's refusal says
walk_of : (f : FatValue) (start : ℕ) (ns : List ℕ) (last : ℕ) → Leads (store_of f).next start ns last
    → All (IsFree f) ns → Walks (store_of f) start ns last
walk_of f start ns last l free = record { linked = l; present = λ k d b. (free k d b).0 }

-- where just these sectors are marked
pub chain_refused : (f : FatValue) (P : ℕ → Type 0)
    → ((n : ℕ) → n < length f.table → get_or f.used n true ≡ true → P n) → (start size : ℕ) (fault : ChainFault)
    → MayRefuse f start size fault → (fault ≡ chain.NoMemory) ⊎ IsChainAtFault (store_of f) P start size fault
chain_refused f P taken start size chain.Truncated h = absurd h
chain_refused f P taken start size chain.BadSignature h = absurd h
chain_refused f P taken start size (chain.Unsupported n) h = absurd h
chain_refused f P taken start size chain.OutOfFile h = inr (h.0, h.1, walk_of f start h.0 h.1 h.2 h.3, h.4, h.5)
chain_refused f P taken start size chain.Cycle h = inr (h.0, h.1, walk_of f start h.0 h.1 h.2 h.3, h.4)
chain_refused f P taken start size chain.CrossLinked h =
    inr (h.0, h.1, walk_of f start h.0 h.1 h.2 h.3, h.4, taken h.1 h.4 h.5)
chain_refused f P taken start size chain.ShortChain h = inr (h.0, walk_of f start h.0 0xFFFFFFFE h.1 h.2.free, h.3)
chain_refused f P taken start size chain.TooBig h = absurd h
chain_refused f P taken start size chain.NoMemory h = inl refl

whole_refused : (f : FatValue) (P : ℕ → Type 0) → ((n : ℕ) → n < length f.table → get_or f.used n true ≡ true → P n)
    → (start : ℕ) (fault : ChainFault)
    → MayRefuseChain f start fault → (fault ≡ chain.NoMemory) ⊎ IsChainAtFault (store_of f) P start 0 fault
whole_refused f P taken start chain.Truncated h = absurd h
whole_refused f P taken start chain.BadSignature h = absurd h
whole_refused f P taken start (chain.Unsupported n) h = absurd h
whole_refused f P taken start chain.OutOfFile h = chain_refused f P taken start 0 chain.OutOfFile h
whole_refused f P taken start chain.Cycle h = chain_refused f P taken start 0 chain.Cycle h
whole_refused f P taken start chain.CrossLinked h = chain_refused f P taken start 0 chain.CrossLinked h
whole_refused f P taken start chain.ShortChain h = chain_refused f P taken start 0 chain.ShortChain h
whole_refused f P taken start chain.TooBig h = absurd h
whole_refused f P taken start chain.NoMemory h = inl refl

-- nothing is found at once where there are no bytes
pub none_found : (f : FatValue) (start : ℕ) → IsFound f start 0 []
none_found f start =
    record {
      chain = refl;
      free = record {
        free = λ k d l. absurd (omega arith);
        once = λ i j d l k. absurd (omega arith);
      };
    }

-- ---- the parts of a file
pub table_refused : (file : List ℕ) (v : HeaderValue) (fault : ChainFault) → v ≡ header_of file
    → MayRefuseFat file v fault
    → (fault ≡ chain.NoMemory) ⊎ IsFileAtFault file fault
table_refused file v chain.Truncated is h = absurd h
table_refused file v chain.BadSignature is h = absurd h
table_refused file v (chain.Unsupported n) is h = absurd h
table_refused file v chain.OutOfFile is h =
    inr (in_fat (subst (λ (x : HeaderValue). MayRefuseFat file x chain.OutOfFile) is h))
table_refused file v chain.Cycle is h = inr (in_fat (subst (λ (x : HeaderValue). MayRefuseFat file x chain.Cycle) is h))
table_refused file v chain.CrossLinked is h =
    inr (in_fat (subst (λ (x : HeaderValue). MayRefuseFat file x chain.CrossLinked) is h))
table_refused file v chain.ShortChain is h =
    inr (in_fat (subst (λ (x : HeaderValue). MayRefuseFat file x chain.ShortChain) is h))
table_refused file v chain.TooBig is h = absurd h
table_refused file v chain.NoMemory is h = inl refl

pub directory_refused : (file : List ℕ) (v : HeaderValue) (f : FatValue) (start : ℕ) (fault : ChainFault)
    → v ≡ header_of file → start ≡ v.first_directory
    → IsTableOf file v f → MayRefuseChain f start fault → (fault ≡ chain.NoMemory) ⊎ IsFileAtFault file fault
directory_refused file v f start fault is s loaded h =
    let s' : Store = sectors_of file (listed file) in
    let P : ℕ → Type 0 = Contains (listed file ++ difat file) in
    let at : start ≡ first_directory file = s ∙ ap (λ (x : HeaderValue). x.first_directory) is in
    let table : IsTableOf file (header_of file) f = subst (λ (x : HeaderValue). IsTableOf file x f) is loaded in
    let marks : Marks f (listed file ++ difat file) = marks_load file (header_of file) f table in
    elim (whole_refused f P (λ n l m. marks.only n (l, m)) start fault h) [
      | inl m ↦ inl m
      | inr r ↦ inr (in_directory (subst (λ (x : ℕ). IsChainAtFault s' P x 0 fault) at
          (fault_carried (store_of f) s' (agree_same (store_of f) s' table.sectors) P P (λ n q. q) start 0 fault r)))
    ]

module _ (file : List ℕ) (v : HeaderValue) (f : FatValue) (dir : List ℕ) (is : v ≡ header_of file)
    (d : IsDirectory file dir)
    (same : AreSame (store_of f) (sectors_of file (listed file)))
    (marks : Marks f (listed file ++ difat file ++ d.sectors)) where
  there : Agree (store_of f) (sectors_of file (listed file))
  there = agree_same (store_of f) (sectors_of file (listed file)) same

  mini_fat_refused : (fault : ChainFault) → 0 < v.mini_fat_count
      → MayRefuse f v.first_mini_fat (512 * v.mini_fat_count) fault → (fault ≡ chain.NoMemory)
      ⊎ IsFileAtFault file fault
  mini_fat_refused fault some h =
      let P : ℕ → Type 0 = Contains (listed file ++ difat file ++ d.sectors) in
      elim (chain_refused f P (λ n l m. marks.only n (l, m)) v.first_mini_fat (512 * v.mini_fat_count) fault h) [
        | inl m ↦ inl m
        | inr r ↦ inr (in_mini_fat dir d (subst (λ (x : HeaderValue). 0 < x.mini_fat_count) is some)
            (subst (λ (x : HeaderValue). IsChainAtFault (sectors_of file (listed file)) P x.first_mini_fat
            (512 * x.mini_fat_count) fault) is
            (fault_carried (store_of f) (sectors_of file (listed file)) there P P (λ n q. q) v.first_mini_fat
            (512 * v.mini_fat_count) fault r)))
      ]

  -- an empty mini stream has no chain
  mini_stream_refused : (start size : ℕ) (ns : List ℕ) (fault : ChainFault) → start ≡ first_of (entry_at dir 0)
      → size ≡ size_of (entry_at dir 0)
      → ((mini_fat mini_stream : List ℕ) → IsMiniFound f v.first_mini_fat v.mini_fat_count start size mini_fat
      mini_stream → fault ≡ chain.NoMemory)
      → IsFound f v.first_mini_fat (512 * v.mini_fat_count) ns → MayRefuse (marked f ns) start size fault
      → (fault ≡ chain.NoMemory) ⊎ IsFileAtFault file fault
  mini_stream_refused start zero ns fault at long found_refused found h =
      inl (found_refused ns []
      (record {
        table = found.chain;
        stream = refl;
        free = subst (AreFree f) (sym (append-nil ns))
            found.free;
      }))
  mini_stream_refused start (suc size) ns fault at long found_refused found h =
      let P : ℕ → Type 0 = Contains (listed file ++ difat file ++ d.sectors ++ ns) in
      let more : Marks (marked f ns) (listed file ++ difat file ++ d.sectors ++ ns) =
      marks_more f (listed file ++ difat file ++ d.sectors) ns marks found.free in
      let lies : IsChainOf (sectors_of file (listed file)) (first_mini_fat file) (512 * mini_fat_count file) ns =
      subst (λ (x : HeaderValue). IsChainOf (sectors_of file (listed file)) x.first_mini_fat
      (512 * x.mini_fat_count) ns) is
      (chain_of_same (store_of f) (sectors_of file (listed file)) same v.first_mini_fat (512 * v.mini_fat_count) ns
      found.chain) in
      elim (chain_refused (marked f ns) P (λ n l m. more.only n (l, m)) start (suc size) fault h) [
        | inl m ↦ inl m
        | inr r ↦
            let here : IsChainAtFault (sectors_of file (listed file)) P start (suc size) fault =
            fault_carried (store_of f) (sectors_of file (listed file)) there P P (λ n q. q) start (suc size) fault r in
            let moved : IsChainAtFault (sectors_of file (listed file)) P (first_of (entry_at dir 0)) (suc size) fault =
            subst (λ (x : ℕ). IsChainAtFault (sectors_of file (listed file)) P x (suc size) fault) at here in
            inr (in_mini_stream dir d ns lies (subst (λ (x : ℕ). 0 < x) long (omega arith))
            (subst (λ (x : ℕ). IsChainAtFault (sectors_of file (listed file)) P (first_of (entry_at dir 0)) x fault)
            long moved))
      ]

  pub mini_refused : (start size : ℕ) (fault : ChainFault) → start ≡ first_of (entry_at dir 0)
      → size ≡ size_of (entry_at dir 0)
      → ((mini_fat mini_stream : List ℕ) → IsMiniFound f v.first_mini_fat v.mini_fat_count start size mini_fat
      mini_stream → fault ≡ chain.NoMemory)
      → MayRefuseMini f v start size fault → (fault ≡ chain.NoMemory) ⊎ IsFileAtFault file fault
  mini_refused start size fault at long found_refused (inl h) = mini_fat_refused fault h.0 h.1
  mini_refused start size fault at long found_refused (inr h) = mini_stream_refused start size h.0 fault at long
      found_refused h.1 h.2

-- ---- streams below the root
chain_agree : (s t : Store) → Agree s t → (start size : ℕ) (ns : List ℕ) → IsChainOf s start size ns
    → IsChainOf t start size ns
chain_agree s t same start zero ns h = h
chain_agree s t same start (suc size) ns h =
    let below : All (λ n. n < s.count) ns = λ k d l. (h.present k d l).1 in
    record {
      linked = leads_agree s t same start ns 0xFFFFFFFE below h.linked;
      present = λ k d l. ((h.present k d l).0, subst (λ (c : ℕ). get_or ns k d < c) same.count (h.present k d l).1);
      enough = subst (λ (w : ℕ). suc size ≤ w * length ns) same.width h.enough;
    }

-- a stream lies in mini sectors where the test is true
agree_by : (b : Bool) (s m t n : Store) → Agree s t → Agree m n → Agree (if b then m else s) (if b then n else t)
agree_by true s m t n h g = g
agree_by false s m t n h g = h

-- what bases agree on
pub record AreAgreed (b c : Base) : Type 0 where
  pub directory : b.directory ≡ c.directory
  pub sectors : Agree b.sectors c.sectors
  pub minis : Agree b.minis c.minis
  pub own : b.own ≡ c.own

module _ (b : Base) (s m : Store) (same : Agree b.sectors s) (same_minis : Agree b.minis m) where
  -- the first base over the other's sectors
  abbrev over : Base
  over = record { directory = b.directory; sectors = s; minis = m; own = b.own }

  stores_agree : (size : ℕ) → Agree (store_in b size) (store_in over size)
  stores_agree size = agree_by (nat_lt size 4096) b.sectors b.minis s m same same_minis

  taken_over : (id n : ℕ) → IsTakenFor b id n → IsTakenFor over id n
  taken_over id n (inl h) = inl h
  taken_over id n (inr h) = inr (record {
    levels = h.levels;
    other = h.other;
    below = h.below;
    another = h.another;
    is_stream = h.is_stream;
    same_table = h.same_table;
    ns = h.ns;
    is_chain =
        let entry : List ℕ = entry_at b.directory h.other in
        chain_agree (store_in b (size_of entry)) (store_in over (size_of entry)) (stores_agree (size_of entry))
        (first_of entry) (size_of entry) h.ns h.is_chain;
    there = h.there;
  })

  stream_over : (id : ℕ) (fault : ChainFault) → IsStreamAtFault b id fault → IsStreamAtFault over id fault
  stream_over id fault h =
      let entry : List ℕ = entry_at b.directory id in
      record {
        kind_is = h.kind_is;
        some = h.some;
        at_fault = fault_carried (store_in b (size_of entry)) (store_in over (size_of entry))
            (stores_agree (size_of entry)) (λ n. IsTakenFor b id n)
            (λ n. IsTakenFor over id n) (taken_over id) (first_of entry) (size_of entry) fault h.at_fault;
      }

pub stream_carried : (b c : Base) → AreAgreed b c → (id : ℕ) (fault : ChainFault) → IsStreamAtFault b id fault
    → IsStreamAtFault c id fault
stream_carried b c same id fault h =
    let P : List ℕ → List ℕ → Type 0 = λ dir own. IsStreamAtFault
    (record { directory = dir; sectors = c.sectors; minis = c.minis; own = own }) id fault in
    subst (P c.directory) same.own
    (subst (λ (dir : List ℕ). P dir b.own) same.directory
    (stream_over b c.sectors c.minis same.sectors same.minis id fault h))

pub below_carried : (b c : Base) → AreAgreed b c → (levels id : ℕ) → IsBelow b.directory levels id
    → IsBelow c.directory levels id
below_carried b c same levels id h = subst (λ (d : List ℕ). IsBelow d levels id) same.directory h
