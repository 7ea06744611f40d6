-- What a file's denotation takes, as the tables and the entries that are read of it lead there.
use Rattle.std.proofs.Common.{◌≡◌, ◌≢◌, ◌<◌, ◌≤◌, ◌+◌, ◌*◌, ◌⊎◌, inl, inr, ℕ, zero, suc, List, [], ◌∷◌, ◌++◌, length}
use Rattle.std.proofs.Common.{get_or, take, min, refl, sym, ap, subst, ◌∙◌, arith}
use Rattle.std.proofs.lemmas.List.Elements.{All-head, All-tail, Contains-append_left, Contains-append_right}
use Rattle.std.specs.List.{All, Contains}
use Rattle.cfb_bytes.specs.Bytes.{u32_at}
use Rattle.cfb_header.specs.Bytes.{joined, sector}
use Rattle.cfb_header.specs.Header.{mini_fat_count}
use Rattle.cfb_chains.specs.Chain.{END_OF_CHAIN, IsChain, IsChainOf, IsPresent, Leads, Store}
use Rattle.cfb_chains.specs.Fat.{mini_sectors_of, sectors_of}
use Rattle.cfb_entries.specs.Entries.{NO_STREAM, child, entry_at, first_of, kind, left, right, size_of}
use Rattle.cfb_entries.specs.Tree.{Tree}
use Rattle.cfb_file.specs.Denotes.{Denotes, Layout, Used, directory_of, entry, minis, sectors}
use Rattle.cfb_file.specs.Limits.{CUTOFF}
use Rattle.cfb_file.proofs.Lists.{Contains-behind, Contains-cons_cases}
use Rattle.write_zeros.specs.Taken.{AllIn, IsLinked, IsLinkedIn, IsTableIn, IsTaken}
use Rattle.write_zeros.specs.Zeroed.{taken_ids, taken_sectors}
use Rattle.write_zeros.proofs.Held.{AreBelow, IsChainIn, IsHeld, IsLinkedWithin, holds_below}

-- ---- chains by the entries of a table
-- a table has what follows each sector of a store
pub record IsTableFor (s : Store) (table : List ℕ) : Type 0 where
  pub there : (n : ℕ) → n < s.count → n < length table
  pub each : (n : ℕ) → n < s.count → get_or table n 0 ≡ s.next n

leads_by : (s : Store) (table : List ℕ) → IsTableFor s table → (start : ℕ) (ns : List ℕ) → All (IsPresent s) ns
    → Leads s.next start ns END_OF_CHAIN → Leads (λ n. get_or table n 0) start ns END_OF_CHAIN
leads_by s table same start [] present h = h
leads_by s table same start (n ∷ ns) present h =
    let is : IsPresent s n = All-head (IsPresent s) n ns present in
    let P : ℕ → Type 0 = λ x. Leads (λ n. get_or table n 0) x ns END_OF_CHAIN in (
      h.0,
      subst P (sym (same.each n is.1)) (leads_by s table same (s.next n) ns (All-tail (IsPresent s) n ns present) h.1),
    )

pub linked_chain : (s : Store) (table : List ℕ) → IsTableFor s table → (start bytes : ℕ) (ns : List ℕ)
    → IsChain s start bytes ns
    → Leads (λ n. get_or table n 0) start ns END_OF_CHAIN × All (λ n. n < length table) ns
linked_chain s table same start bytes ns h =
    (leads_by s table same start ns h.present h.linked, λ k d lt. same.there _ (h.present k d lt).1)

pub linked_by : (s : Store) (table : List ℕ) → IsTableFor s table → (start size : ℕ) (ns : List ℕ)
    → IsChainOf s start size ns → IsLinked table start size ns
linked_by s table same start zero ns h = h
linked_by s table same start (suc size) ns h = linked_chain s table same start (suc size) ns h

-- the FAT is such a table, and the mini FAT
pub fat_table : (file : List ℕ) (l : Layout) (table : List ℕ) → IsTableIn file l.fat table
    → IsTableFor (sectors file l) table
unfolding sectors_of
fat_table file l table t = record {
  there = λ n lt. omega (arith, lt, t.count);
  each = λ n lt. t.each n (omega (arith, lt, t.count));
}

pub mini_table : (file : List ℕ) (l : Layout) (table : List ℕ)
    → IsTableIn file (take (mini_fat_count file) l.mini_fat) table → IsTableFor (minis file l) table
unfolding mini_sectors_of
mini_table file l table t = record {
  there = λ n lt. omega (arith, lt, t.count);
  each = λ n lt. t.each n (omega (arith, lt, t.count));
}

-- ---- what a file takes
module _ (file : List ℕ) (t : Tree) (d : Denotes file t) (next next_mini : List ℕ) where
  abbrev dir : List ℕ
  dir = directory_of file d.layout

  own_in : AllIn d.used.sectors (taken_sectors d.layout d.used)
  own_in n c =
      let l : Layout = d.layout in
      Contains-append_right (l.fat ++ l.difat ++ l.directory ++ l.mini_fat ++ l.mini_stream) d.used.sectors n c

  chain_linked : (s : Store) (table e ns ms : List ℕ) → IsTableFor s table → AllIn ns ms → IsChainIn s e ns
      → IsLinkedIn table e ms
  chain_linked s table e ns ms same more h = record {
    chain = h.chain;
    linked = linked_by s table same (first_of e) (size_of e) h.chain h.is_chain;
    all_in = λ m c. more m (h.all_in m c);
  }

  -- an entry below the root, or the root's
  by_id : (P : ℕ → Type 0) → P 0 → ((n : ℕ) → Contains d.used.ids n → P n) → (n : ℕ) → Contains (taken_ids d.used) n
      → P n
  by_id P root others n c = elim (Contains-cons_cases 0 d.used.ids n c) [
    | inl same ↦ subst P same root
    | inr k ↦
        others n k
  ]

  pub is_taken : IsTableIn file d.layout.fat next → IsTableIn file (take (mini_fat_count file) d.layout.mini_fat)
      next_mini
      → IsTaken dir next next_mini (taken_ids d.used) (taken_sectors d.layout d.used) d.used.minis
  is_taken fat mini =
      let b : AreBelow file d.layout 0 d.used = holds_below file d.layout 0 t d.used d.holds in
      let up : AllIn d.used.ids (taken_ids d.used) = λ n c. Contains-behind 0 d.used.ids n c in
      record {
        below = by_id (λ n. kind (entry_at dir n) ≢ 2 → child (entry_at dir n) ≢ NO_STREAM
            → Contains (taken_ids d.used) (child (entry_at dir n)))
            (λ k some. up _ (b.top some))
            (λ n c k some. up _ ((b.held n c).below k some));
        before = by_id (λ n. n ≢ 0 → left (entry_at dir n) ≢ NO_STREAM
            → Contains (taken_ids d.used) (left (entry_at dir n)))
            (λ ne. absurd (ne refl))
            (λ n c ne some. up _ ((b.linked n c).before some));
        behind = by_id (λ n. n ≢ 0 → right (entry_at dir n) ≢ NO_STREAM
            → Contains (taken_ids d.used) (right (entry_at dir n)))
            (λ ne. absurd (ne refl))
            (λ n c ne some. up _ ((b.linked n c).behind some));
        short = by_id (λ n. kind (entry_at dir n) ≡ 2 → size_of (entry_at dir n) < CUTOFF
            → IsLinkedIn next_mini (entry_at dir n) d.used.minis)
            (λ k lt. absurd (omega (arith, k, d.root)))
            (λ n c k lt. chain_linked (minis file d.layout) next_mini (entry_at dir n) d.used.minis d.used.minis
            (mini_table file d.layout next_mini mini) (λ m e. e) ((b.held n c).short k lt));
        long = by_id (λ n. kind (entry_at dir n) ≡ 2 → CUTOFF ≤ size_of (entry_at dir n)
            → IsLinkedIn next (entry_at dir n) (taken_sectors d.layout d.used))
            (λ k le. absurd (omega (arith, k, d.root)))
            (λ n c k le. chain_linked (sectors file d.layout) next (entry_at dir n) d.used.sectors
            (taken_sectors d.layout d.used) (fat_table file d.layout next fat) own_in ((b.held n c).long k le));
      }
