-- The parts of a file that are read of it.
use Rattle.std.proofs.Common.{◌≡◌, ◌<◌, ◌≤◌, ◌+◌, ◌*◌, ◌/◌, ℕ, zero, suc, List, [], ◌∷◌, Result, Ok, get_or, inl, inr}
use Rattle.std.proofs.Common.{drop, length, replicate, slice_index, take, ◌++◌, ◌-◌, refl, sym, ap, subst, ◌∙◌, arith}
use Rattle.std.proofs.lemmas.Bool.{cases_lt}
use Rattle.std.proofs.lemmas.List.{drop_all}
use Rattle.std.specs.List.{All}
use Rattle.cfb_bytes.specs.Bytes.{block, u32_at}
use Rattle.cfb_header.specs.Bytes.{joined, sector}
use Rattle.cfb_header.specs.Header.{HeaderValue, IsHeader, difat_by, fat_by, first_directory, first_mini_fat, header_of}
use Rattle.cfb_header.specs.Header.{header_read, mini_fat_count}
use Rattle.cfb_header.specs.declared.fault.ChainFault.{ChainFault}
use Rattle.cfb_header.proofs.Headers.{read_whole}
use Rattle.cfb_chains.specs.Chain.{END_OF_CHAIN, Leads}
use Rattle.cfb_chains.proofs.Blocks.{length_block, length_joined}
use Rattle.cfb_entries.specs.Entries.{entry_at, first_of, kind, size_of}
use Rattle.cfb_file.specs.Denotes.{root_of, Denotes, Layout, directory_of, sectors}
use Rattle.cfb_entries.specs.Tree.{Tree}
use Rattle.write_zeros.specs.Parts.{AreChainsOf, AreFollowed, ArePartsOf}
use Rattle.write_zeros.specs.Taken.{IsLinked, IsTableIn}
use Rattle.write_zeros.specs.declared.parts.Chains.{Chains}
use Rattle.write_zeros.specs.declared.parts.Parts.{Parts}
use Rattle.write_zeros.proofs.Ends.{linked_some, next_in}
use Rattle.write_zeros.proofs.Links.{IsTableFor, fat_table, linked_by, linked_chain}

-- numbers in the bytes of sectors
pub table_read : (file sectors bytes table : List ℕ) → bytes ≡ joined (sector file) sectors
    → length table ≡ length bytes / 4
    → ((k : ℕ) → k < length table → get_or table k 0 ≡ u32_at bytes (4 * k)) → IsTableIn file sectors table
table_read file sectors bytes table e count each =
    let long : length bytes ≡ 512 * length sectors = ap length e ∙ length_joined (sector file) 512 sectors
    (λ n. length_block 512 file (512 + 512 * n)) in
    record {
      count = omega (arith, count, long);
      each = λ k lt. each k lt ∙ ap (λ (bs : List ℕ). u32_at bs (4 * k)) e;
    }

same_header : (a b : HeaderValue) → ◌≡◌ {A = Result HeaderValue ChainFault} (Ok a) (Ok b) → a ≡ b
same_header a b h = cc

-- the header that was read
pub header_is : (file : List ℕ) (h : HeaderValue) → header_read file ≡ Ok h → IsHeader file → h ≡ header_of file
header_is file h read is = same_header h (header_of file) (sym read ∙ read_whole file is)

-- an entry with a kind is there
kind_outside : (dir : List ℕ) (id : ℕ) → length dir ≤ 128 * id → kind (entry_at dir id) ≡ 0
unfolding block
kind_outside dir id h =
    let e : drop (128 * id) dir ≡ [] = drop_all (128 * id) dir h in
    ap (λ (xs : List ℕ). slice_index (take 128 xs ++ replicate (128 - length xs) 0) 66) e

kind_inside : (dir : List ℕ) (id n : ℕ) → kind (entry_at dir id) ≡ suc n → 128 * id < length dir
kind_inside dir id n h =
    elim (cases_lt (128 * id) (length dir)) [
      | inl lt ↦ lt
      | inr le ↦ absurd (let e : 0 ≡ suc n = sym (kind_outside dir id le) ∙ h in omega (arith, e))
    ]

-- a directory whose first entry is a root's has that entry
root_whole : (file dirs bytes : List ℕ) → bytes ≡ joined (sector file) dirs → kind (entry_at bytes 0) ≡ 5
    → 128 ≤ length bytes
root_whole file [] bytes e k = absurd (let lt : 128 * 0 < length bytes = kind_inside bytes 0 4 k in
    omega (arith, lt, ap length e))
root_whole file (n ∷ ns) bytes e k =
    let long : length (joined (sector file) (n ∷ ns)) ≡ 512 * length (n ∷ ns) =
    length_joined (sector file) 512 (n ∷ ns) (λ m. length_block 512 file (512 + 512 * m)) in
    omega (arith, ap length e, long)

-- a chain with room for sectors is linked as one that is there
many_linked : (next : List ℕ) (start count : ℕ) (ns : List ℕ) → IsLinked next start (512 * count) ns
    → IsLinked next start count ns
many_linked next start zero ns h = h
many_linked next start (suc count) ns h = linked_some next start (512 * suc count) ns (λ e. omega (arith, e)) h

pub chains_read : (file next : List ℕ) (h : HeaderValue) (c : Chains) → AreFollowed file next h c
    → header_read file ≡ Ok h → length next ≤ END_OF_CHAIN
    → (t : Tree) (d : Denotes file t) → IsTableIn file d.layout.fat next → AreChainsOf file d.layout c
unfolding directory_of
chains_read file next h c f read few t d table =
    let l : Layout = d.layout in
    let is : h ≡ header_of file = header_is file h read d.header in
    let same : IsTableFor (sectors file l) next = fat_table file l next table in
    let dir : c.directory.items ≡ l.directory =
    (let w = linked_chain (sectors file l) next same (header_of file).first_directory 0 l.directory
    d.laid_out.directory in
    f.directory l.directory few
    (subst (λ (x : HeaderValue). Leads (next_in next) x.first_directory l.directory END_OF_CHAIN) (sym is) w.0)
    w.1) in
    let entries : c.entries.items ≡ directory_of file l = f.entries ∙ ap (joined (sector file)) dir in
    let whole : 128 ≤ length c.entries.items =
    root_whole file l.directory c.entries.items entries (ap (λ (s : List ℕ). kind (entry_at s 0)) entries ∙ d.root) in
    let first : f.first ≡ first_of (root_of file l) = f.first_is whole
    ∙ ap (λ (s : List ℕ). first_of (entry_at s 0)) entries in
    let size : f.size ≡ size_of (root_of file l) = f.size_is whole ∙ ap (λ (s : List ℕ). size_of (entry_at s 0))
    entries in
    record {
      directory = dir;
      entries = entries;
      mini_fat = f.mini_fat l.mini_fat few
          (subst (λ (x : HeaderValue). IsLinked next x.first_mini_fat x.mini_fat_count l.mini_fat) (sym is)
          (many_linked next (first_mini_fat file) (mini_fat_count file) l.mini_fat
          (linked_by (sectors file l) next same (first_mini_fat file) (512 * mini_fat_count file) l.mini_fat
          d.laid_out.mini_fat)));
      mini_stream = f.mini_stream l.mini_stream few
          (subst (λ x. IsLinked next x f.size l.mini_stream) (sym first)
          (subst (λ x. IsLinked next (first_of (root_of file l)) x l.mini_stream) (sym size)
          (linked_by (sectors file l) next same (first_of (root_of file l)) (size_of (root_of file l)) l.mini_stream
          d.laid_out.mini_stream)));
    }

-- What is read of a file's parts.
pub record AreRead (file : List ℕ) (h : HeaderValue) (p : Parts) : Type 0 where
  pub fat : p.own.fat.items ≡ fat_by file h
  pub difat : p.own.difat.items ≡ difat_by file h
  pub next : IsTableIn file p.own.fat.items p.next.items
  pub chains : AreFollowed file p.next.items h p.chains
  pub next_mini : IsTableIn file (take h.mini_fat_count p.chains.mini_fat.items) p.next_mini.items
  pub shorts : p.shorts.items ≡ joined (sector file) p.chains.mini_stream.items

pub parts_read : (file : List ℕ) (h : HeaderValue) (p : Parts) → AreRead file h p → header_read file ≡ Ok h
    → length p.next.items ≤ END_OF_CHAIN
    → (t : Tree) (d : Denotes file t) → ArePartsOf file d.layout p
parts_read file h p r read few t d =
    let l : Layout = d.layout in
    let is : h ≡ header_of file = header_is file h read d.header in
    let fat : p.own.fat.items ≡ l.fat = r.fat ∙ ap (fat_by file) is ∙ sym d.laid_out.fat_listed in
    let difat : p.own.difat.items ≡ l.difat = r.difat ∙ ap (difat_by file) is ∙ sym d.laid_out.difat_listed in
    let next : IsTableIn file l.fat p.next.items = subst (λ (s : List ℕ). IsTableIn file s p.next.items) fat r.next in
    let chains : AreChainsOf file l p.chains = chains_read file p.next.items h p.chains r.chains read few t d next in
    let counted : take h.mini_fat_count p.chains.mini_fat.items ≡ take (mini_fat_count file) l.mini_fat =
    ap (λ (x : HeaderValue). take x.mini_fat_count p.chains.mini_fat.items) is
    ∙ ap (take (mini_fat_count file)) chains.mini_fat in
    record {
      fat = fat;
      difat = difat;
      next = next;
      chains = chains;
      next_mini = subst (λ (s : List ℕ). IsTableIn file s p.next_mini.items) counted r.next_mini;
      shorts = r.shorts ∙ ap (joined (sector file)) chains.mini_stream;
    }

-- a table of the FAT has no more entries than sectors have numbers
pub few_entries : (file sectors table : List ℕ) → IsTableIn file sectors table → length sectors ≤ 1125
    → length table ≤ END_OF_CHAIN
few_entries file sectors table t few = omega (arith, t.count, few)
