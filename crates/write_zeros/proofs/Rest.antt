-- A file of which what isn't marked is zero.
use Rattle.std.proofs.Common.{◌≡◌, ◌<◌, ◌≤◌, ◌+◌, ◌*◌, inl, inr, ℕ, Bool, true, false, if◌then◌else◌, List, ◌∷◌, ◌++◌}
use Rattle.std.proofs.Common.{length, nat_lt, get_or, drop, refl, sym, ap, subst, ◌∙◌, arith}
use Rattle.std.proofs.lemmas.Bool.{cases_Bool, ltb-true, ltb-false}
use Rattle.std.proofs.lemmas.List.Elements.{Contains-append_left, Contains-append_right}
use Rattle.std.specs.List.{Contains}
use Rattle.cfb_bytes.specs.Bytes.{block}
use Rattle.cfb_header.specs.Bytes.{joined, mini_sector, sector}
use Rattle.cfb_chains.specs.Chain.{IsChainOf, Store}
use Rattle.cfb_chains.specs.Fat.{mini_sectors_of, sectors_of}
use Rattle.cfb_entries.specs.Entries.{entry_at, first_of, kind, size_of}
use Rattle.cfb_entries.specs.Written.{free_entry_bytes}
use Rattle.cfb_entries.specs.Tree.{Tree}
use Rattle.cfb_file.specs.Denotes.{Denotes, Layout, Used, directory_of, entry, minis, sectors, store_for}
use Rattle.cfb_file.specs.Limits.{CUTOFF}
use Rattle.write_zeros.specs.Parts.{ArePartsOf, AreTaken, EndsInZeros}
use Rattle.write_zeros.specs.Rest.{AreMarks, AreOwnIn, IsRestZero}
use Rattle.write_zeros.specs.Taken.{AllIn, IsTaken}
use Rattle.write_zeros.specs.Zeroed.{AreZeros, IsZeroedBeside, behind_end, taken_ids, taken_sectors}
use Rattle.write_zeros.specs.declared.parts.Parts.{Parts}
use Rattle.write_zeros.specs.declared.zeroed.Marks.{Marks}
use Rattle.write_zeros.proofs.Held.{AreBelow, holds_below}
use Rattle.write_zeros.proofs.Links.{fat_table, is_taken, linked_by, mini_table}

unmarked : (b : Bool) → (b ≡ true → ⊥) → b ≡ false
unmarked true never = absurd (never refl)
unmarked false never = refl

module _ (file : List ℕ) (l : Layout) (p : Parts) (a : ArePartsOf file l p) where
  -- what lies behind a stream's end, by the table that it is in
  abbrev by_table : (b : Bool) → Type 0
  by_table b = (id : ℕ) → kind (entry file l id) ≡ 2 → nat_lt (size_of (entry file l id)) CUTOFF ≡ b
      → EndsInZeros file p (entry file l id) → (ns : List ℕ)
      → IsChainOf (if b then minis file l else sectors file l) (first_of (entry file l id))
      (size_of (entry file l id)) ns
      → AreZeros (drop (size_of (entry file l id)) (joined (if b then minis file l else sectors file l).piece ns))

  in_minis : by_table true
  unfolding mini_sectors_of
  in_minis id k is e ns chain =
      let size : ℕ = size_of (entry file l id) in
      let z : AreZeros (drop size (joined (mini_sector p.shorts.items) ns)) =
      e.short k (ltb-true size CUTOFF is) ns
      (linked_by (minis file l) p.next_mini.items (mini_table file l p.next_mini.items a.next_mini)
      (first_of (entry file l id)) size ns chain) in
      subst (λ (s : List ℕ). AreZeros (drop size (joined (mini_sector s) ns))) a.shorts z

  in_sectors : by_table false
  unfolding sectors_of
  in_sectors id k is e ns chain =
      let size : ℕ = size_of (entry file l id) in
      e.long k (ltb-false size CUTOFF is) ns
      (linked_by (sectors file l) p.next.items (fat_table file l p.next.items a.next)
      (first_of (entry file l id)) size ns chain)

  by_any : (b : Bool) → by_table b
  by_any true = in_minis
  by_any false = in_sectors

pub rest_zeroed : (file : List ℕ) (t : Tree) (d : Denotes file t) (p : Parts) (m : Marks) → ArePartsOf file d.layout p
    → AreMarks m (taken_ids d.used) (taken_sectors d.layout d.used) d.used.minis → IsRestZero file p m
    → IsZeroedBeside file d.layout d.used
rest_zeroed file t d p m a w r =
    let l : Layout = d.layout in
    let b : AreBelow file l 0 d.used = holds_below file l 0 t d.used d.holds in
    let dir : p.chains.entries.items ≡ directory_of file l = a.chains.entries in
    record {
      sectors = λ n out. r.sectors n (unmarked (get_or m.sectors.items n false) (λ e. out (w.sectors n e)));
      minis = λ n out. subst (λ (s : List ℕ). AreZeros (mini_sector s n)) a.shorts
          (r.minis n (unmarked (get_or m.minis.items n false) (λ e. out (w.minis n e))));
      entries = λ id lt out.
          subst (λ (s : List ℕ). 128 * id < length s → entry_at s id ≡ free_entry_bytes) dir
          (λ there. r.entries id there (unmarked (get_or m.ids.items id false) (λ e. out (w.entries id e)))) lt;
      ends = λ id c k ns chain.
          let e : EndsInZeros file p (entry file l id) =
          subst (λ (s : List ℕ). 128 * id < length s → EndsInZeros file p (entry_at s id)) dir (r.ends id)
          (b.linked id c).inside in
          by_any file l p a (nat_lt (size_of (entry file l id)) CUTOFF) id k refl e ns chain;
    }

-- the marks of what the parts take are those of what the lists take
pub zeroed_by : (file : List ℕ) (t : Tree) (d : Denotes file t) (p : Parts) (m : Marks) → ArePartsOf file d.layout p
    → ((ids longs shorts : List ℕ) → AreTaken p ids longs shorts → Contains ids 0 → AreOwnIn p longs
    → AreMarks m ids longs shorts)
    → IsRestZero file p m → IsZeroedBeside file d.layout d.used
zeroed_by file t d p m a marks r =
    let l : Layout = d.layout in
    let more : (ns ms : List ℕ) → AllIn ns (ns ++ ms) = λ ns ms n c. Contains-append_left ns ms n c in
    let up : (ns ms : List ℕ) → AllIn ms (ns ++ ms) = λ ns ms n c. Contains-append_right ns ms n c in
    let front : List ℕ = l.fat ++ l.difat ++ l.directory in
    let own : List ℕ = front ++ l.mini_fat ++ l.mini_stream in
    let into : AllIn own (taken_sectors l d.used) = more own d.used.sectors in
    let into_front : AllIn front own = λ n c. more (front ++ l.mini_fat) l.mini_stream n (more front l.mini_fat n c) in
    let taken : AreTaken p (taken_ids d.used) (taken_sectors l d.used) d.used.minis =
    subst (λ (s : List ℕ). IsTaken s p.next.items p.next_mini.items (taken_ids d.used) (taken_sectors l d.used)
    d.used.minis) (sym a.chains.entries)
    (is_taken file t d p.next.items p.next_mini.items a.next a.next_mini) in
    let In : List ℕ → Type 0 = λ ns. AllIn ns (taken_sectors l d.used) in
    rest_zeroed file t d p m a
    (marks (taken_ids d.used) (taken_sectors l d.used) d.used.minis taken (0, omega arith, refl)
    (record {
      fat = subst In (sym a.fat)
          (λ n c. into n (into_front n (more (l.fat ++ l.difat) l.directory n (more l.fat l.difat n c))));
      difat = subst In (sym a.difat)
          (λ n c. into n (into_front n (more (l.fat ++ l.difat) l.directory n (up l.fat l.difat n c))));
      directory = subst In (sym a.chains.directory)
          (λ n c. into n (into_front n (up (l.fat ++ l.difat) l.directory n c)));
      mini_fat = subst In (sym a.chains.mini_fat)
          (λ n c. into n (more (front ++ l.mini_fat) l.mini_stream n (up front l.mini_fat n c)));
      mini_stream = subst In (sym a.chains.mini_stream) (λ n c. into n (up (front ++ l.mini_fat) l.mini_stream n c));
    }))
    r

-- what is seen of the parts and of the marks, as they are read
pub rest_zero : (file : List ℕ) (p : Parts) (m : Marks) (sector_marks : List Bool) (shorts : List ℕ)
    (mini_marks : List Bool) (dir : List ℕ) (id_marks : List Bool)
    → sector_marks ≡ m.sectors.items → shorts ≡ p.shorts.items → mini_marks ≡ m.minis.items
    → dir ≡ p.chains.entries.items → id_marks ≡ m.ids.items
    → ((n : ℕ) → get_or sector_marks n false ≡ false → AreZeros (block 512 file (512 + 512 * n)))
    → ((n : ℕ) → get_or mini_marks n false ≡ false → AreZeros (block 64 shorts (0 + 64 * n)))
    → ((id : ℕ) → 128 * id < length dir → get_or id_marks id false ≡ false → entry_at dir id ≡ free_entry_bytes)
    → ((id : ℕ) → 128 * id < length p.chains.entries.items → EndsInZeros file p (entry_at p.chains.entries.items id))
    → IsRestZero file p m
rest_zero file p m sector_marks shorts mini_marks dir id_marks es eb em ed ei s b i e =
    let none : (n : ℕ) → 0 + 64 * n ≡ 64 * n = λ n. omega arith in
    record {
      sectors = subst (λ (x : List Bool). (n : ℕ) → get_or x n false ≡ false → AreZeros (sector file n)) es s;
      minis = λ n u. subst (λ (x : List ℕ). AreZeros (mini_sector x n)) eb
          (subst (λ at. AreZeros (block 64 shorts at)) (none n)
          (b n (ap (λ (x : List Bool). get_or x n false) em ∙ u)));
      entries = λ id lt u. subst (λ (x : List ℕ). 128 * id < length x → entry_at x id ≡ free_entry_bytes) ed
          (λ l. i id l (ap (λ (x : List Bool). get_or x id false) ei ∙ u)) lt;
      ends = e;
    }
