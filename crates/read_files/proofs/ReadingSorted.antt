-- Children in the order of their names, and what refuses them.
use Rattle.std.proofs.Common.{◌≡◌, ◌≢◌, ◌↔◌, ℕ, true, List, get_or, map, refl, sym, ap, subst}
use Rattle.std.proofs.lemmas.Cmp.{nat_list_cmp_total}
use Rattle.std.proofs.lemmas.List.Elements.{All-contains}
use Rattle.std.proofs.lemmas.List.Sorted.{Contains-permutation, IsPermutation-sym}
use Rattle.std.specs.List.{All, Contains}
use Rattle.std.specs.List.Sorted.{IsStrictlySortedBy}
use Rattle.cfb_names.specs.Names.{key_cmp}
use Rattle.cfb_entries.specs.Entries.{AreLinked, EntriesValue, IsFree, MayRefuseEntry, child, entry_at}
use Rattle.cfb_names.specs.declared.fault.DirFault.{DirFault}
use Rattle.cfb_names.specs.declared.fault.DirFault.TheVariants.{NameEmpty, NameTooLong, NameNotAscii, NameForbidden}
use Rattle.cfb_names.specs.declared.fault.DirFault.TheVariants.{DuplicateName, BadEntry, TreeCycle, TooNested, NoMemory}
use Rattle.read_directories.specs.Reached.{AreReached}
use Rattle.cfb_faults.specs.Faults.{key_at}
use Rattle.read_files.specs.Reads.{AreSorted, met}
use Rattle.read_directories.specs.Sorting.{MayRefuseNames}
use Rattle.read_files.specs.declared.read.Reader.{Reader}
use Rattle.cfb_file.proofs.Lists.{sorted_unique}
use Rattle.cfb_file.proofs.Unique.{linked_unique}
use Rattle.cfb_faults.proofs.Lists.{all-from}
use Rattle.read_directories.proofs.Refused.{names_moved}
use Rattle.cfb_faults.proofs.Keys.{IsReadable, below_root, readable_not_refused, two_keys}

-- one order of the children
pub sorted_same : (e : EntriesValue) (id : ℕ) (ids ids' : List ℕ) → AreSorted e id ids → AreSorted e id ids'
    → ids ≡ ids'
sorted_same e id ids ids' h i =
    let top : ℕ = child (entry_at e.directory id) in
    let same : h.reached ≡ i.reached = linked_unique e.directory top top h.reached i.reached refl h.linked i.linked in
    let P : ℕ → List ℕ → Type 0 = λ z xs. Contains xs z in
    sorted_unique (key_at e.directory) key_cmp nat_list_cmp_total ids ids' h.ordered i.ordered
    (λ z c. (i.same z).0 (subst (P z) same ((h.same z).1 c)))
    (λ z c. (h.same z).0 (subst (P z) (sym same) ((i.same z).1 c)))

module _ (e : EntriesValue) (id : ℕ) (ids : List ℕ) (root : get_or e.used 0 true ≡ true)
    (h : AreSorted e id ids) (r : (n : ℕ) → Contains ids n → IsReadable e.directory n) where
  one_name : (n : ℕ) (fault : DirFault) → Contains h.reached n → MayRefuseEntry e.directory n fault → ⊥
  one_name n fault c refused =
      readable_not_refused e.directory n fault (All-contains (IsFree e) h.reached n h.free.free c).0
      (All-contains (λ m. m ≢ 0) h.reached n (below_root e h.reached root h.free) c) (r n ((h.same n).0 c)) refused

  by_names : (fault : DirFault) → MayRefuseNames e.directory h.reached fault → ⊥
  by_names DuplicateName refused =
      two_keys e.directory ids refused.0 refused.1 h.ordered ((h.same refused.0).0 refused.2)
      ((h.same refused.1).0 refused.3) refused.4 refused.5
  by_names NameEmpty refused = one_name refused.0 NameEmpty refused.1 refused.2
  by_names NameTooLong refused = one_name refused.0 NameTooLong refused.1 refused.2
  by_names NameNotAscii refused = one_name refused.0 NameNotAscii refused.1 refused.2
  by_names NameForbidden refused = one_name refused.0 NameForbidden refused.1 refused.2
  by_names BadEntry refused = one_name refused.0 BadEntry refused.1 refused.2
  by_names TreeCycle refused = one_name refused.0 TreeCycle refused.1 refused.2
  by_names TooNested refused = one_name refused.0 TooNested refused.1 refused.2
  by_names NoMemory refused = one_name refused.0 NoMemory refused.1 refused.2

pub names_not_refused : (e : EntriesValue) (id : ℕ) (found ids : List ℕ) (fault : DirFault)
    → get_or e.used 0 true ≡ true
    → AreLinked e.directory (child (entry_at e.directory id)) found → AreSorted e id ids
    → ((n : ℕ) → Contains ids n → IsReadable e.directory n)
    → MayRefuseNames e.directory found fault → ⊥
names_not_refused e id found ids fault root l h r refused =
    let top : ℕ = child (entry_at e.directory id) in
    let same : found ≡ h.reached = linked_unique e.directory top top found h.reached refl l h.linked in
    by_names e id ids root h r fault (subst (λ (xs : List ℕ). MayRefuseNames e.directory xs fault) same refused)

-- ---- as they are found
module _ {e after : EntriesValue} {top : ℕ} {ids : List ℕ} (r : AreReached e after top ids) where
  same_reached : (n : ℕ) → Contains r.reached n ↔ Contains ids n
  same_reached n = (
    Contains-permutation r.reached ids n r.same,
    Contains-permutation ids r.reached n
        (IsPermutation-sym r.reached ids r.same),
  )

  pub reached_directory : after.directory ≡ e.directory
  reached_directory = ap (λ (x : EntriesValue). x.directory) r.marks

  -- a refusal of names by the marked entries is one of those that were reached
  pub names_reached : (fault : DirFault) → MayRefuseNames after.directory ids fault
      → MayRefuseNames e.directory r.reached fault
  names_reached fault h =
      names_moved e.directory ids r.reached fault (λ n. (same_reached n).1)
      (subst (λ (d : List ℕ). MayRefuseNames d ids fault) reached_directory h)

pub sorted_met : (r : Reader) (id : ℕ) (ids sorted : List ℕ) (after : EntriesValue)
    → AreReached r.entries after (child (entry_at r.entries.directory id)) ids
    → IsStrictlySortedBy key_cmp (map (key_at after.directory) sorted) → ((n : ℕ) → Contains ids n ↔ Contains sorted n)
    → (s : AreSorted r.entries id sorted) × (record { fat = r.fat; mini = r.mini; entries = after } ≡ met s.reached r)
sorted_met r id ids sorted after found ordered same = (
  record {
    reached = found.reached;
    linked = found.linked;
    free = found.free;
    same = λ n. (λ h. (same n).0 ((same_reached found n).0 h), λ h. (same_reached found n).1 ((same n).1 h));
    ordered = subst (λ (d : List ℕ). IsStrictlySortedBy key_cmp (map (key_at d) sorted)) (reached_directory found)
        ordered;
  },
  ap (λ (x : EntriesValue). record { fat = r.fat; mini = r.mini; entries = x }) found.marks,
)

-- sorted entries are those found, and lie below the root
pub sorted_below : (e : EntriesValue) (id : ℕ) (ids : List ℕ) → get_or e.used 0 true ≡ true → AreSorted e id ids
    → All (λ n. n ≢ 0) ids
sorted_below e id ids root h = all-from (λ n. n ≢ 0) ids
    (λ n c. All-contains (λ m. m ≢ 0) h.reached n (below_root e h.reached root h.free) ((h.same n).1 c))
