-- What a refusal of a layer below says.
use Rattle.std.proofs.Common.{◌≡◌, ◌≢◌, ◌<◌, ◌≤◌, ◌*◌, ◌⊎◌, inl, inr, ℕ, zero, suc, Bool, true, false, if◌then◌else◌}
use Rattle.std.proofs.Common.{List, [], ◌∷◌, Result, Ok, Err, IfErr, IfOk, length, get_or, refl, sym, ◌∙◌, ap, subst}
use Rattle.std.proofs.Common.{arith, nat_lt}
use Rattle.std.specs.List.{All, Contains}
use Rattle.std.proofs.lemmas.Bool.{cases_Bool}
use Rattle.std.proofs.lemmas.Bool.Decides.{nat_tests}
use Rattle.std.proofs.lemmas.List.Elements.{All-contains}
use Rattle.std.specs.Result.{IsErrAnd}
use Rattle.cfb_header.specs.declared.fault.ChainFault.{ChainFault}
use Rattle.cfb_header.specs.declared.fault.ChainFault.TheVariants as chain
use Rattle.cfb_names.specs.declared.fault.DirFault.{DirFault}
use Rattle.cfb_names.specs.declared.fault.DirFault.TheVariants as directory
use Rattle.cfb_chains.specs.Chain.{AreDistinct}
use Rattle.cfb_chains.specs.Fat.{FatValue, IsFound, MayRefuse, store_of}
use Rattle.cfb_header.specs.Header.{header_read}
use Rattle.cfb_entries.specs.Entries.{AreFree, AreInside, AreLinked, IsFree, MayRefuseChildren, MayRefuseEntry}
use Rattle.cfb_entries.specs.Entries.{MayRefuseLinked, MayRefuseLoad, child, entry_at, first_of, kind, size_of}
use Rattle.cfb_file.proofs.Lists.{Contains-front}
use Rattle.read_outlines.specs.View.{table_for}
use Rattle.cfb_faults.specs.Faults.{Base, IsBelow, IsChainAtFault, IsChild, IsDirectory, IsFileAtFault, IsInOther}
use Rattle.cfb_faults.specs.Faults.{IsStorage, IsStreamAtFault, IsTakenFor, LeadsOutside, MayBeChild, MayRefuseBelow}
use Rattle.cfb_faults.specs.Faults.{in_header, key_at, store_in}
use Rattle.cfb_entries.proofs.Inside.{are_inside}
use Rattle.cfb_faults.proofs.Below.{below_some, entry_at_fault, linked_child}
use Rattle.cfb_faults.proofs.Chains.{chain_refused, none_found, taken_as}
use Rattle.read_files.specs.Marks.{IsBegun, IsInRead, IsNext}
use Rattle.read_files.specs.Reads.{IsTaken, MayRefuseFile, MayRefusePlace, MayRefuseStorage, chain_fault}
use Rattle.read_files.specs.Reads.{directory_fault, directory_in}
use Rattle.read_directories.specs.Sorting.{MayRefuseNames}
use Rattle.read_files.specs.declared.read.Reader.{Reader}
use Rattle.read_files.specs.declared.fault.ReadFault.TheVariants as told
use Rattle.read_files.specs.declared.fault.ReadFault.{ReadFault}
use Rattle.read_files.specs.declared.fault.ReadFault.TheVariants.{NoMemory}
use Rattle.cfb_faults.proofs.Lists.{all-from}
use Rattle.read_files.proofs.ReadingMarks.{one_below, same_directory}

pub below : (size n : ℕ) → size < n → nat_lt size n ≡ true
below size n h = grind (arith, nat_tests)

pub not_below : (size n : ℕ) → n ≤ size → nat_lt size n ≡ false
not_below size n h = grind (arith, nat_tests)

-- a fault of a layer below that is want of memory
pub chain_memory : {A : Type 0} (r : Result A ReadFault) (fault : ChainFault)
    → IsErrAnd r (λ e. e ≡ chain_fault fault) → fault ≡ chain.NoMemory → IfErr r (λ e. e ≡ NoMemory)
chain_memory (Ok a) fault h i = tt
chain_memory (Err e) fault h i = h ∙ ap chain_fault i

pub directory_memory : {A : Type 0} (r : Result A ReadFault) (fault : DirFault)
    → IsErrAnd r (λ e. e ≡ directory_fault fault) → fault ≡ directory.NoMemory → IfErr r (λ e. e ≡ NoMemory)
directory_memory (Ok a) fault h i = tt
directory_memory (Err e) fault h i = h ∙ ap directory_fault i

pub same_memory : {A : Type 0} (r : Result A ReadFault) (fault : ReadFault) → IsErrAnd r (λ e. e ≡ fault)
    → fault ≡ NoMemory → IfErr r (λ e. e ≡ NoMemory)
same_memory (Ok a) fault h i = tt
same_memory (Err e) fault h i = h ∙ i

-- an error is no answer
pub never_ok : {A E : Type 0} (P : A → Type 0) (Q : E → Type 0) (r : Result A E) → IsErrAnd r Q → IfOk r P
never_ok P Q (Ok a) h = absurd h
never_ok P Q (Err e) h = tt

-- ---- what a refusal says of the file
-- the fault of a chain, told of the place where it begins
place_refused : (r : Reader) (first size : ℕ) (fault : ChainFault) → fault ≢ chain.NoMemory → 0 < size
    → (fault ≡ chain.NoMemory) ⊎ IsChainAtFault (store_of (table_for size r.fat r.mini))
    (IsTaken (table_for size r.fat r.mini)) first size fault
    → MayRefusePlace r first size (chain_fault fault)
place_refused r first size chain.Truncated ne lt h = elim h [ inl e ↦ absurd (cc e) | inr q ↦ (lt, q) ]
place_refused r first size chain.BadSignature ne lt h = elim h [ inl e ↦ absurd (cc e) | inr q ↦ (lt, q) ]
place_refused r first size (chain.Unsupported n) ne lt h = elim h [ inl e ↦ absurd (cc e) | inr q ↦ (lt, q) ]
place_refused r first size chain.OutOfFile ne lt h = elim h [ inl e ↦ absurd (cc e) | inr q ↦ (lt, q) ]
place_refused r first size chain.Cycle ne lt h = elim h [ inl e ↦ absurd (cc e) | inr q ↦ (lt, q) ]
place_refused r first size chain.CrossLinked ne lt h = elim h [ inl e ↦ absurd (cc e) | inr q ↦ (lt, q) ]
place_refused r first size chain.ShortChain ne lt h = elim h [ inl e ↦ absurd (cc e) | inr q ↦ (lt, q) ]
place_refused r first size chain.TooBig ne lt h = elim h [ inl e ↦ absurd (cc e) | inr q ↦ (lt, q) ]
place_refused r first size chain.NoMemory ne lt h = absurd (ne refl)

-- a stream that isn't found isn't empty
some_bytes : (f : FatValue) (start size : ℕ) (fault : ChainFault) → fault ≢ chain.NoMemory
    → ((ns : List ℕ) → IsFound f start size ns → fault ≡ chain.NoMemory) → 0 < size
some_bytes f start zero fault ne found = absurd (ne (found [] (none_found f start)))
some_bytes f start (suc size) fault ne found = omega arith

-- it lies in mini sectors where the test is true
pub place_at_fault : (r : Reader) (short : Bool) (first size : ℕ) (fault : ChainFault) → nat_lt size 4096 ≡ short
    → fault ≢ chain.NoMemory
    → ((ns : List ℕ) → IsFound (if short then r.mini else r.fat) first size ns → fault ≡ chain.NoMemory)
    → MayRefuse (if short then r.mini else r.fat) first size fault
    → MayRefusePlace r first size (chain_fault fault)
place_at_fault r short first size fault is ne found h =
    let f : FatValue = if short then r.mini else r.fat in
    place_refused r first size fault ne (some_bytes f first size fault ne found)
    (subst (λ (t : Bool). (fault ≡ chain.NoMemory) ⊎ IsChainAtFault (store_of (if t then r.mini else r.fat))
    (IsTaken (if t then r.mini else r.fat)) first size fault) (sym is)
    (chain_refused f (IsTaken f) (λ n l m. (l, m)) first size fault h))

-- a fault of the directory, told
below_told : (b : Base) (fault : DirFault) → MayRefuseBelow b.directory fault
    → MayRefuseStorage b (directory_fault fault)
below_told b directory.NameEmpty h = h
below_told b directory.NameTooLong h = h
below_told b directory.NameNotAscii h = h
below_told b directory.NameForbidden h = h
below_told b directory.DuplicateName h = h
below_told b directory.BadEntry h = h
below_told b directory.TreeCycle h = h
below_told b directory.TooNested h = h
below_told b directory.NoMemory h = absurd h

-- ---- of an entry that is to be read next
module _ (b : Base) (room id : ℕ) (pending : List ℕ) (r : Reader) (at : IsNext b room id pending r) where
  directory_is : b.directory ≡ directory_in r
  directory_is = same_directory b (id ∷ pending) r at.underway

  -- it is none of those that were begun
  another : (n : ℕ) → IsBegun r (id ∷ pending) n → n ≢ id
  another n begun e = begun.1 (subst (Contains (id ∷ pending)) (sym e) (Contains-front id pending))

  in_other : (short : Bool) → nat_lt (size_of (entry_at b.directory id)) 4096 ≡ short → (n : ℕ)
      → IsInRead b r (id ∷ pending) short n → IsInOther b id n
  in_other short e n q = record {
    levels = q.levels;
    other = q.other;
    below = q.below;
    another = another q.other q.begun;
    is_stream = q.is_stream;
    same_table = q.in_table ∙ sym e;
    ns = q.ns;
    is_chain = q.is_chain;
    there = q.there;
  }

  -- what is marked is taken by other parts
  taken_by : (short : Bool) → nat_lt (size_of (entry_at b.directory id)) 4096 ≡ short → (n : ℕ)
      → IsTaken (if short then r.mini else r.fat) n → IsTakenFor b id n
  taken_by true e n t = inr (in_other true e n (at.underway.taken_minis n t))
  taken_by false e n t = elim (at.underway.taken n t) [ inl o ↦ inl (e, o) | inr q ↦ inr (in_other false e n q) ]

  fault_here : (short : Bool) → nat_lt (size_of (entry_at b.directory id)) 4096 ≡ short
      → (first size : ℕ) (fault : ChainFault)
      → IsChainAtFault (store_of (if short then r.mini else r.fat)) (IsTaken (if short then r.mini else r.fat))
      first size fault
      → IsChainAtFault (if short then store_of r.mini else store_of r.fat) (λ n. IsTakenFor b id n) first size fault
  fault_here true e first size fault h = taken_as (store_of r.mini) (IsTaken r.mini) (λ n. IsTakenFor b id n)
      (taken_by true e) first size fault h
  fault_here false e first size fault h = taken_as (store_of r.fat) (IsTaken r.fat) (λ n. IsTakenFor b id n)
      (taken_by false e) first size fault h

  stream_at_fault : (fault : ChainFault) → kind (entry_at (directory_in r) id) ≡ 2
      → 0 < size_of (entry_at (directory_in r) id)
      → IsChainAtFault (store_of (table_for (size_of (entry_at (directory_in r) id)) r.fat r.mini))
      (IsTaken (table_for (size_of (entry_at (directory_in r) id)) r.fat r.mini))
      (first_of (entry_at (directory_in r) id)) (size_of (entry_at (directory_in r) id)) fault
      → IsStreamAtFault b id fault
  stream_at_fault fault k lt h =
      let entry : List ℕ = entry_at (directory_in r) id in
      let P : Base → Type 0 = λ x. IsChainAtFault (store_in x (size_of (entry_at x.directory id)))
      (λ n. IsTakenFor b id n) (first_of (entry_at x.directory id)) (size_of (entry_at x.directory id)) fault in
      record {
        kind_is = ap (λ (d : List ℕ). kind (entry_at d id)) directory_is ∙ k;
        some = subst (λ (d : List ℕ). 0 < size_of (entry_at d id)) (sym directory_is) lt;
        at_fault = subst P (sym at.underway.base)
            (fault_here (nat_lt (size_of entry) 4096)
            (ap (λ (d : List ℕ). nat_lt (size_of (entry_at d id)) 4096) directory_is) (first_of entry)
            (size_of entry) fault h);
      }

  pub stream_below : (first size : ℕ) (fault : ReadFault) → id ≢ 0 → kind (entry_at (directory_in r) id) ≡ 2
      → first ≡ first_of (entry_at (directory_in r) id)
      → size ≡ size_of (entry_at (directory_in r) id) → MayRefusePlace r first size fault → MayRefuseStorage b fault
  stream_below first size (told.Chain fault) ne k f s h =
      let entry : List ℕ = entry_at (directory_in r) id in
      let here : (n : ℕ) × IsBelow b.directory (suc n) id = below_some b.directory at.levels id ne at.stands.below in
      let chain_here : IsChainAtFault (store_of (table_for (size_of entry) r.fat r.mini))
      (IsTaken (table_for (size_of entry) r.fat r.mini)) (first_of entry) (size_of entry) fault =
      subst (λ (x : ℕ). IsChainAtFault (store_of (table_for (size_of entry) r.fat r.mini))
      (IsTaken (table_for (size_of entry) r.fat r.mini)) x (size_of entry) fault) f
      (subst (λ (x : ℕ). IsChainAtFault (store_of (table_for x r.fat r.mini)) (IsTaken (table_for x r.fat r.mini))
      first x fault) s h.1) in
      (here.0, id, here.1, stream_at_fault fault k (subst (λ (x : ℕ). 0 < x) s h.0) chain_here)
  stream_below first size (told.Directory fault) ne k f s h = absurd h
  stream_below first size told.NoMemory ne k f s h = absurd h

  -- an entry that is refused
  pub entry_below : (fault : DirFault) → id ≢ 0 → MayRefuseEntry (directory_in r) id fault
      → MayRefuseStorage b (directory_fault fault)
  entry_below fault ne h =
      let here : (n : ℕ) × IsBelow b.directory (suc n) id = below_some b.directory at.levels id ne at.stands.below in
      below_told b fault (entry_at_fault b.directory here.0 id fault here.1
      (subst (λ (d : List ℕ). MayRefuseEntry d id fault) (sym directory_is) h))

  -- ---- a storage whose children are refused
  module _ (s : IsStorage (directory_in r) id) where
    storage : IsStorage b.directory id
    storage = subst (λ (d : List ℕ). IsStorage d id) (sym directory_is) s

    -- entries that may be its children aren't marked
    free_children : (ids : List ℕ) → AreInside b.directory (child (entry_at b.directory id)) ids → AreDistinct ids
        → All (λ n. MayBeChild b.directory id n) ids
        → AreFree r.entries ids
    free_children ids l once own = record {
      free = all-from (IsFree r.entries) ids (λ n c.
          let inside : 128 * n < length b.directory = All-contains (λ k. 128 * k < length b.directory) ids n
          (are_inside b.directory (child (entry_at b.directory id)) ids l) c in
          let may : MayBeChild b.directory id n = All-contains (λ m. MayBeChild b.directory id m) ids n own c in (
            subst (λ (d : List ℕ). 128 * n < length d) directory_is inside,
            elim (cases_Bool (get_or r.entries.used n true)) [
              | inl t ↦ elim (at.underway.met n inside t) [
                | inl z ↦ absurd (may.0 z)
                | inr q ↦
                    absurd
                    (may.1 (record {
                      levels = q.levels;
                      other = q.parent;
                      below = q.below;
                      another = another q.parent q.begun;
                      child_of = q.child_of;
                    }))
              ]
              | inr f ↦ f
            ],
          ));
      once = once;
    }

    links_refused : (fault : DirFault) → MayRefuseLinked r.entries (child (entry_at (directory_in r) id)) fault
        → MayRefuseStorage b (directory_fault fault)
    links_refused directory.NameEmpty h = absurd h
    links_refused directory.NameTooLong h = absurd h
    links_refused directory.NameNotAscii h = absurd h
    links_refused directory.NameForbidden h = absurd h
    links_refused directory.DuplicateName h = absurd h
    links_refused directory.BadEntry h = (
      at.levels,
      id,
      inr (
        at.stands.below,
        subst (λ (d : List ℕ). LeadsOutside d id) (sym directory_is)
            (h.0, s, h.1, h.2, h.3),
      ),
    )
    links_refused directory.TreeCycle h = (
      at.levels,
      id,
      at.stands.below,
      storage,
      λ ids l once own. h ids (subst (λ (d : List ℕ). AreInside d (child (entry_at d id)) ids) directory_is l)
          (free_children ids l once own),
    )
    links_refused directory.TooNested h = absurd h
    links_refused directory.NoMemory h = tt

    pub children_below : (fault : DirFault) → 128 * id < length (directory_in r)
        → MayRefuseChildren r.entries id fault → MayRefuseStorage b (directory_fault fault)
    children_below fault lt (inl h) = absurd (omega (arith, lt, h.0))
    children_below fault lt (inr (inl h)) = links_refused fault h
    children_below fault lt (inr (inr h)) = subst (λ (f : DirFault). MayRefuseStorage b (directory_fault f))
        (sym h.1) tt

    -- names of children that are found
    module _ (ids : List ℕ) (l : AreLinked (directory_in r) (child (entry_at (directory_in r) id)) ids)
        (free : AreFree r.entries ids) where
      linked : AreLinked b.directory (child (entry_at b.directory id)) ids
      linked = subst (λ (d : List ℕ). AreLinked d (child (entry_at d id)) ids) (sym directory_is) l

      one_refused : (n : ℕ) (fault : DirFault) → Contains ids n → MayRefuseEntry (directory_in r) n fault
          → MayRefuseBelow b.directory fault
      one_refused n fault c h =
          entry_at_fault b.directory at.levels n fault
          (one_below b at.levels id pending r at.underway at.stands storage ids linked free n c)
          (subst (λ (d : List ℕ). MayRefuseEntry d n fault) (sym directory_is) h)

      is_child : (n : ℕ) → Contains ids n → IsChild b.directory id n
      is_child n c = linked_child b.directory id n ids storage linked c

      same_key : (m n : ℕ) → key_at (directory_in r) m ≡ key_at (directory_in r) n
          → key_at b.directory m ≡ key_at b.directory n
      same_key m n e = subst (λ (d : List ℕ). key_at d m ≡ key_at d n) (sym directory_is) e

      pub names_below : (fault : DirFault) → MayRefuseNames (directory_in r) ids fault
          → MayRefuseStorage b (directory_fault fault)
      names_below directory.DuplicateName h =
          (at.levels, id, at.stands.below, (h.0, h.1, is_child h.0 h.2, is_child h.1 h.3, h.4, same_key h.0 h.1 h.5))
      names_below directory.NameEmpty h = below_told b directory.NameEmpty (one_refused h.0 directory.NameEmpty h.1 h.2)
      names_below directory.NameTooLong h = below_told b directory.NameTooLong
          (one_refused h.0 directory.NameTooLong h.1 h.2)
      names_below directory.NameNotAscii h = below_told b directory.NameNotAscii
          (one_refused h.0 directory.NameNotAscii h.1 h.2)
      names_below directory.NameForbidden h = below_told b directory.NameForbidden
          (one_refused h.0 directory.NameForbidden h.1 h.2)
      names_below directory.BadEntry h = below_told b directory.BadEntry (one_refused h.0 directory.BadEntry h.1 h.2)
      names_below directory.TreeCycle h = below_told b directory.TreeCycle (one_refused h.0 directory.TreeCycle h.1 h.2)
      names_below directory.TooNested h = below_told b directory.TooNested (one_refused h.0 directory.TooNested h.1 h.2)
      names_below directory.NoMemory h = below_told b directory.NoMemory (one_refused h.0 directory.NoMemory h.1 h.2)

-- ---- of the whole file
pub file_chain : (file : List ℕ) (fault : ChainFault) → (fault ≡ chain.NoMemory) ⊎ IsFileAtFault file fault
    → MayRefuseFile file (chain_fault fault)
file_chain file chain.Truncated h = elim h [ inl e ↦ absurd (cc e) | inr r ↦ r ]
file_chain file chain.BadSignature h = elim h [ inl e ↦ absurd (cc e) | inr r ↦ r ]
file_chain file (chain.Unsupported n) h = elim h [ inl e ↦ absurd (cc e) | inr r ↦ r ]
file_chain file chain.OutOfFile h = elim h [ inl e ↦ absurd (cc e) | inr r ↦ r ]
file_chain file chain.Cycle h = elim h [ inl e ↦ absurd (cc e) | inr r ↦ r ]
file_chain file chain.CrossLinked h = elim h [ inl e ↦ absurd (cc e) | inr r ↦ r ]
file_chain file chain.ShortChain h = elim h [ inl e ↦ absurd (cc e) | inr r ↦ r ]
file_chain file chain.TooBig h = elim h [ inl e ↦ absurd (cc e) | inr r ↦ r ]
file_chain file chain.NoMemory h = tt

pub file_header : (file : List ℕ) (fault : ChainFault) → Err fault ≡ header_read file
    → MayRefuseFile file (chain_fault fault)
file_header file fault h = file_chain file fault (inr (in_header (sym h)))

pub file_load : (file dir : List ℕ) (fault : DirFault) → IsDirectory file dir → MayRefuseLoad dir fault
    → MayRefuseFile file (directory_fault fault)
file_load file dir directory.NameEmpty d h = absurd h
file_load file dir directory.NameTooLong d h = absurd h
file_load file dir directory.NameNotAscii d h = absurd h
file_load file dir directory.NameForbidden d h = absurd h
file_load file dir directory.DuplicateName d h = absurd h
file_load file dir directory.BadEntry d h = (dir, d, inl h)
file_load file dir directory.TreeCycle d h = absurd h
file_load file dir directory.TooNested d h = absurd h
file_load file dir directory.NoMemory d h = tt

bad_root : (file dir : List ℕ) → IsDirectory file dir → MayRefuseEntry dir 0 directory.BadEntry
    → MayRefuseFile file (told.Directory directory.BadEntry)
bad_root file dir d (inl le) = (dir, d, inl (omega (arith, le)))
bad_root file dir d (inr (inl other)) = (dir, d, inr (inl other))
bad_root file dir d (inr (inr odd)) = absurd (odd.0 refl)

pub file_root : (file dir : List ℕ) (fault : DirFault) → IsDirectory file dir → MayRefuseEntry dir 0 fault
    → MayRefuseFile file (directory_fault fault)
file_root file dir directory.NameEmpty d h = absurd (h.0 refl)
file_root file dir directory.NameTooLong d h = absurd (h.0 refl)
file_root file dir directory.NameNotAscii d h = absurd (h.0 refl)
file_root file dir directory.NameForbidden d h = absurd (h.0 refl)
file_root file dir directory.DuplicateName d h = absurd h
file_root file dir directory.BadEntry d h = bad_root file dir d h
file_root file dir directory.TreeCycle d h = absurd h
file_root file dir directory.TooNested d h = absurd h
file_root file dir directory.NoMemory d h = absurd h
