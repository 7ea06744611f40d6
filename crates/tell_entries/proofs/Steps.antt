-- Ways to entries, and what is wrong with these.
use Rattle.std.proofs.Common.{◌≡◌, ◌≢◌, ◌⊎◌, ◌<◌, ◌-◌, ◌++◌, ◌∙◌, inl, inr, Bool, true, Option, Some, None, IfSome, ℕ}
use Rattle.std.proofs.Common.{zero, suc, List, [], ◌∷◌, length, get_or, refl, sym, ap, subst, arith, length-append}
use Rattle.std.specs.List.{All, Contains}
use Rattle.cfb_chains.proofs.Marks.{distinct_append}
use Rattle.cfb_names.specs.Names.{key}
use Rattle.cfb_names.specs.declared.fault.DirFault.{DirFault}
use Rattle.cfb_names.specs.declared.fault.DirFault.TheVariants as directory
use Rattle.cfb_entries.specs.Entries.{AreLinked, IsEntry, IsKindOf, IsNamed, MayRefuseEntry, MayRefuseLoad, child}
use Rattle.cfb_entries.specs.Entries.{entry_at, kind}
use Rattle.cfb_entries.specs.declared.entries.Entry.{Entry}
use Rattle.cfb_file.proofs.Lists.{Contains-cons_cases}
use Rattle.cfb_faults.specs.Faults.{Descends, IsBelow, IsChild, IsDirectory, IsDirectoryAtFault, IsStorage}
use Rattle.cfb_faults.specs.Faults.{MayRefuseBelow, key_at}
use Rattle.cfb_faults.proofs.Below.{below_some, descends_more, entry_at_fault, linked_child}
use Rattle.cfb_faults.proofs.Lists.{all-from}
use Rattle.tell_entries.specs.Ways.{EntryIsAtFault, IsEntryAtFault, IsFaultOfEntry, IsStorageAtFault, IsWay, end_of}
use Rattle.tell_entries.specs.declared.place.EntryPlace.{EntryPlace}
use Rattle.tell_entries.specs.declared.place.EntryPlace.TheVariants as place

-- ---- ways
end_push : (way : List ℕ) (n : ℕ) → get_or (way ++ n ∷ []) (length way) 0 ≡ n
end_push [] n = refl
end_push (m ∷ way) n = end_push way n

pub end_more : (way : List ℕ) (n : ℕ) → end_of (way ++ n ∷ []) ≡ n
end_more way n =
    let last : length (way ++ n ∷ []) - 1 ≡ length way = omega (arith, length-append way (n ∷ [])) in
    ap (λ (k : ℕ). get_or (way ++ n ∷ []) k 0) last ∙ end_push way n

-- the way to the root
pub way_none : (dir : List ℕ) → IsWay dir []
way_none dir = record { leads = refl; once = λ i j d l k. absurd (omega (arith, l, k)) }

-- one entry further
pub way_more : (dir way : List ℕ) (n : ℕ) → IsWay dir way → IsChild dir (end_of way) n → n ≢ 0
    → (Contains way n → ⊥) → IsWay dir (way ++ n ∷ [])
way_more dir way n w c ne new =
    let other : Contains (0 ∷ way) n → ⊥ = λ a. elim (Contains-cons_cases 0 way n a) [
      | inl z ↦ ne (sym z)
      | inr t ↦
          new t
    ] in
    record {
      leads = subst (Descends dir 0 (way ++ n ∷ [])) (sym (end_more way n))
          (descends_more dir 0 way (end_of way) n w.leads c);
      once = distinct_append (0 ∷ way) (n ∷ []) w.once (λ i j d l k. absurd (omega arith)) (λ m a b.
          elim (Contains-cons_cases n [] m b) [
            | inl e ↦ other (subst (Contains (0 ∷ way)) (sym e) a)
            | inr z ↦
                absurd (omega (arith, z.1))
          ]);
    }

pub way_below : (dir way : List ℕ) → IsWay dir way → IsBelow dir (length way) (end_of way)
way_below dir way w = record { way = way; long = refl; leads = w.leads; once = w.once }

-- the children of a storage
pub children_of : (dir : List ℕ) (id : ℕ) (ids : List ℕ) → IsStorage dir id
    → AreLinked dir (child (entry_at dir id)) ids → All (IsChild dir id) ids
children_of dir id ids s l = all-from (IsChild dir id) ids (λ n c. linked_child dir id n ids s l c)

-- the key of an entry below the root
pub key_of : (dir : List ℕ) (id : ℕ) (e : Entry) → id ≢ 0 → IsEntry dir id e → key e.name ≡ key_at dir id
key_of dir zero e ne h = absurd (ne refl)
key_of dir (suc id) e ne h = let named : IsNamed (entry_at dir (suc id)) e.name = h.name in ap key named.units

-- ---- what is read of the entry of a way
pub kind_at : (e dir way : List ℕ) (id k : ℕ) → e ≡ dir → id ≡ end_of way → kind (entry_at e id) ≡ k
    → kind (entry_at dir (end_of way)) ≡ k
kind_at e dir way id k same at h = sym (λ i. kind (entry_at (same i) (at i))) ∙ h

-- an entry that is opened: the root alone has its kind
storage_root : (dir : List ℕ) (id : ℕ) → IsKindOf id (kind (entry_at dir id)) → kind (entry_at dir id) ≡ 5
    → IsStorage dir id
storage_root dir zero allowed k = inl (refl, k)
storage_root dir (suc id) allowed k =
    absurd (elim allowed [ inl one ↦ omega (arith, one, k) | inr two ↦ omega (arith, two, k) ])

storage_below : (dir : List ℕ) (id : ℕ) → IsKindOf id (kind (entry_at dir id)) → kind (entry_at dir id) ≡ 1
    → IsStorage dir id
storage_below dir zero allowed k = absurd (omega (arith, allowed, k))
storage_below dir (suc id) allowed k = inr ((λ z. omega (arith, z)), k)

pub opens_root : (e dir way : List ℕ) (id : ℕ) → e ≡ dir → id ≡ end_of way → IsKindOf id (kind (entry_at e id))
    → kind (entry_at e id) ≡ 5 → IsStorage dir (end_of way)
opens_root e dir way id same at allowed k = subst (λ (d : List ℕ). IsStorage d (end_of way)) same
    (subst (IsStorage e) at (storage_root e id allowed k))

pub opens_storage : (e dir way : List ℕ) (id : ℕ) → e ≡ dir → id ≡ end_of way → IsKindOf id (kind (entry_at e id))
    → kind (entry_at e id) ≡ 1 → IsStorage dir (end_of way)
opens_storage e dir way id same at allowed k = subst (λ (d : List ℕ). IsStorage d (end_of way)) same
    (subst (IsStorage e) at (storage_below e id allowed k))

pub refused_at : (e dir way : List ℕ) (id : ℕ) (found fault : DirFault) → e ≡ dir → id ≡ end_of way → found ≡ fault
    → MayRefuseEntry e id found → MayRefuseEntry dir (end_of way) fault
refused_at e dir way id found fault same at is h =
    subst (λ (d : List ℕ). MayRefuseEntry d (end_of way) fault) same
    (subst (λ (x : ℕ). MayRefuseEntry e x fault) at (subst (MayRefuseEntry e id) is h))

pub linked_at : (e dir way ids : List ℕ) (id : ℕ) → e ≡ dir → id ≡ end_of way
    → AreLinked e (child (entry_at e id)) ids → AreLinked dir (child (entry_at dir (end_of way))) ids
linked_at e dir way ids id same at h =
    subst (λ (d : List ℕ). AreLinked d (child (entry_at d (end_of way))) ids) same
    (subst (λ (x : ℕ). AreLinked e (child (entry_at e x)) ids) at h)

-- ---- a directory without entries
pub load_at_fault : (dir : List ℕ) (found fault : DirFault) → found ≡ fault → found ≢ directory.NoMemory
    → MayRefuseLoad dir found → (fault ≡ directory.BadEntry) × (length dir < 128)
load_at_fault dir directory.NameEmpty fault is some h = absurd h
load_at_fault dir directory.NameTooLong fault is some h = absurd h
load_at_fault dir directory.NameNotAscii fault is some h = absurd h
load_at_fault dir directory.NameForbidden fault is some h = absurd h
load_at_fault dir directory.DuplicateName fault is some h = absurd h
load_at_fault dir directory.BadEntry fault is some h = (sym is, h)
load_at_fault dir directory.TreeCycle fault is some h = absurd h
load_at_fault dir directory.TooNested fault is some h = absurd h
load_at_fault dir directory.NoMemory fault is some h = absurd (some refl)

pub nowhere_told : (dir : List ℕ) (fault : DirFault) (p : Option EntryPlace) (found : Bool)
    → IfSome p (λ x. (found ≡ true) × (x ≡ place.Nowhere))
    → (found ≡ true → (fault ≡ directory.BadEntry) × (length dir < 128)) → IfSome p (IsEntryAtFault dir fault)
nowhere_told dir fault None found told at = tt
nowhere_told dir fault (Some x) found told at = subst (IsEntryAtFault dir fault) (sym told.1) (at told.0)

-- ---- of the file
pub found_of : (file dir : List ℕ) (fault : DirFault) (p : Option EntryPlace) → IsDirectory file dir
    → IfSome p (IsEntryAtFault dir fault) → IfSome p (IsFaultOfEntry file fault)
found_of file dir fault None d h = tt
found_of file dir fault (Some p) d h = (dir, d, h)

-- ---- the law
named : (dir way : List ℕ) (fault : DirFault) → IsWay dir way → end_of way ≢ 0
    → MayRefuseEntry dir (end_of way) fault → MayRefuseBelow dir fault
named dir way fault w ne h =
    let q : (k : ℕ) × IsBelow dir (suc k) (end_of way) = below_some dir (length way) (end_of way) ne
    (way_below dir way w) in
    entry_at_fault dir q.0 (end_of way) fault q.1 h

bad_entry : (file dir way : List ℕ) (id : ℕ) → id ≡ end_of way → IsDirectory file dir → IsWay dir way
    → MayRefuseEntry dir id directory.BadEntry → IsDirectoryAtFault file directory.BadEntry
bad_entry file dir way zero e d w (inl le) = (dir, d, inl (omega (arith, le)))
bad_entry file dir way zero e d w (inr (inl other)) = (dir, d, inr (inl other))
bad_entry file dir way zero e d w (inr (inr odd)) = absurd (odd.0 refl)
bad_entry file dir way (suc n) e d w h = (
  dir,
  d,
  inr
      (inr (named dir way directory.BadEntry w (λ z. absurd (omega (arith, z, e)))
      (subst (λ (x : ℕ). MayRefuseEntry dir x directory.BadEntry) e h))),
)

refused : (file dir way : List ℕ) (fault : DirFault) → IsDirectory file dir → IsWay dir way
    → MayRefuseEntry dir (end_of way) fault → IsDirectoryAtFault file fault
refused file dir way directory.NameEmpty d w h = (dir, d, named dir way directory.NameEmpty w h.0 h)
refused file dir way directory.NameTooLong d w h = (dir, d, named dir way directory.NameTooLong w h.0 h)
refused file dir way directory.NameNotAscii d w h = (dir, d, named dir way directory.NameNotAscii w h.0 h)
refused file dir way directory.NameForbidden d w h = (dir, d, named dir way directory.NameForbidden w h.0 h)
refused file dir way directory.DuplicateName d w h = absurd h
refused file dir way directory.BadEntry d w h = bad_entry file dir way (end_of way) refl d w h
refused file dir way directory.TreeCycle d w h = absurd h
refused file dir way directory.TooNested d w h = absurd h
refused file dir way directory.NoMemory d w h = absurd h

storage : (file dir way : List ℕ) (fault : DirFault) → IsDirectory file dir → IsWay dir way
    → IsStorageAtFault dir way fault → IsDirectoryAtFault file fault
storage file dir way directory.NameEmpty d w h = absurd h
storage file dir way directory.NameTooLong d w h = absurd h
storage file dir way directory.NameNotAscii d w h = absurd h
storage file dir way directory.NameForbidden d w h = absurd h
storage file dir way directory.DuplicateName d w h = absurd h
storage file dir way directory.BadEntry d w h =
    let below : MayRefuseBelow dir directory.BadEntry = (length way, end_of way, inr (way_below dir way w, h)) in
    (dir, d, inr (inr below))
storage file dir way directory.TreeCycle d w h =
    let below : MayRefuseBelow dir directory.TreeCycle = (length way, end_of way, way_below dir way w, h.0, h.1) in
    (dir, d, below)
storage file dir way directory.TooNested d w h =
    let below : MayRefuseBelow dir directory.TooNested =
    (end_of way, subst (λ (n : ℕ). IsBelow dir n (end_of way)) h.0 (way_below dir way w), h.1) in
    (dir, d, below)
storage file dir way directory.NoMemory d w h = absurd h

told : (file dir way : List ℕ) (fault : DirFault) → IsDirectory file dir → IsWay dir way
    → MayRefuseEntry dir (end_of way) fault ⊎ IsStorageAtFault dir way fault → IsDirectoryAtFault file fault
told file dir way fault d w (inl h) = refused file dir way fault d w h
told file dir way fault d w (inr h) = storage file dir way fault d w h

pub entry_is_at_fault : EntryIsAtFault
entry_is_at_fault file fault place.Nowhere h =
    let bad : IsDirectoryAtFault file directory.BadEntry = (h.0, h.1, inl h.2.1) in
    subst (IsDirectoryAtFault file) (sym h.2.0) bad
entry_is_at_fault file fault (place.Entry way) h = told file h.0 way.items fault h.1 h.2.0 h.2.1
entry_is_at_fault file fault (place.Twins way m n) h =
    let below : MayRefuseBelow h.0 directory.DuplicateName =
    (length way.items, end_of way.items, way_below h.0 way.items h.2.1, (m, n, h.2.2, h.2.3, h.2.4, h.2.5)) in
    let twice : IsDirectoryAtFault file directory.DuplicateName = (h.0, h.1, below) in
    subst (IsDirectoryAtFault file) (sym h.2.0) twice
