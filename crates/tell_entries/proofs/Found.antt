-- What a search of a directory says of the places of a fault.
use Rattle.std.proofs.Common.{◌≡◌, ◌≢◌, ◌⊎◌, inl, inr, ◌<◌, ◌≤◌, ◌*◌, ◌∙◌, Bool, true, false, ℕ, List, [], ◌∷◌, Option}
use Rattle.std.proofs.Common.{Some, None, IfNone, IfSome, Result, Ok, Err, IfOk, arith, length, refl, subst, sym}
use Rattle.cfb_entries.specs.Entries.{MayRefuseEntry}
use Rattle.cfb_names.specs.declared.fault.DirFault.{DirFault}
use Rattle.cfb_names.specs.declared.fault.DirFault.TheVariants as directory
use Rattle.cfb_faults.specs.Faults.{Descends, IsChild, IsDirectory, LeadsOutside}
use Rattle.tell_entries.specs.Searches.{IsWayAtFault}
use Rattle.tell_entries.specs.Ways.{IsEntryAtFault, IsFaultOfEntry, IsNoEntry, IsOfLinks, IsStorageAtFault, IsWay}
use Rattle.tell_entries.specs.Ways.{end_of}
use Rattle.tell_entries.specs.declared.place.EntryPlace.{EntryPlace}
use Rattle.tell_entries.specs.declared.place.EntryPlace.TheVariants as place

-- ---- what is found
storage_of : (dir way : List ℕ) (fault : DirFault) → fault ≡ directory.BadEntry → LeadsOutside dir (end_of way)
    → IsStorageAtFault dir way fault
storage_of dir way fault bad h = subst (IsStorageAtFault dir way) (sym bad) h

pub way_told : (dir way : List ℕ) (fault : DirFault) → IsWayAtFault dir fault way
    → MayRefuseEntry dir (end_of way) fault ⊎ IsStorageAtFault dir way fault
way_told dir way fault (inl refused) = inl refused
way_told dir way fault (inr outside) = inr (storage_of dir way fault outside.0 outside.1)

-- ---- what isn't
of_way : (dir way : List ℕ) (fault : DirFault) → (IsOfLinks fault → ⊥) → IsStorageAtFault dir way fault
    → IsWayAtFault dir fault way
of_way dir way directory.BadEntry own h = inr (refl, h)
of_way dir way directory.TooNested own h = absurd (own tt)
of_way dir way directory.TreeCycle own h = absurd (own tt)
of_way dir way directory.DuplicateName own h = absurd h
of_way dir way directory.NameEmpty own h = absurd h
of_way dir way directory.NameTooLong own h = absurd h
of_way dir way directory.NameNotAscii own h = absurd h
of_way dir way directory.NameForbidden own h = absurd h
of_way dir way directory.NoMemory own h = absurd h

twins_of_links : (fault : DirFault) → (IsOfLinks fault → ⊥) → fault ≡ directory.DuplicateName → ⊥
twins_of_links fault own e = own (subst IsOfLinks (sym e) tt)

pub no_entry : (dir : List ℕ) (fault : DirFault) → (IsOfLinks fault → ⊥) → (length dir < 128 → ⊥)
    → ((way : List ℕ) → IsWay dir way → IsWayAtFault dir fault way → ⊥)
    → (p : EntryPlace) → IsEntryAtFault dir fault p → ⊥
no_entry dir fault own some none place.Nowhere h = some h.1
no_entry dir fault own some none (place.Entry way) h =
    elim h.1 [
      | inl refused ↦ none way.items h.0 (inl refused)
      | inr storage ↦
          none way.items h.0 (of_way dir way.items fault own storage)
    ]
no_entry dir fault own some none (place.Twins way m n) h = twins_of_links fault own h.0

-- a directory without entries has no fault but that
empty_way : (dir way : List ℕ) → length dir ≡ 0 → IsWay dir way → way ≡ []
empty_way dir [] e w = refl
empty_way dir (n ∷ way) e w = let c : IsChild dir 0 n = w.leads.0 in absurd (omega (arith, e, c.inside))

of_root : (dir : List ℕ) (fault : DirFault) → fault ≢ directory.BadEntry → MayRefuseEntry dir 0 fault → ⊥
of_root dir directory.BadEntry other h = other refl
of_root dir directory.NameEmpty other h = h.0 refl
of_root dir directory.NameTooLong other h = h.0 refl
of_root dir directory.NameNotAscii other h = h.0 refl
of_root dir directory.NameForbidden other h = h.0 refl
of_root dir directory.DuplicateName other h = h
of_root dir directory.TreeCycle other h = h
of_root dir directory.TooNested other h = h
of_root dir directory.NoMemory other h = h

at_root : (dir way : List ℕ) (fault : DirFault) → fault ≢ directory.BadEntry → way ≡ [] → IsWayAtFault dir fault way → ⊥
at_root dir way fault other e (inr outside) = other outside.0
at_root dir way fault other e (inl refused) = of_root dir fault other
    (subst (λ (v : List ℕ). MayRefuseEntry dir (end_of v) fault) e refused)

pub no_entry_in_none : (dir : List ℕ) (fault : DirFault) → length dir ≡ 0 → fault ≢ directory.BadEntry
    → (IsOfLinks fault → ⊥) → (p : EntryPlace) → IsEntryAtFault dir fault p → ⊥
no_entry_in_none dir fault none other own place.Nowhere h = other h.0
no_entry_in_none dir fault none other own (place.Entry way) h =
    let e : way.items ≡ [] = empty_way dir way.items none h.0 in
    elim h.1 [
      | inl refused ↦ at_root dir way.items fault other e (inl refused)
      | inr storage ↦
          at_root dir way.items fault other e (of_way dir way.items fault own storage)
    ]
no_entry_in_none dir fault none other own (place.Twins way m n) h = twins_of_links fault own h.0

pub none_in_none : (dir : List ℕ) (fault : DirFault) (v : Option EntryPlace) (b : Bool) → length dir ≡ 0
    → (b ≡ false → fault ≢ directory.BadEntry) → (IsOfLinks fault → ⊥) → IfNone v (b ≡ false)
    → IfNone v ((p : EntryPlace) → IsEntryAtFault dir fault p → ⊥)
none_in_none dir fault None b none other own h = no_entry_in_none dir fault none (other h) own
none_in_none dir fault (Some p) b none other own h = tt

-- ---- of the file
pub no_entry_of : {E : Type 0} (file dir : List ℕ) (fault : DirFault) (r : Result (Option EntryPlace) E)
    → ((x : List ℕ) → IsDirectory file x → x ≡ dir)
    → IfOk r (λ v. IfNone v ((p : EntryPlace) → IsEntryAtFault dir fault p → ⊥))
    → IfOk r (λ v. IfNone v (IsNoEntry file fault))
no_entry_of file dir fault (Ok None) one h =
    λ p f. h p (subst (λ (x : List ℕ). IsEntryAtFault x fault p) (one f.0 f.1) f.2)
no_entry_of file dir fault (Ok (Some p)) one h = tt
no_entry_of file dir fault (Err e) one h = tt

pub no_directory_of : (file : List ℕ) (fault : DirFault) → ((x : List ℕ) → IsDirectory file x → ⊥)
    → IsNoEntry file fault
no_directory_of file fault none p f = none f.0 f.1
