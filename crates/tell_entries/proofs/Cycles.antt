-- Entries that were met, and storages that reach what others reach.
use Rattle.std.proofs.Common.{◌≡◌, ◌≢◌, ◌⊎◌, ◌<◌, ◌≤◌, ◌/◌, ◌*◌, ◌+◌, ◌++◌, ◌∙◌, inl, inr, Bool, true, false, ℕ, List}
use Rattle.std.proofs.Common.{[], ◌∷◌, length, replicate, get_or, refl, sym, ap, subst, arith}
use Rattle.std.specs.List.{All, Contains}
use Rattle.std.proofs.lemmas.List.Elements.{All-contains, Contains-append_left, Contains-append_right}
use Rattle.cfb_header.specs.Bytes.{sector}
use Rattle.cfb_chains.specs.Fat.{set_all}
use Rattle.cfb_chains.proofs.Blocks.{length_block, length_joined}
use Rattle.cfb_chains.proofs.Marks.{marked_only}
use Rattle.cfb_names.specs.declared.fault.DirFault.{DirFault}
use Rattle.cfb_names.specs.declared.fault.DirFault.TheVariants as directory
use Rattle.cfb_entries.specs.Entries.{AreInside, EntriesValue, IsFree, MayRefuseChildren, MayRefuseEntry}
use Rattle.cfb_entries.specs.Entries.{MayRefuseLinked, Reaches, child, entry_at, marked}
use Rattle.cfb_entries.proofs.Inside.{are_inside}
use Rattle.cfb_entries.proofs.Marked.{marks_load}
use Rattle.cfb_file.proofs.Lists.{Contains-cons_cases}
use Rattle.cfb_faults.specs.Faults.{IsChild, IsDirectory, IsOthersChild, IsStorage, MayBeChild}
use Rattle.cfb_faults.proofs.Lists.{all-from, contains-none}
use Rattle.tell_entries.specs.Ways.{IsChildOfOpened, IsMet, IsStorageAtFault, IsWay, end_of}
use Rattle.tell_entries.proofs.Steps.{way_below}

-- a directory has whole entries
pub whole_entries : (file dir : List ℕ) → IsDirectory file dir → (m : ℕ) × (length dir ≡ 128 * m)
whole_entries file dir d =
    let long : length dir ≡ 512 * length d.sectors = ap (λ (x : List ℕ). length x) d.bytes_are
    ∙ length_joined (sector file) 512 d.sectors (λ n. length_block 512 file (512 + 512 * n)) in
    (4 * length d.sectors, omega (arith, long))

-- the root alone is marked at first
pub met_first : (dir : List ℕ) (e : EntriesValue) (m : ℕ) → length dir ≡ 128 * m
    → e ≡ record { directory = dir; used = set_all (replicate (length dir / 128) false) (0 ∷ []) } → IsMet dir e []
met_first dir e m whole is = subst (λ (x : EntriesValue). IsMet dir x []) (sym is) (record {
  same = refl;
  marks = λ n inside t.
      let marks = marks_load dir m whole (omega (arith, whole, inside)) in
      elim (Contains-cons_cases 0 [] n (marks.only n (omega (arith, marks.whole, inside)) t)) [
        | inl z ↦
            inl (sym z)
        | inr c ↦ absurd (contains-none n c)
      ];
})

-- and then the children of a storage that is opened
pub met_more : (dir way : List ℕ) (e : EntriesValue) (opened ids : List ℕ) → IsMet dir e opened → IsWay dir way
    → All (IsChild dir (end_of way)) ids
    → IsMet dir (marked e ids) (opened ++ end_of way ∷ [])
met_more dir way e opened ids m w children = record {
  same = m.same;
  marks = λ n inside t. elim (marked_only e.used ids n t) [
    | inl before ↦ elim (m.marks n inside before) [
      | inl z ↦ inl z
      | inr o ↦
          inr (record {
            parent = o.parent;
            was_opened = Contains-append_left opened (end_of way ∷ []) o.parent
                o.was_opened;
            levels = o.levels;
            below = o.below;
            child_of = o.child_of;
          })
    ]
    | inr c ↦ inr (record {
      parent = end_of way;
      was_opened = Contains-append_right opened (end_of way ∷ []) (end_of way) (0, omega arith, refl);
      levels = length way;
      below = way_below dir way w;
      child_of = subst (IsChild dir (end_of way)) c.2 (children c.0 n c.1);
    })
  ];
}

-- what links reach is no tree of entries of its own, where a walk meets a mark
module _ (dir way : List ℕ) (e : EntriesValue) (opened : List ℕ) (m : IsMet dir e opened)
    (new : Contains opened (end_of way) → ⊥) where
  others : (n : ℕ) → IsChildOfOpened dir opened n → IsOthersChild dir (end_of way) n
  others n o = record {
    levels = o.levels;
    other = o.parent;
    below = o.below;
    another = λ z. new (subst (Contains opened) z o.was_opened);
    child_of = o.child_of;
  }

  unmarked : (n : ℕ) (b : Bool) → get_or e.used n true ≡ b → 128 * n < length dir → MayBeChild dir (end_of way) n
      → get_or e.used n true ≡ false
  unmarked n false is inside may = is
  unmarked n true is inside may = absurd (elim (m.marks n inside is) [ inl z ↦ may.0 z | inr o ↦ may.1 (others n o) ])

  cycle : IsStorage dir (end_of way) → MayRefuseLinked e (child (entry_at e.directory (end_of way)))
      directory.TreeCycle → IsStorageAtFault dir way directory.TreeCycle
  cycle s h = (
    s,
    λ ids linked once may.
        let linked' : AreInside e.directory (child (entry_at e.directory (end_of way))) ids =
        subst (λ (d : List ℕ). AreInside d (child (entry_at d (end_of way))) ids) (sym m.same) linked in
        h ids linked' (record {
          free = all-from (IsFree e) ids (λ n c.
              let inside : 128 * n < length dir = All-contains (λ k. 128 * k < length dir) ids n
              (are_inside dir (child (entry_at dir (end_of way))) ids linked) c in
              let one : MayBeChild dir (end_of way) n = subst (MayBeChild dir (end_of way)) c.2 (may c.0 n c.1) in (
                subst (λ (d : List ℕ). 128 * n < length d) (sym m.same) inside,
                unmarked n (get_or e.used n true)
                    refl inside one,
              ));
          once = once;
        }),
  )

  links : (fault : DirFault) → IsStorage dir (end_of way)
      → MayRefuseLinked e (child (entry_at e.directory (end_of way))) fault → IsStorageAtFault dir way fault
  links directory.BadEntry s h = (
    h.0,
    s,
    subst (λ (d : List ℕ). Reaches d (child (entry_at d (end_of way))) h.0) m.same h.1,
    h.2,
    subst (λ (d : List ℕ). length d ≤ 128 * h.0) m.same h.3,
  )
  links directory.TreeCycle s h = cycle s h
  links directory.NameEmpty s h = absurd h
  links directory.NameTooLong s h = absurd h
  links directory.NameNotAscii s h = absurd h
  links directory.NameForbidden s h = absurd h
  links directory.DuplicateName s h = absurd h
  links directory.TooNested s h = absurd h
  links directory.NoMemory s h = absurd h

  by_fault : (fault : DirFault) → fault ≢ directory.NoMemory → IsStorage dir (end_of way)
      → MayRefuseChildren e (end_of way) fault
      → MayRefuseEntry dir (end_of way) fault ⊎ IsStorageAtFault dir way fault
  by_fault fault some s (inl h) =
      inl (subst (MayRefuseEntry dir (end_of way)) (sym h.1)
      (inl (subst (λ (d : List ℕ). length d ≤ 128 * end_of way) m.same h.0)))
  by_fault fault some s (inr (inl h)) = inr (links fault s h)
  by_fault fault some s (inr (inr h)) = absurd (some h.1)

  pub children_at_fault : (found fault : DirFault) → found ≡ fault → found ≢ directory.NoMemory
      → IsStorage dir (end_of way) → MayRefuseChildren e (end_of way) found
      → MayRefuseEntry dir (end_of way) fault ⊎ IsStorageAtFault dir way fault
  children_at_fault found fault is some s h = subst (λ (f : DirFault). MayRefuseEntry dir (end_of way) f
      ⊎ IsStorageAtFault dir way f) is (by_fault found some s h)
