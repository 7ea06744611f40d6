-- Entries below the root.
use Rattle.std.proofs.Common.{◌≡◌, ◌≢◌, ◌<◌, ◌*◌, inl, inr, ℕ, zero, suc, List, [], ◌∷◌, ◌++◌, length, refl, sym, subst}
use Rattle.std.proofs.Common.{arith, length-append}
use Rattle.std.specs.List.{Contains}
use Rattle.std.proofs.lemmas.List.Elements.{All-contains, Contains-append_cases}
use Rattle.cfb_chains.specs.Chain.{AreDistinct}
use Rattle.cfb_chains.proofs.Marks.{distinct_append, distinct_head}
use Rattle.cfb_entries.specs.Entries.{AreLinked, MayRefuseEntry, NO_STREAM, Reaches, around, by_left, by_right, child}
use Rattle.cfb_entries.specs.Entries.{entry_at, here, left, nobody, right}
use Rattle.cfb_names.specs.declared.fault.DirFault.{DirFault}
use Rattle.cfb_names.specs.declared.fault.DirFault.TheVariants as directory
use Rattle.cfb_file.proofs.Lists.{Contains-cons_cases}
use Rattle.cfb_faults.specs.Faults.{Descends, IsBelow, IsChild, IsStorage, MayRefuseBelow}

-- ---- what links reach
pub reached_from : (d : List ℕ) (top n : ℕ) (ids : List ℕ) → AreLinked d top ids → Contains ids n
    → (128 * n < length d) × (n ≢ NO_STREAM) × Reaches d top n
reached_from d top n ids nobody c = absurd (omega (arith, c.1))
reached_from d top n ids (around id before after ne lt l r) c =
    elim (Contains-cons_cases id (before ++ after) n c) [
      | inl e ↦ subst (λ (x : ℕ). (128 * x < length d) × (x ≢ NO_STREAM) × Reaches d top x) e (lt, ne, here top)
      | inr c' ↦ elim (Contains-append_cases before after n c') [
        | inl b ↦ let q : _ = reached_from d (left (entry_at d top)) n before l b in (q.0, q.1, by_left top n lt ne q.2)
        | inr a ↦ let q : _ = reached_from d (right (entry_at d top)) n after r a in
            (q.0, q.1, by_right top n lt ne q.2)
      ]
    ]

pub linked_child : (d : List ℕ) (parent n : ℕ) (ids : List ℕ) → IsStorage d parent
    → AreLinked d (child (entry_at d parent)) ids → Contains ids n → IsChild d parent n
linked_child d parent n ids s l c =
    let q : (128 * n < length d) × (n ≢ NO_STREAM) × Reaches d (child (entry_at d parent)) n =
    reached_from d (child (entry_at d parent)) n ids l c in
    record { of_storage = s; inside = q.0; somebody = q.1; reached = q.2 }

-- ---- one level more
pub descends_more : (dir : List ℕ) (top : ℕ) (way : List ℕ) (id n : ℕ) → Descends dir top way id → IsChild dir id n
    → Descends dir top (way ++ n ∷ []) n
descends_more dir top [] id n h c = (subst (λ (x : ℕ). IsChild dir x n) h c, refl)
descends_more dir top (m ∷ way) id n h c = (h.0, descends_more dir m way id n h.1 c)

abbrev pub below_more : (dir : List ℕ) (levels id n : ℕ) (h : IsBelow dir levels id) → IsChild dir id n
    → (Contains (0 ∷ h.way) n → ⊥) → IsBelow dir (suc levels) n
below_more dir levels id n h c new = record {
  way = h.way ++ n ∷ [];
  long = omega (arith, length-append h.way (n ∷ []), h.long);
  leads = descends_more dir 0 h.way id n h.leads c;
  once = distinct_append (0 ∷ h.way) (n ∷ []) h.once (λ i j d l k. absurd (omega arith)) (λ m a b.
      elim (Contains-cons_cases n [] m b) [
        | inl e ↦ new (subst (Contains (0 ∷ h.way)) (sym e) a)
        | inr z ↦
            absurd (omega (arith, z.1))
      ]);
}

-- an entry other than the root lies at least one level below it
at_top : (dir way : List ℕ) (id : ℕ) → length way ≡ 0 → Descends dir 0 way id → id ≡ 0
at_top dir [] id l d = d
at_top dir (n ∷ way) id l d = absurd (omega (arith, l))

pub below_some : (dir : List ℕ) (levels id : ℕ) → id ≢ 0 → IsBelow dir levels id → (k : ℕ) × IsBelow dir (suc k) id
below_some dir zero id ne h = absurd (ne (at_top dir h.way id h.long h.leads))
below_some dir (suc k) id ne h = (k, h)

-- and an entry below the root isn't the root
last_in : (dir : List ℕ) (n : ℕ) (way : List ℕ) (id : ℕ) → Descends dir n way id → Contains (n ∷ way) id
last_in dir n [] id d = (0, omega arith, sym d)
last_in dir n (m ∷ way) id d = let c : Contains (m ∷ way) id = last_in dir m way id d.1 in
    (suc c.0, omega (arith, c.1), c.2)

not_root : (dir way : List ℕ) (levels id : ℕ) → length way ≡ suc levels → Descends dir 0 way id
    → AreDistinct (0 ∷ way) → 0 ≢ id
not_root dir [] levels id l d once = absurd (omega (arith, l))
not_root dir (n ∷ way) levels id l d once = All-contains (λ m. 0 ≢ m) (n ∷ way) id (distinct_head 0 (n ∷ way) once)
    (last_in dir n way id d.1)

pub below_not_root : (dir : List ℕ) (levels id : ℕ) → IsBelow dir (suc levels) id → id ≢ 0
below_not_root dir levels id h z = not_root dir h.way levels id h.long h.leads h.once (sym z)

-- and inside the directory
child_inside : (dir : List ℕ) (top n : ℕ) (way : List ℕ) (id : ℕ) → IsChild dir top n → Descends dir n way id
    → 128 * id < length dir
child_inside dir top n [] id c d = subst (λ (x : ℕ). 128 * x < length dir) (sym d) c.inside
child_inside dir top n (m ∷ way) id c d = child_inside dir n m way id d.0 d.1

descends_inside : (dir : List ℕ) (levels : ℕ) (way : List ℕ) (id : ℕ) → length way ≡ suc levels
    → Descends dir 0 way id → 128 * id < length dir
descends_inside dir levels [] id l d = absurd (omega (arith, l))
descends_inside dir levels (n ∷ way) id l d = child_inside dir 0 n way id d.0 d.1

-- ---- an entry that is at fault
bad_entry : (dir : List ℕ) (levels id : ℕ) → IsBelow dir (suc levels) id → MayRefuseEntry dir id directory.BadEntry
    → MayRefuseBelow dir directory.BadEntry
bad_entry dir levels id b (inl le) = absurd (omega (arith, le, descends_inside dir levels b.way id b.long b.leads))
bad_entry dir levels id b (inr (inl other)) = (levels, id, inl (b, inl other))
bad_entry dir levels id b (inr (inr odd)) = (levels, id, inl (b, inr odd.1))

pub entry_at_fault : (dir : List ℕ) (levels id : ℕ) (fault : DirFault) → IsBelow dir (suc levels) id
    → MayRefuseEntry dir id fault → MayRefuseBelow dir fault
entry_at_fault dir levels id directory.NameEmpty b h = (levels, id, b, h.1)
entry_at_fault dir levels id directory.NameTooLong b h = (levels, id, b, h.1)
entry_at_fault dir levels id directory.NameNotAscii b h = (levels, id, b, h.1)
entry_at_fault dir levels id directory.NameForbidden b h = (levels, id, b, h.1)
entry_at_fault dir levels id directory.DuplicateName b h = absurd h
entry_at_fault dir levels id directory.BadEntry b h = bad_entry dir levels id b h
entry_at_fault dir levels id directory.TreeCycle b h = absurd h
entry_at_fault dir levels id directory.TooNested b h = absurd h
entry_at_fault dir levels id directory.NoMemory b h = absurd h
