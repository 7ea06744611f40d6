-- Which entries are marked, over loads and walks.
use Rattle.std.proofs.Common.{◌≡◌, ◌≢◌, ◌<◌, ◌≤◌, ◌+◌, ◌-◌, ◌*◌, ◌/◌, ℕ, zero, suc, Bool, true, false, ◌⊎◌, inl, inr}
use Rattle.std.proofs.Common.{List, [], ◌∷◌, ◌++◌, length, get_or, replicate, refl, sym, ◌∙◌, ap, subst, arith}
use Rattle.std.proofs.Common.{length-append, nat_le}
use Rattle.std.proofs.lemmas.Bool.{cases_Bool, cases_lt, le-leb}
use Rattle.std.proofs.lemmas.Bool.Decides.{eqb_tells}
use Rattle.std.proofs.lemmas.List.Elements.{All-append, All-push, Contains-append_left, Contains-append_right}
use Rattle.std.proofs.lemmas.List.{get_or-append-add, get_or_default, length-replicate}
use Rattle.std.proofs.Math.ListN.{get_or-append}
use Rattle.std.specs.List.{All, Contains, list_any}
use Rattle.cfb_entries.proofs.Reading.{list_any-at}
use Rattle.cfb_bytes.specs.Marks.{AreDistinct, set_all}
use Rattle.cfb_entries.specs.Entries.{EntriesValue, IsFree, AreFree, AreLinked, MayRefuseChildren, MayRefuseEntry}
use Rattle.cfb_entries.specs.Entries.{MayRefuseLinked, IsKindOf, IsNamed, NO_STREAM, Reaches, here, by_left, by_right}
use Rattle.cfb_entries.specs.Entries.{child, entry_at, kind, left, right, marked}
use Rattle.cfb_names.specs.Names.{IsName, is_forbidden}
use Rattle.cfb_names.specs.declared.fault.DirFault.{DirFault}
use Rattle.cfb_names.specs.declared.fault.DirFault.TheVariants.{NameEmpty, NameTooLong, NameNotAscii, NameForbidden}
use Rattle.cfb_names.specs.declared.fault.DirFault.TheVariants.{DuplicateName, BadEntry, TreeCycle, TooNested, NoMemory}
use Rattle.cfb_entries.proofs.Inside.{linked_inside}
use Rattle.cfb_entries.proofs.Linked.{Around, around_of}
use Rattle.cfb_entries.proofs.Marks.{free_below, length-set_all, set_all-there, set_all-else, set_all-stays}

-- numbers of two lists
at_behind : (xs ys : List ℕ) (j d : ℕ) → length xs ≤ j → get_or (xs ++ ys) j d ≡ get_or ys (j - length xs) d
at_behind xs ys j d h =
    let e : j ≡ length xs + (j - length xs) = omega arith in
    ap (λ k. get_or (xs ++ ys) k d) e ∙ get_or-append-add xs ys (j - length xs) d

pub distinct_join : (xs ys : List ℕ) → AreDistinct xs → AreDistinct ys
    → ((z : ℕ) → Contains xs z → Contains ys z → ⊥) → AreDistinct (xs ++ ys)
distinct_join xs ys a b apart = λ i j d lt l same.
    let long : length (xs ++ ys) ≡ length xs + length ys = length-append xs ys in
    elim (cases_lt j (length xs)) [
      | inl in_front ↦ a i j d lt in_front (sym (get_or-append xs ys d i (omega arith)) ∙ same
          ∙ get_or-append xs ys d j in_front)
      | inr behind ↦
          let k : j - length xs < length ys = omega arith in
          elim (cases_lt i (length xs)) [
            | inl in_front ↦
                let z : ℕ = get_or xs i d in
                let e : get_or ys (j - length xs) d ≡ z = sym (at_behind xs ys j d behind) ∙ sym same
                ∙ get_or-append xs ys d i in_front in
                apart z (i, in_front, get_or_default xs i z d in_front)
                (j - length xs, k, get_or_default ys (j - length xs) z d k ∙ e)
            | inr both ↦ b (i - length xs) (j - length xs) d (omega arith) k
                (sym (at_behind xs ys i d both) ∙ same ∙ at_behind xs ys j d behind)
          ]
    ]

pub distinct_behind : (xs ys : List ℕ) → AreDistinct (xs ++ ys) → AreDistinct ys
distinct_behind xs ys h = λ i j d lt l same.
    let m : length xs + j < length (xs ++ ys) = omega (arith, length-append xs ys) in
    h (length xs + i) (length xs + j) d (omega arith) m (get_or-append-add xs ys i d ∙ same
    ∙ sym (get_or-append-add xs ys j d))

pub distinct_apart : (xs ys : List ℕ) → AreDistinct (xs ++ ys) → (z : ℕ) → Contains xs z → Contains ys z → ⊥
distinct_apart xs ys h z (i, l, is) (j, m, at) =
    let n : length xs + j < length (xs ++ ys) = omega (arith, length-append xs ys) in
    h i (length xs + j) z (omega arith) n (get_or-append xs ys z i l ∙ is ∙ sym at ∙ sym (get_or-append-add xs ys j z))

-- a number stands in a list, or nowhere in it
met_or_not : (n : ℕ) (xs : List ℕ) → Contains xs n ⊎ All (λ m. m ≢ n) xs
met_or_not n [] = inr (λ k d lt. absurd (omega arith))
met_or_not n (x ∷ xs) =
    elim (eqb_tells x n) [
      | inl same ↦ inl (0, omega arith, same.1)
      | inr other ↦ elim (met_or_not n xs) [
        | inl c ↦ inl (suc c.0, omega (arith, c.1), c.2)
        | inr a ↦ inr (λ k d lt. front_or_behind n x xs other.1 a k d lt)
      ]
    ]
  where
    front_or_behind : (n x : ℕ) (xs : List ℕ) → x ≢ n → All (λ m. m ≢ n) xs → (k d : ℕ) → k < length (x ∷ xs)
        → get_or (x ∷ xs) k d ≢ n
    front_or_behind n x xs ne a zero d lt = ne
    front_or_behind n x xs ne a (suc k) d lt = a k d (omega arith)

-- Just these entries of a whole directory are marked, each named once.
pub record Marks (e : EntriesValue) (ids : List ℕ) : Type 0 where
  pub whole : length e.directory ≡ 128 * length e.used
  pub inside : All (λ n. n < length e.used) ids
  pub marked_all : All (λ n. get_or e.used n true ≡ true) ids
  pub only : (n : ℕ) → n < length e.used → get_or e.used n true ≡ true → Contains ids n
  pub once : AreDistinct ids

-- a list of numbers that holds each of what holds at its places
All-at : (P : ℕ → Type 0) (xs : List ℕ) (z : ℕ) → All P xs → Contains xs z → P z
All-at P xs z h (k, lt, is) = subst P is (h k z lt)

unset : (n k : ℕ) → k < n → get_or (replicate n false) k true ≡ false
unset zero k h = absurd (omega arith)
unset (suc n) zero h = refl
unset (suc n) (suc k) h = unset n k (omega arith)

pub marks_more : (e : EntriesValue) (ids more : List ℕ) → Marks e ids → AreFree e more
    → Marks (marked e more) (ids ++ more)
marks_more e ids more m f =
    let same : length (set_all e.used more) ≡ length e.used = length-set_all e.used more in
    let In : ℕ → Type 0 = λ n. n < length (set_all e.used more) in
    let On : ℕ → Type 0 = λ n. get_or (set_all e.used more) n true ≡ true in
    record {
      whole = omega (arith, m.whole);
      inside = All-append In ids more (λ k d lt. omega (arith, m.inside k d lt))
          (λ k d lt. let g : IsFree e (get_or more k d) = f.free k d lt in
          omega (arith, free_below e.used (get_or more k d) g.1));
      marked_all = All-append On ids more (λ k d lt. set_all-stays e.used more (get_or ids k d) (m.marked_all k d lt))
          (λ k d lt. set_all-there e.used more (get_or more k d) (k, lt, get_or_default more k (get_or more k d) d lt));
      only = λ n lt t. elim (met_or_not n more) [
        | inl c ↦ Contains-append_right ids more n c
        | inr a ↦ Contains-append_left ids more n (m.only n (omega arith) (sym (set_all-else e.used more n true a) ∙ t))
      ];
      once = distinct_join ids more m.once f.once
          (λ z c g.
          let on : get_or e.used z true ≡ true = All-at (λ n. get_or e.used n true ≡ true) ids z m.marked_all c in
          let free : IsFree e z = All-at (IsFree e) more z f.free g in
          cc (on, free.1));
    }

pub marks_load : (directory : List ℕ) (n : ℕ) → length directory ≡ 128 * n → 0 < n
    → Marks (record { directory = directory; used = set_all (replicate (length directory / 128) false) (0 ∷ []) })
    (0 ∷ [])
marks_load directory n whole some =
    let count : length directory / 128 ≡ n = omega arith in
    let blank : EntriesValue = record { directory = directory; used = replicate (length directory / 128) false } in
    let long : length (replicate (length directory / 128) false) ≡ n =
    length-replicate {A = Bool} (length directory / 128) false ∙ count in
    let none : Marks blank [] = record {
      whole = omega arith;
      inside = λ k d lt. absurd (omega arith);
      marked_all = λ k d lt. absurd (omega arith);
      only = λ k lt t. let u : get_or (replicate (length directory / 128) false) k true ≡ false =
          unset (length directory / 128) k (omega arith) in absurd (cc (t, u));
      once = λ i j d lt l. absurd (omega arith);
    } in
    let first : 128 * 0 < length directory = omega arith in
    let free : AreFree blank (0 ∷ []) = record {
      free = All-push (IsFree blank) [] 0 (λ k d lt. absurd (omega arith))
          (first, unset (length directory / 128) 0 (omega arith));
      once = λ i j d lt l. absurd (omega arith);
    } in
    marks_more blank [] (0 ∷ []) none free

-- entries that are inside, and apart from those that are marked, are free
pub free_when : (e : EntriesValue) (ids more : List ℕ) → Marks e ids → All (λ n. 128 * n < length e.directory) more
    → AreDistinct (ids ++ more) → AreFree e more
free_when e ids more m inside once = record {
  free = λ k d lt.
      let z : ℕ = get_or more k d in
      let l : 128 * z < length e.directory = inside k d lt in (
        l,
        elim (cases_Bool (get_or e.used z true)) [
          | inl t ↦ absurd (distinct_apart ids more once z (m.only z (omega (arith, m.whole)) t)
              (k, lt, get_or_default more k z d lt))
          | inr u ↦ u
        ],
      );
  once = distinct_behind ids more once;
}

-- An entry of an allowed kind whose name is valid is refused by nothing.
unit_in : (name : List ℕ) (p : ℕ → Bool) (c : ℕ) → list_any p name ≡ false → Contains name c → p c ≡ true → ⊥
unit_in name p c h there is = let t : list_any p name ≡ true = list_any-at p name c there is in cc (t, h)

pub entry_kept : (directory : List ℕ) (id : ℕ) (name : List ℕ) (fault : DirFault) → 128 * id < length directory
    → IsKindOf id (kind (entry_at directory id))
    → (id ≢ 0 → IsNamed (entry_at directory id) name) → IsName name → MayRefuseEntry directory id fault → ⊥
entry_kept directory id name NameEmpty lt k named valid (ne, h) = let n = named ne in omega (arith, n.even, valid.some)
entry_kept directory id name NameTooLong lt k named valid (ne, h) = let n = named ne in
    omega (arith, n.even, valid.short)
entry_kept directory id name NameNotAscii lt k named valid (ne, (short, (c, there, past))) =
    let n = named ne in
    unit_in name (nat_le 128) c valid.ascii (subst (λ (xs : List ℕ). Contains xs c) (sym n.units) there)
    (le-leb 128 c past)
entry_kept directory id name NameForbidden lt k named valid (ne, (short, (c, there, bad))) =
    let n = named ne in
    unit_in name is_forbidden c valid.allowed (subst (λ (xs : List ℕ). Contains xs c) (sym n.units) there) bad
entry_kept directory id name DuplicateName lt k named valid h = h
entry_kept directory id name BadEntry lt k named valid (inl out) = omega arith
entry_kept directory id name BadEntry lt k named valid (inr (inl other)) = other k
entry_kept directory id name BadEntry lt k named valid (inr (inr (ne, odd))) =
    let n = named ne in odd (length name + 1) (omega (arith, n.even))
entry_kept directory id name TreeCycle lt k named valid h = h
entry_kept directory id name TooNested lt k named valid h = h
entry_kept directory id name NoMemory lt k named valid h = h

-- Entries that are linked and free are refused by nothing but want of memory.
reached_inside : (d : List ℕ) (top id : ℕ) (ids : List ℕ) → AreLinked d top ids → Reaches d top id → id ≢ NO_STREAM
    → 128 * id < length d
reached_inside d top id ids a (here i) ne = let g : Around d top ids = around_of d top ids ne a in g.inside
reached_inside d top id ids a (by_left i to lt other r) ne =
    let g : Around d top ids = around_of d top ids other a in
    reached_inside d (left (entry_at d top)) id g.before g.lefts r ne
reached_inside d top id ids a (by_right i to lt other r) ne =
    let g : Around d top ids = around_of d top ids other a in
    reached_inside d (right (entry_at d top)) id g.after g.rights r ne

linked_kept : (e : EntriesValue) (top : ℕ) (ids : List ℕ) (fault : DirFault) → AreLinked e.directory top ids
    → AreFree e ids → MayRefuseLinked e top fault → fault ≡ NoMemory
linked_kept e top ids NameEmpty a f h = absurd h
linked_kept e top ids NameTooLong a f h = absurd h
linked_kept e top ids NameNotAscii a f h = absurd h
linked_kept e top ids NameForbidden a f h = absurd h
linked_kept e top ids DuplicateName a f h = absurd h
linked_kept e top ids BadEntry a f h =
    absurd (let lt : 128 * h.0 < length e.directory = reached_inside e.directory top h.0 ids a h.1 h.2 in
    omega (arith, h.3))
linked_kept e top ids TreeCycle a f h = absurd (h ids (linked_inside e.directory top ids a) f)
linked_kept e top ids TooNested a f h = absurd h
linked_kept e top ids NoMemory a f h = absurd h

pub children_kept : (e : EntriesValue) (id : ℕ) (ids : List ℕ) (fault : DirFault) → 128 * id < length e.directory
    → AreLinked e.directory (child (entry_at e.directory id)) ids → AreFree e ids → MayRefuseChildren e id fault
    → fault ≡ NoMemory
children_kept e id ids fault lt a f (inl out) = absurd (omega (arith, out.0))
children_kept e id ids fault lt a f (inr (inl h)) = linked_kept e (child (entry_at e.directory id)) ids fault a f h
children_kept e id ids fault lt a f (inr (inr m)) = m.1
