-- Reading names.
use Rattle.std.proofs.Common.{◌≡◌, ◌≢◌, ◌<◌, ◌≤◌, ◌+◌, ◌-◌, ◌*◌, ◌/◌, ◌%◌, ℕ, zero, suc, Bool, true, false, cond, inl}
use Rattle.std.proofs.Common.{inr, List, [], ◌∷◌, length, map, take, get_or, nat_le, nat_lt, nat_eq, Result, IfOk}
use Rattle.std.proofs.Common.{IfErr, refl, sym, ◌∙◌, ap, subst, arith, ◌||◌}
use Rattle.std.proofs.lemmas.Bool.{cases_Bool, eqb-true, leb-true, ltb-true}
use Rattle.std.proofs.lemmas.Bool.Decides.{nat_tests}
use Rattle.std.proofs.lemmas.Grind.{same_number_lists}
use Rattle.std.proofs.lemmas.List.FromFn.{get_or-map-range_with_len, length-map-range_with_len}
use Rattle.std.proofs.lemmas.List.{get_or-take, length-take-le}
use Rattle.std.specs.List.{Contains, list_any, range_with_len}
use Rattle.cfb_bytes.specs.Bytes.{u16_at}
use Rattle.cfb_names.specs.Names.{IsName, is_forbidden, name_read}
use Rattle.cfb_entries.specs.Entries.{IsNameOf, IsNamed, root_name, MayRefuseEntry, entry_at, name_length, name_of}
use Rattle.cfb_entries.specs.Walk.{MayRefuseName}
use Rattle.cfb_names.specs.declared.fault.DirFault.{DirFault}
use Rattle.cfb_names.specs.declared.fault.DirFault.TheVariants.{NameEmpty, NameTooLong, NameNotAscii, NameForbidden}
use Rattle.cfb_names.specs.declared.fault.DirFault.TheVariants.{DuplicateName, BadEntry, TreeCycle, TooNested, NoMemory}

-- what holds of either choice holds of the one that a test takes
choose : {X : Type 0} (Q : X → Type 0) (b : Bool) (x y : X) → (b ≡ true → Q x) → (b ≡ false → Q y) → Q (cond b x y)
choose Q true x y f g = f refl
choose Q false x y f g = g refl

-- an element that passes a test
pub list_any-contained : (p : ℕ → Bool) (xs : List ℕ) → list_any p xs ≡ true → (c : ℕ) × Contains xs c × (p c ≡ true)
list_any-contained p [] h = absurd (cc h)
list_any-contained p (x ∷ xs) h =
    elim (cases_Bool (p x)) [
      | inl t ↦ (x, (0, omega arith, refl), t)
      | inr f ↦
          let rest : list_any p xs ≡ true = sym (ap (λ b. b || list_any p xs) f) ∙ h in
          let r : (c : ℕ) × Contains xs c × (p c ≡ true) = list_any-contained p xs rest in
          (r.0, (suc r.1.0, omega (arith, r.1.1), r.1.2), r.2)
    ]

pub list_any-at : (p : ℕ → Bool) (xs : List ℕ) (c : ℕ) → Contains xs c → p c ≡ true → list_any p xs ≡ true
list_any-at p [] c (k, lt, is) h = absurd (omega arith)
list_any-at p (x ∷ xs) c (zero, lt, is) h = ap (λ b. b || list_any p xs) (ap p is ∙ h)
list_any-at p (x ∷ xs) c (suc k, lt, is) h =
    let rest : list_any p xs ≡ true = list_any-at p xs c (k, omega arith, is) h in
    elim (cases_Bool (p x)) [ inl t ↦ ap (λ b. b || list_any p xs) t | inr f ↦ ap (λ b. b || list_any p xs) f ∙ rest ]

some_of : (n : ℕ) → nat_eq n 0 ≡ false → 0 < n
some_of n e = grind (arith, nat_tests)

short_of : (n : ℕ) → nat_lt 31 n ≡ false → n ≤ 31
short_of n e = grind (arith, nat_tests)

-- what is read as a name is one
pub name_read-ok : (bytes : List ℕ) (P : List ℕ → Type 0) → P bytes → IfOk (name_read bytes) P
name_read-ok bytes P h =
    let Q : Result (List ℕ) DirFault → Type 0 = λ r. IfOk r P in
    choose Q (nat_eq (length bytes) 0) _ _ (λ e. tt)
    (λ e. choose Q (nat_lt 31 (length bytes)) _ _ (λ l. tt)
    (λ l. choose Q (list_any (nat_le 128) bytes) _ _ (λ a. tt)
    (λ a. choose Q (list_any is_forbidden bytes) _ _ (λ f. tt) (λ f. h))))

pub name_read-valid : (bytes : List ℕ) → IfOk (name_read bytes) IsName
name_read-valid bytes =
    let Q : Result (List ℕ) DirFault → Type 0 = λ r. IfOk r IsName in
    choose Q (nat_eq (length bytes) 0) _ _ (λ e. tt)
    (λ e. choose Q (nat_lt 31 (length bytes)) _ _ (λ l. tt)
    (λ l. choose Q (list_any (nat_le 128) bytes) _ _ (λ a. tt)
    (λ a. choose Q (list_any is_forbidden bytes) _ _ (λ f. tt)
    (λ f. record { some = some_of (length bytes) e; short = short_of (length bytes) l; ascii = a; allowed = f }))))

pub name_read-err : (bytes : List ℕ) (P : DirFault → Type 0) → (length bytes ≡ 0 → P NameEmpty)
    → (31 < length bytes → P NameTooLong)
    → (list_any (nat_le 128) bytes ≡ true → P NameNotAscii) → (list_any is_forbidden bytes ≡ true → P NameForbidden)
    → IfErr (name_read bytes) P
name_read-err bytes P none long past bad =
    let Q : Result (List ℕ) DirFault → Type 0 = λ r. IfErr r P in
    choose Q (nat_eq (length bytes) 0) _ _ (λ e. none (eqb-true (length bytes) 0 e))
    (λ e. choose Q (nat_lt 31 (length bytes)) _ _ (λ l. long (ltb-true 31 (length bytes) l))
    (λ l. choose Q (list_any (nat_le 128) bytes) _ _ past
    (λ a. choose Q (list_any is_forbidden bytes) _ _ bad (λ f. tt))))

-- the characters of an entry's name, as they are read
module _ (entry units : List ℕ) (room : length units ≡ 31) (some : 4 ≤ name_length entry)
    (short : name_length entry ≤ 64)
    (read : (k : ℕ) → k < name_length entry / 2 - 1 → get_or units k 0 ≡ u16_at entry (2 * k)) where
  count : ℕ
  count = name_length entry / 2 - 1

  unit : ℕ → ℕ
  unit k = u16_at entry (2 * k)

  length-chars : length (take (name_length entry / 2 - 1) units) ≡ name_length entry / 2 - 1
  length-chars = length-take-le (name_length entry / 2 - 1) units (omega arith)

  pub chars : take (name_length entry / 2 - 1) units ≡ name_of entry
  unfolding unit count
  chars =
      same_number_lists (take count units) (map unit (range_with_len 0 count))
      (length-chars ∙ sym (length-map-range_with_len unit 0 count))
      (λ k h.
      let lt : k < count = omega (arith, length-chars) in
      get_or-take count units k 0 lt ∙ read k lt ∙ sym (get_or-map-range_with_len unit 0 count k k 0 lt (omega arith)))

  pub named : (r : Result (List ℕ) DirFault) → r ≡ name_read (take (name_length entry / 2 - 1) units)
      → (name_length entry % 2 ≡ 0) → IfOk r (IsNamed entry)
  named r is even =
      let n : name_length entry ≡ 2 * length (take (name_length entry / 2 - 1) units) + 2 =
      omega (arith, length-chars) in
      subst (λ (x : Result (List ℕ) DirFault). IfOk x (IsNamed entry)) (sym is)
      (name_read-ok (take (name_length entry / 2 - 1) units) (IsNamed entry) (record { even = n; units = chars }))

  pub unnamed : (r : Result (List ℕ) DirFault) → r ≡ name_read (take (name_length entry / 2 - 1) units)
      → IfErr r (MayRefuseName entry)
  unnamed r is =
      let P : List ℕ → Type 0 = λ xs. (p : ℕ → Bool) → list_any p xs ≡ true → (c : ℕ) × Contains xs c × (p c ≡ true) in
      let there : P (name_of entry) = λ p. list_any-contained p (name_of entry) in
      let at : (p : ℕ → Bool) → list_any p (take (name_length entry / 2 - 1) units) ≡ true
      → list_any p (name_of entry) ≡ true =
      λ p h. ap (list_any p) (sym chars) ∙ h in
      subst (λ (x : Result (List ℕ) DirFault). IfErr x (MayRefuseName entry)) (sym is)
      (name_read-err (take (name_length entry / 2 - 1) units) (MayRefuseName entry)
      (λ e. absurd (omega (arith, length-chars)))
      (λ l. absurd (omega (arith, length-chars)))
      (λ a. let c : (c : ℕ) × Contains (name_of entry) c × (nat_le 128 c ≡ true) =
      there (nat_le 128) (at (nat_le 128) a) in
      (short, (c.0, c.1, leb-true 128 c.0 c.2)))
      (λ f. (short, there is_forbidden (at is_forbidden f))))

-- a unit of a name is among them
pub unit_contained : (entry : List ℕ) (k : ℕ) → k < name_length entry / 2 - 1
    → Contains (name_of entry) (u16_at entry (2 * k))
unit_contained entry k h =
    let f : ℕ → ℕ = λ j. u16_at entry (2 * j) in (
      k,
      omega (arith, length-map-range_with_len f 0 (name_length entry / 2 - 1)),
      get_or-map-range_with_len f 0 (name_length entry / 2 - 1) k k (f k) h (omega arith),
    )

-- what a name is refused for, its entry is refused for
pub name_refused : (directory : List ℕ) (id : ℕ) (fault : DirFault) → id ≢ 0
    → MayRefuseName (entry_at directory id) fault → MayRefuseEntry directory id fault
name_refused directory id NameEmpty ne h = (ne, h)
name_refused directory id NameTooLong ne h = (ne, h)
name_refused directory id NameNotAscii ne h = (ne, h)
name_refused directory id NameForbidden ne h = (ne, h)
name_refused directory id DuplicateName ne h = absurd h
name_refused directory id BadEntry ne h = inr (inr (ne, h))
name_refused directory id TreeCycle ne h = absurd h
name_refused directory id TooNested ne h = absurd h
name_refused directory id NoMemory ne h = absurd h

-- the root's name is one
pub is_name-root : IsName root_name
is_name-root = record { some = omega arith; short = omega arith; ascii = refl; allowed = refl }

-- the name of an entry that isn't the root stands in it
pub named_of : (id : ℕ) (entry name : List ℕ) → id ≢ 0 → IsNameOf id entry name → IsNamed entry name
named_of zero entry name ne h = absurd (ne refl)
named_of (suc id) entry name ne h = h

-- and the other way round
pub name_of-entry : (id : ℕ) (entry name : List ℕ) → id ≢ 0 → IsNamed entry name → IsNameOf id entry name
name_of-entry zero entry name ne h = absurd (ne refl)
name_of-entry (suc id) entry name ne h = h
