-- Names that are read into the bytes that they are kept in.
use Rattle.std.proofs.Common.{◌≡◌, ◌≢◌, ◌<◌, ◌≤◌, ◌+◌, ◌-◌, ◌*◌, ◌/◌, ◌%◌, ℕ, zero, suc, Bool, false, List, [], ◌∷◌}
use Rattle.std.proofs.Common.{◌++◌, length, take, drop, get_or, replicate, nat_le, Result, Ok, Err, IfErr, refl, sym}
use Rattle.std.proofs.Common.{◌∙◌, ap, subst, arith, ◌||◌}
use Rattle.std.proofs.lemmas.Bool.Decides.{nat_tests}
use Rattle.std.proofs.lemmas.Grind.{get_or_after_one, same_number_lists}
use Rattle.std.proofs.lemmas.List.{get_or-drop, get_or-replicate, get_or-take, length-drop, length-replicate}
use Rattle.std.proofs.lemmas.List.{length-take-le, take-append-drop}
use Rattle.std.specs.List.{list_any}
use Rattle.cfb_bytes.specs.Bytes.{u16_at}
use Rattle.cfb_names.specs.Names.{IsName, is_forbidden}
use Rattle.cfb_names.specs.View.{IsHeld, name_held, units_of}
use Rattle.cfb_names.specs.declared.fault.DirFault.{DirFault}
use Rattle.cfb_entries.specs.Entries.{IsNamed, MayRefuseEntry, entry_at, name_length}
use Rattle.cfb_entries.specs.Walk.{MayRefuseName}
use Rattle.cfb_entries.proofs.Reading.{chars, name_refused}

-- no element passes a test
none_of : (p : ℕ → Bool) (xs : List ℕ) → ((k : ℕ) → k < length xs → p (get_or xs k 0) ≡ false) → list_any p xs ≡ false
none_of p [] h = refl
none_of p (x ∷ xs) h = ap (λ b. b || list_any p xs) (h 0 (omega arith))
    ∙ none_of p xs (λ k lt. h (suc k) (omega (arith, lt)))

below : (n : ℕ) → n < 128 → nat_le 128 n ≡ false
below n lt = grind (arith, nat_tests)

-- zeros, and nothing behind them
pub zeros_at : (n k : ℕ) → get_or {A = ℕ} (replicate n 0) k 0 ≡ 0
zeros_at zero k = refl
zeros_at (suc n) zero = refl
zeros_at (suc n) (suc k) = zeros_at n k

-- the first unit, and those behind it
opened : (units : List ℕ) → 0 < length units → units ≡ get_or units 0 0 ∷ drop 1 units
opened [] h = absurd (omega arith)
opened (u ∷ units) h = refl

module _ (units : List ℕ) (count : ℕ) (room : length units ≡ 32) (few : count ≤ 31)
    (is : get_or units 0 0 ≡ count) where
  tail_long : length (drop 1 units) ≡ 31
  tail_long = omega (arith, length-drop 1 units)

  pub held : name_held units ≡ take count (drop 1 units)
  held = ap (λ n. take n (drop 1 units)) is

  module _ (zeros : (k : ℕ) → count ≤ k → get_or units (k + 1) 0 ≡ 0) where
    rest : drop count (drop 1 units) ≡ replicate (31 - count) 0
    rest =
        same_number_lists (drop count (drop 1 units)) (replicate (31 - count) 0)
        (omega (arith, length-drop count (drop 1 units), tail_long, length-replicate {A = ℕ} (31 - count) 0))
        (λ k lt.
        let l : k < 31 - count = omega (arith, lt, length-drop count (drop 1 units), tail_long) in
        let n : 1 + (count + k) ≡ count + k + 1 = omega arith in
        get_or-drop count (drop 1 units) k 0 ∙ get_or_after_one units (count + k) 0 ∙ ap (λ j. get_or units j 0) n
        ∙ zeros (count + k) (omega arith)
        ∙ sym (get_or-replicate (31 - count) k 0 0 l))

    spelled : units ≡ units_of (take count (drop 1 units))
    spelled =
        let long : length (take count (drop 1 units)) ≡ count = length-take-le count (drop 1 units)
        (omega (arith, tail_long)) in
        opened units (omega (arith, room))
        ∙ (λ t. is t ∷ (sym (take-append-drop count (drop 1 units)) t))
        ∙ (λ t. sym long t ∷ (take count (drop 1 units) ++ rest t))
        ∙ ap (λ n. length (take count (drop 1 units)) ∷ (take count (drop 1 units) ++ replicate (31 - n) 0)) (sym long)

    -- the characters make up a name
    pub is_held : 0 < count → ((k : ℕ) → k < count → get_or units (k + 1) 0 < 128)
        → ((k : ℕ) → k < count → is_forbidden (get_or units (k + 1) 0) ≡ false) → IsHeld units
    is_held some ascii allowed =
        let name : List ℕ = take count (drop 1 units) in
        let long : length name ≡ count = length-take-le count (drop 1 units) (omega (arith, tail_long)) in
        let at : (k : ℕ) → k < count → get_or name k 0 ≡ get_or units (k + 1) 0 =
        λ k lt. let n : 1 + k ≡ k + 1 = omega arith in get_or-take count (drop 1 units) k 0 lt
        ∙ get_or_after_one units k 0 ∙ ap (λ j. get_or units j 0) n in
        let is_name : IsName name = record {
          some = omega (arith, long, some);
          short = omega (arith, long, few);
          ascii = none_of (nat_le 128) name (λ k lt. let l : k < count = omega (arith, lt, long) in
              ap (nat_le 128) (at k l) ∙ below (get_or units (k + 1) 0) (ascii k l));
          allowed = none_of is_forbidden name (λ k lt. let l : k < count = omega (arith, lt, long) in
              ap is_forbidden (at k l) ∙ allowed k l);
        } in
        record { name = subst IsName (sym held) is_name; spelled = spelled ∙ ap units_of (sym held) }

-- the name of an entry whose units were read so
module _ (entry units : List ℕ) (room : length units ≡ 32) (some : 4 ≤ name_length entry)
    (short : name_length entry ≤ 64) where
  -- the units behind the first are the entry's
  pub tail_read : ((k : ℕ) → k < name_length entry / 2 - 1 → get_or units (k + 1) 0 ≡ u16_at entry (2 * k))
      → (k : ℕ) → k < name_length entry / 2 - 1 → get_or (drop 1 units) k 0 ≡ u16_at entry (2 * k)
  tail_read read k lt = let n : 1 + k ≡ k + 1 = omega arith in get_or_after_one units k 0
      ∙ ap (λ j. get_or units j 0) n ∙ read k lt

  pub tail_room : length (drop 1 units) ≡ 31
  tail_room = omega (arith, length-drop 1 units, room)

  pub named_so : ((k : ℕ) → k < name_length entry / 2 - 1 → get_or units (k + 1) 0 ≡ u16_at entry (2 * k))
      → get_or units 0 0 ≡ name_length entry / 2 - 1 → name_length entry % 2 ≡ 0 → IsNamed entry (name_held units)
  named_so read is even =
      let count : ℕ = name_length entry / 2 - 1 in
      let few : count ≤ 31 = omega (arith, short) in
      let held_is : name_held units ≡ take count (drop 1 units) = held units count room few is in
      let long : length (take count (drop 1 units)) ≡ count = length-take-le count (drop 1 units)
      (omega (arith, tail_room, few)) in
      let n : name_length entry ≡ 2 * length (take count (drop 1 units)) + 2 = omega (arith, long, some, even) in
      let named : IsNamed entry (take count (drop 1 units)) =
      record { even = n; units = chars entry (drop 1 units) tail_room some short (tail_read read) } in
      subst (IsNamed entry) (sym held_is) named

-- a name that is read of an entry's bytes is refused as the entry is
pub names_refused : {A : Type 0} (directory : List ℕ) (id : ℕ) (entry : List ℕ) (r : Result A DirFault) → id ≢ 0
    → entry ≡ entry_at directory id
    → IfErr r (MayRefuseName entry) → IfErr r (MayRefuseEntry directory id)
names_refused directory id entry (Ok name) some is h = tt
names_refused directory id entry (Err fault) some is h = name_refused directory id fault some
    (subst (λ (xs : List ℕ). MayRefuseName xs fault) is h)
