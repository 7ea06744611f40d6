-- What stands in the bytes of an entry whose name was read.
use Rattle.std.proofs.Common.{◌≡◌, ◌<◌, ◌≤◌, ◌+◌, ◌-◌, ◌*◌, ◌/◌, ℕ, zero, suc, List, [], ◌∷◌, ◌++◌, length, take, drop}
use Rattle.std.proofs.Common.{get_or, replicate, sym, ◌∙◌, ap, subst, arith, drop-drop, length-append}
use Rattle.std.proofs.lemmas.List.{get_or-drop, get_or-take, length-replicate, length-take-le, take-append-drop}
use Rattle.std.proofs.lemmas.List.{take-append-le, take-replicate, take_all}
use lib.Lanes.{pick_l}
use Rattle.std.proofs.Math.ListN.{get_or-append}
use Rattle.std.proofs.Math.Seq.{drop-append-add, take-append-add}
use Rattle.std.specs.Int.{from_le_bytes, w16, w32}
use Rattle.std.specs.List.{flat_map, range_with_len}
use Rattle.cfb_bytes.specs.Bytes.{u16_at, u32_at}
use Rattle.cfb_names.specs.Names.{IsName}
use Rattle.cfb_names.specs.View.{IsHeld, name_held, units_of}
use Rattle.cfb_entries.specs.Entries.{IsNamed, class_of, first_of, kind, name_length, size_of, state_of}
use Rattle.cfb_entries.proofs.Reading.{chars}
use Rattle.read_packed.specs.Named.{HoldsName, IsSound, NamedValue, characters_of, laid_out, named_bytes, unit}
use Rattle.read_packed.proofs.Held.{block_whole, by_elements, head_cut, length_laid, length_units, placed}

-- a name with zeros behind it
pub characters_long : (name : List ℕ) → length name ≤ 31 → length (characters_of name) ≡ 32
characters_long name short = length-append name (replicate (32 - length name) 0)
    ∙ omega (arith, short, length-replicate {A = ℕ} (32 - length name) 0)

pub whole : (n : NamedValue) → IsSound n → named_bytes n ≡ laid_out (characters_of n.name) n.head n.place
unfolding named_bytes
whole n s =
    block_whole 128 (laid_out (characters_of n.name) n.head n.place)
    (length_laid (characters_of n.name) n.head n.place (characters_long n.name s.valid.short) s.head s.place)

-- two bytes of a character
unit_read : (characters rest : List ℕ) (k : ℕ) → k < length characters
    → u16_at (flat_map unit characters ++ rest) (2 * k) ≡ get_or characters k 0
unfolding u16_at
unit_read [] rest k lt = absurd (omega (arith, lt))
unit_read (c ∷ characters) rest zero lt =
    let n : 2 * 0 ≡ 0 = omega arith in
    let pair : from_le_bytes w16 (c ∷ 0 ∷ []) ≡ c = omega arith in
    ap (λ m. from_le_bytes w16 (take 2 (drop m (c ∷ 0 ∷ (flat_map unit characters ++ rest))))) n ∙ pair
unit_read (c ∷ characters) rest (suc k) lt =
    let n : 2 * suc k ≡ suc (suc (2 * k)) = omega arith in
    ap (λ m. from_le_bytes w16 (take 2 (drop m (c ∷ 0 ∷ (flat_map unit characters ++ rest))))) n
    ∙ unit_read characters rest k (omega (arith, lt))

module _ (n : NamedValue) (s : IsSound n) where
  abbrev units : List ℕ
  units = flat_map unit (characters_of n.name)

  abbrev tail : List ℕ
  tail = replicate 36 0 ++ (n.place ++ replicate 5 0)

  units_long : length units ≡ 64
  units_long = length_units (characters_of n.name) ∙ omega (arith, characters_long n.name s.valid.short)

  -- its name, and what stands behind it
  parted : named_bytes n ≡ units ++ (n.head ++ tail)
  parted = whole n s ∙ sym (placed (characters_of n.name) n.head n.place)

  -- what stands behind its name, and behind its links
  behind_name : drop 64 (named_bytes n) ≡ n.head ++ tail
  behind_name =
      let m : 64 ≡ length units + 0 = omega (arith, units_long) in
      ap (drop 64) parted ∙ ap (λ k. drop k (units ++ (n.head ++ tail))) m ∙ drop-append-add units (n.head ++ tail) 0

  behind_links : drop 80 (named_bytes n) ≡ tail
  behind_links =
      let m : 16 ≡ length n.head + 0 = omega (arith, s.head) in
      sym (drop-drop 16 64 (named_bytes n)) ∙ ap (drop 16) behind_name ∙ ap (λ k. drop k (n.head ++ tail)) m
      ∙ drop-append-add n.head tail 0

  -- bytes of its head
  in_its_head : (at m : ℕ) → at + m ≤ 16 → take m (drop (64 + at) (named_bytes n)) ≡ take m (drop at n.head)
  unfolding named_bytes
  in_its_head at m few = head_cut (characters_of n.name) n.head n.place (characters_long n.name s.valid.short)
      s.head s.place at m few

  pub number_read : (at : ℕ) → at + 4 ≤ 16 → u32_at n.head at ≡ u32_at (named_bytes n) (64 + at)
  unfolding u32_at
  number_read at few = ap (from_le_bytes w32) (sym (in_its_head at 4 few))

  length_read : u16_at n.head 0 ≡ u16_at (named_bytes n) 64
  unfolding u16_at
  length_read = ap (from_le_bytes w16) (sym (in_its_head 0 2 (omega arith)))

  pub kind_read : get_or n.head 2 0 ≡ kind (named_bytes n)
  kind_read =
      sym (get_or-take 1 (drop 2 n.head) 0 0 (omega arith) ∙ get_or-drop 2 n.head 0 0)
      ∙ ap (λ xs. get_or xs 0 0) (sym (in_its_head 2 1 (omega arith)))
      ∙ get_or-take 1 (drop 66 (named_bytes n)) 0 0 (omega arith) ∙ get_or-drop 66 (named_bytes n) 0 0

  -- zeros
  pub class_read : replicate 16 0 ≡ class_of (named_bytes n)
  class_read = sym (ap (take 16) behind_links)

  pub state_read : 0 ≡ state_of (named_bytes n)
  unfolding u32_at
  state_read =
      sym (ap (λ xs. from_le_bytes w32 (take 4 xs)) (sym (drop-drop 16 80 (named_bytes n))
      ∙ ap (drop 16) behind_links))

  -- where its stream lies
  place_there : drop 116 (named_bytes n) ≡ pick_l 0 n.place (range_with_len 0 7) ++ replicate 5 0
  place_there = sym (drop-drop 36 80 (named_bytes n)) ∙ ap (drop 36) behind_links
      ∙ ap (λ xs. xs ++ replicate 5 0) (by_elements n.place 7 s.place)

  pub first_read : from_le_bytes w32 (get_or n.place 0 0 ∷ get_or n.place 1 0 ∷ get_or n.place 2 0
      ∷ get_or n.place 3 0 ∷ []) ≡ first_of (named_bytes n)
  unfolding u32_at
  first_read = sym (ap (λ xs. from_le_bytes w32 (take 4 xs)) place_there)

  pub size_read : from_le_bytes w32 (get_or n.place 4 0 ∷ get_or n.place 5 0 ∷ get_or n.place 6 0 ∷ 0 ∷ [])
      ≡ size_of (named_bytes n)
  unfolding u32_at
  size_read =
      sym (ap (λ xs. from_le_bytes w32 (take 4 xs)) (sym (drop-drop 4 116 (named_bytes n))
      ∙ ap (drop 4) place_there))

  -- its name
  units_room : length (drop 1 (0 ∷ n.name ++ replicate (31 - length n.name) 0)) ≡ 31
  units_room = length-append n.name (replicate (31 - length n.name) 0)
      ∙ omega (arith, s.valid.short, length-replicate {A = ℕ} (31 - length n.name) 0)

  long_is : name_length (named_bytes n) ≡ 2 * length n.name + 2
  long_is = sym length_read ∙ s.counted

  pub named : IsNamed (named_bytes n) n.name
  named =
      let units31 : List ℕ = n.name ++ replicate (31 - length n.name) 0 in
      let count : name_length (named_bytes n) / 2 - 1 ≡ length n.name = omega (arith, long_is) in
      let read : (k : ℕ) → k < name_length (named_bytes n) / 2 - 1 → get_or units31 k 0
      ≡ u16_at (named_bytes n) (2 * k) =
      λ k lt.
      let here : k < length n.name = omega (arith, lt, count) in
      get_or-append n.name (replicate (31 - length n.name) 0) 0 k here
      ∙ sym (get_or-append n.name (replicate (32 - length n.name) 0) 0 k here)
      ∙ sym (unit_read (characters_of n.name) (n.head ++ tail) k
      (omega (arith, here, s.valid.short, characters_long n.name s.valid.short)))
      ∙ ap (λ xs. u16_at xs (2 * k)) (sym parted) in
      let is : take (name_length (named_bytes n) / 2 - 1) units31 ≡ n.name =
      ap (λ k. take k units31) count ∙ take-append-le (length n.name) n.name (replicate (31 - length n.name) 0)
      (omega arith) ∙ take_all (length n.name) n.name (omega arith) in
      record {
        even = long_is;
        units = sym is ∙ chars (named_bytes n) units31 units_room (omega (arith, long_is, s.valid.some))
            (omega (arith, long_is, s.valid.short)) read;
      }

-- ---- names that are told

-- a name behind its length
pub behind_count : (characters : List ℕ) (count : ℕ) → length characters ≡ 32
    → pick_l 0 (characters ++ replicate 32 count) (32 ∷ range_with_len 0 31) ≡ count ∷ take 31 characters
behind_count characters count long =
    let is : characters ≡ pick_l 0 characters (range_with_len 0 32) = by_elements characters 32 long in
    (λ t. pick_l 0 (is t ++ replicate 32 count) (32 ∷ range_with_len 0 31)) ∙ (λ t. count ∷ take 31 (sym is t))

module _ (characters : List ℕ) (count : ℕ) (long : length characters ≡ 32) (some : 0 < count) (few : count ≤ 31)
    (h : HoldsName characters count) where
  abbrev front : List ℕ
  front = take count characters

  front_long : length front ≡ count
  front_long = length-take-le count characters (omega (arith, long, few))

  all : characters ≡ front ++ replicate (32 - count) 0
  all = sym (take-append-drop count characters) ∙ ap (λ xs. front ++ xs) h.zeros

  cut : take 31 characters ≡ front ++ replicate (31 - count) 0
  cut =
      let n : 31 ≡ length front + (31 - count) = omega (arith, front_long, few) in
      ap (take 31) all ∙ ap (λ k. take k (front ++ replicate (32 - count) 0)) n
      ∙ take-append-add front (replicate (32 - count) 0) (31 - count)
      ∙ ap (λ xs. front ++ xs) (take-replicate (31 - count) (32 - count) 0 (omega arith))

  pub name_is : name_held (count ∷ take 31 characters) ≡ front
  name_is =
      ap (take count) cut ∙ take-append-le count front (replicate (31 - count) 0) (omega (arith, front_long))
      ∙ take_all count front (omega (arith, front_long))

  is_name : IsName front
  is_name = record {
    some = omega (arith, front_long, some);
    short = omega (arith, front_long, few);
    ascii = h.ascii;
    allowed = h.allowed;
  }

  pub held : IsHeld (count ∷ take 31 characters)
  held = record {
    name = subst IsName (sym name_is) is_name;
    spelled = (λ t. sym front_long t ∷ cut t) ∙ (λ t. length front ∷ (front ++ replicate (31 - sym front_long t) 0))
        ∙ ap units_of (sym name_is);
  }

  pub told : (len : ℕ) (name : List ℕ) → name ≡ name_held (count ∷ take 31 characters) → len ≡ 2 * count + 2
      → (len ≡ 2 * length name + 2) × (characters ≡ characters_of name)
  told len name is even =
      let same : name ≡ front = is ∙ name_is in
      let n : length name ≡ count = ap length same ∙ front_long in
      (omega (arith, even, n), all ∙ (λ t. sym same t ++ replicate (32 - sym n t) 0))
