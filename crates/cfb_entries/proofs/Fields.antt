-- What is read back from an entry that was written.
use Rattle.std.proofs.Common.{◌≡◌, ◌<◌, ◌≤◌, ◌+◌, ◌-◌, ◌*◌, ◌/◌, ◌^◌, ℕ, zero, suc, List, [], ◌∷◌, ◌++◌, length, map}
use Rattle.std.proofs.Common.{take, drop, get_or, replicate, refl, sym, ◌∙◌, ap, arith, append_assoc, length-append}
use Rattle.std.proofs.Math.Seq.{drop-append-add}
use Rattle.std.proofs.lemmas.List.{take-append-le, take_all, length-replicate, get_or-append-add}
use Rattle.std.proofs.lemmas.Grind.{common_steps, same_number_lists}
use Rattle.std.proofs.lemmas.List.FromFn.{get_or-map-range_with_len, length-map-range_with_len}
use Rattle.std.proofs.lemmas.Nat.{from_le_bytes-to_le_bytes_2, from_le_bytes-to_le_bytes_4}
use Rattle.std.specs.List.{flat_map, range_with_len, All}
use Rattle.std.specs.Int.{w16, w32, to_le_bytes, from_le_bytes}
use Rattle.cfb_bytes.specs.Bytes.{block, u32_at, u16_at}
use Rattle.cfb_entries.specs.Entries.{IsNamed, entry_at, child, class_of, first_of, kind, kind_number, left}
use Rattle.cfb_entries.specs.Entries.{name_length, name_of, right, size_of, state_of}
use Rattle.cfb_entries.specs.Written.{entry_bytes, free_entry_bytes, name_bytes}
use Rattle.cfb_entries.specs.declared.entries.EntryFields.{EntryFields}

-- what stands behind a front
after : (front rest : List ℕ) (n at : ℕ) → length front ≡ n → drop (n + at) (front ++ rest) ≡ drop at rest
after front rest n at h = ap (λ k. drop (k + at) (front ++ rest)) (sym h) ∙ drop-append-add front rest at

-- the units of a name, two bytes each
units : List ℕ → List ℕ
units name = flat_map (λ c. c ∷ 0 ∷ []) name

length-units : (name : List ℕ) → length (units name) ≡ 2 * length name
unfolding units
length-units [] = refl
length-units (c ∷ name) = omega (arith, length-units name)

pub length-name_bytes : (name : List ℕ) → length name ≤ 31 → length (name_bytes name) ≡ 64
unfolding name_bytes units
length-name_bytes name h =
    omega (
      arith,
      length-append (units name) (replicate (64 - 2 * length name) 0),
      length-units name,
      length-replicate {A = ℕ} (64 - 2 * length name) 0,
    )

unit_at : (name rest : List ℕ) (k : ℕ) → k < length name → u16_at (units name ++ rest) (2 * k) ≡ get_or name k 0
unfolding units u16_at
unit_at [] rest k h = absurd (omega arith)
unit_at (c ∷ name) rest zero h = omega arith
unit_at (c ∷ name) rest (suc k) h =
    let e : 2 * suc k ≡ suc (suc (2 * k)) = omega arith in
    rw e (unit_at name rest k (omega arith))

module _ (name : List ℕ) (e : EntryFields) (short : length name ≤ 31) (class : length e.class ≡ 16) where
  -- the parts between the name and the class, and behind the class
  unfoldable pub head : List ℕ
  head = to_le_bytes w16 (2 * length name + 2)
      ++ ((kind_number e.kind ∷ 1 ∷ [])
      ++ (to_le_bytes w32 e.left ++ (to_le_bytes w32 e.right ++ to_le_bytes w32 e.child)))

  unfoldable pub tail : List ℕ
  tail = to_le_bytes w32 e.state
      ++ (replicate 16 0 ++ (to_le_bytes w32 e.first ++ (to_le_bytes w32 e.size ++ replicate 4 0)))

  pub spread : entry_bytes name e ≡ name_bytes name ++ (head ++ (e.class ++ tail))
  unfolding entry_bytes head tail
  spread = simp append_assoc

  behind_name : (at : ℕ) → drop (64 + at) (entry_bytes name e) ≡ drop at (head ++ (e.class ++ tail))
  behind_name at = ap (drop (64 + at)) spread ∙ after (name_bytes name) (head ++ (e.class ++ tail)) 64 at
      (length-name_bytes name short)

  behind_class : (at : ℕ) → drop (96 + at) (entry_bytes name e) ≡ drop at tail
  unfolding head
  behind_class at =
      let n : 96 + at ≡ 64 + (16 + (16 + at)) = omega arith in
      ap (λ k. drop k (entry_bytes name e)) n ∙ behind_name (16 + (16 + at))
      ∙ after head (e.class ++ tail) 16 (16 + at) refl
      ∙ after e.class tail 16 at class

  pub length-entry_bytes : length (entry_bytes name e) ≡ 128
  unfolding head tail
  length-entry_bytes =
      ap length spread ∙ omega (
        arith,
        length-append (name_bytes name) (head ++ (e.class ++ tail)),
        length-name_bytes name short,
        length-append e.class tail,
      )

  pub name_length-entry_bytes : name_length (entry_bytes name e) ≡ 2 * length name + 2
  unfolding u16_at head
  name_length-entry_bytes =
      ap (λ d. from_le_bytes w16 (take 2 d)) (behind_name 0) ∙ from_le_bytes-to_le_bytes_2 (2 * length name + 2)
      (omega arith)

  pub kind-entry_bytes : kind (entry_bytes name e) ≡ kind_number e.kind
  unfolding head
  kind-entry_bytes =
      ap (λ xs. get_or xs 66 0) spread
      ∙ ap (λ k. get_or (name_bytes name ++ (head ++ (e.class ++ tail))) (k + 2) 0) (sym (length-name_bytes name short))
      ∙ get_or-append-add (name_bytes name) (head ++ (e.class ++ tail)) 2 0

  pub left-entry_bytes : e.left < 2 ^ 32 → left (entry_bytes name e) ≡ e.left
  unfolding u32_at head
  left-entry_bytes fits = ap (λ d. from_le_bytes w32 (take 4 d)) (behind_name 4)
      ∙ from_le_bytes-to_le_bytes_4 e.left fits

  pub right-entry_bytes : e.right < 2 ^ 32 → right (entry_bytes name e) ≡ e.right
  unfolding u32_at head
  right-entry_bytes fits = ap (λ d. from_le_bytes w32 (take 4 d)) (behind_name 8)
      ∙ from_le_bytes-to_le_bytes_4 e.right fits

  pub child-entry_bytes : e.child < 2 ^ 32 → child (entry_bytes name e) ≡ e.child
  unfolding u32_at head
  child-entry_bytes fits = ap (λ d. from_le_bytes w32 (take 4 d)) (behind_name 12)
      ∙ from_le_bytes-to_le_bytes_4 e.child fits

  pub class_of-entry_bytes : class_of (entry_bytes name e) ≡ e.class
  unfolding head
  class_of-entry_bytes = ap (take 16) (behind_name 16) ∙ take-append-le 16 e.class tail (omega arith)
      ∙ take_all 16 e.class (omega arith)

  pub state_of-entry_bytes : e.state < 2 ^ 32 → state_of (entry_bytes name e) ≡ e.state
  unfolding u32_at tail
  state_of-entry_bytes fits = ap (λ d. from_le_bytes w32 (take 4 d)) (behind_class 0)
      ∙ from_le_bytes-to_le_bytes_4 e.state fits

  pub first_of-entry_bytes : e.first < 2 ^ 32 → first_of (entry_bytes name e) ≡ e.first
  unfolding u32_at tail
  first_of-entry_bytes fits = ap (λ d. from_le_bytes w32 (take 4 d)) (behind_class 20)
      ∙ from_le_bytes-to_le_bytes_4 e.first fits

  pub size_of-entry_bytes : e.size < 2 ^ 32 → size_of (entry_bytes name e) ≡ e.size
  unfolding u32_at tail
  size_of-entry_bytes fits = ap (λ d. from_le_bytes w32 (take 4 d)) (behind_class 24)
      ∙ from_le_bytes-to_le_bytes_4 e.size fits

  unit : (k : ℕ) → k < length name → u16_at (entry_bytes name e) (2 * k) ≡ get_or name k 0
  unfolding name_bytes units
  unit k h =
      let zeros : List ℕ = replicate (64 - 2 * length name) 0 in
      ap (λ xs. u16_at xs (2 * k)) (spread ∙ append_assoc (units name) zeros (head ++ (e.class ++ tail)))
      ∙ unit_at name (zeros ++ (head ++ (e.class ++ tail))) k h

  pub name_of-entry_bytes : name_of (entry_bytes name e) ≡ name
  name_of-entry_bytes =
      let f : ℕ → ℕ = λ k. u16_at (entry_bytes name e) (2 * k) in
      let n : name_length (entry_bytes name e) / 2 - 1 ≡ length name = omega (arith, name_length-entry_bytes) in
      ap (λ k. map f (range_with_len 0 k)) n
      ∙ same_number_lists (map f (range_with_len 0 (length name))) name (length-map-range_with_len f 0 (length name))
      (λ k h. let lt : k < length name = omega (arith, length-map-range_with_len f 0 (length name)) in
      get_or-map-range_with_len f 0 (length name) k k 0 lt (omega arith) ∙ unit k lt)

  pub is_named-entry_bytes : IsNamed (entry_bytes name e) name
  is_named-entry_bytes = record { even = name_length-entry_bytes; units = sym name_of-entry_bytes }

-- what is read back from an entry that isn't used
pub length-free_entry_bytes : length free_entry_bytes ≡ 128
unfolding free_entry_bytes
length-free_entry_bytes = refl

pub kind-free_entry_bytes : kind free_entry_bytes ≡ 0
unfolding free_entry_bytes
kind-free_entry_bytes = refl

-- the entry at a place of a directory that entries make up, one after another
block_behind : (xs ys : List ℕ) (n : ℕ) → length xs ≡ 128 → block 128 (xs ++ ys) (128 + n) ≡ block 128 ys n
unfolding block
block_behind xs ys n h = rw (after xs ys 128 n h) refl

block_front : (width : ℕ) (xs ys : List ℕ) → length xs ≡ width → block width (xs ++ ys) 0 ≡ xs
unfolding block
block_front width xs ys h = grind (arith, common_steps)

pub entry_at-flat_map : {X : Type 0} (f : X → List ℕ) (xs : List X) (rest : List ℕ) (id : ℕ) (d : X)
    → All (λ x. length (f x) ≡ 128) xs
    → id < length xs → entry_at (flat_map f xs ++ rest) id ≡ f (get_or xs id d)
entry_at-flat_map f [] rest id d wide h = absurd (omega arith)
entry_at-flat_map f (x ∷ xs) rest zero d wide h =
    let e : (f x ++ flat_map f xs) ++ rest ≡ f x ++ (flat_map f xs ++ rest) = append_assoc (f x) (flat_map f xs) rest in
    rw e (block_front 128 (f x) (flat_map f xs ++ rest) (wide 0 x (omega arith)))
entry_at-flat_map f (x ∷ xs) rest (suc id) d wide h =
    let e : (f x ++ flat_map f xs) ++ rest ≡ f x ++ (flat_map f xs ++ rest) = append_assoc (f x) (flat_map f xs) rest in
    let n : 128 * suc id ≡ 128 + 128 * id = omega arith in
    rw (e, n) (block_behind (f x) (flat_map f xs ++ rest) (128 * id) (wide 0 x (omega arith))
    ∙ entry_at-flat_map f xs rest id d (λ k y l. wide (suc k) y (omega arith)) (omega arith))
