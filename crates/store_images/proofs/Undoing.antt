-- A file that is changed block by block, and put back.
use Rattle.std.proofs.Common.{◌≡◌, ◌≤◌, ◌+◌, ◌-◌, ◌*◌, ◌∙◌, ◌++◌, ◌∷◌, [], ℕ, zero, suc, Bool, false, if◌then◌else◌}
use Rattle.std.proofs.Common.{List, ap, arith, drop, length, length-append, length-drop, length-take, min, refl, subst}
use Rattle.std.proofs.Common.{sym, take}
use Rattle.std.specs.Str.{bytes_eq}
use Rattle.std.proofs.lemmas.List.{append_assoc, drop-drop, drop-take, drop_at, drop_min, take-append-drop, take-take}
use Rattle.std.proofs.lemmas.List.{take_all, take_at, take_min}
use Rattle.store_model.specs.Changes.{bytes_in, change_between, changes_from}
use Rattle.store_images.specs.Changed.{changed_before, changed_blocks, numbers_between}
use Rattle.store_images.specs.Undone.{ChangesBlock, undone, with_block}
use Rattle.store_images.specs.declared.in_place.Was.{Was}
use Rattle.store_images.proofs.Numbers.{next, numbers}
use Rattle.store_images.proofs.Overlaid.{all_blocks}

-- ---- one block
-- what a write of a part gives
pub is_with_block : (n : ℕ) (file bytes part new : List ℕ) (from to : ℕ) → from ≡ min (512 * n) (length file)
    → to ≡ min (512 * n + 512) (length file) → length bytes ≡ 512
    → part ≡ take (to - from) bytes → new ≡ take from file ++ (part ++ drop (to - from) (drop from file))
    → new ≡ with_block n bytes file
unfolding with_block
is_with_block n file bytes part new from to is_from is_to whole is_part is_new =
    let few : to - from ≡ min (length file - 512 * n) (length bytes) = omega (arith, is_from, is_to, whole) in
    let end : from + (to - from) ≡ min (512 * n + 512) (length file) = omega (arith, is_from, is_to) in
    let front : take from file ≡ take (512 * n) file = ap (λ (m : ℕ). take m file) is_from ∙ take_min (512 * n) file in
    let mid : part ≡ take (length file - 512 * n) bytes = is_part ∙ ap (λ (m : ℕ). take m bytes) few
    ∙ take_min (length file - 512 * n) bytes in
    let back : drop (to - from) (drop from file) ≡ drop (512 * n + 512) file = drop-drop (to - from) from file
    ∙ ap (λ (m : ℕ). drop m file) end ∙ drop_min (512 * n + 512) file in
    is_new
    ∙ (λ i. front i ++ (mid i ++ back i))
    ∙ sym (append_assoc (take (512 * n) file) (take (length file - 512 * n) bytes) (drop (512 * n + 512) file))

module _ (n : ℕ) (old bytes : List ℕ) (there : 512 * n + 512 ≤ length old) (whole : length bytes ≡ 512) where
  length_front : length (take (512 * n) old) ≡ 512 * n
  length_front = omega (arith, there, length-take (512 * n) old)

  parts : with_block n bytes old ≡ take (512 * n) old ++ bytes ++ drop (512 * n + 512) old
  unfolding with_block
  parts = ap (λ (l : List ℕ). take (512 * n) old ++ l ++ drop (512 * n + 512) old)
      (take_all (length old - 512 * n) bytes (omega (arith, there, whole)))

  parts_right : with_block n bytes old ≡ take (512 * n) old ++ (bytes ++ drop (512 * n + 512) old)
  parts_right = parts ∙ append_assoc (take (512 * n) old) bytes (drop (512 * n + 512) old)

  before : take (512 * n) (with_block n bytes old) ≡ take (512 * n) old
  before = ap (take (512 * n)) parts_right ∙ take_at (take (512 * n) old) (bytes ++ drop (512 * n + 512) old)
      (512 * n) length_front

  behind : drop (512 * n + 512) (with_block n bytes old) ≡ drop (512 * n + 512) old
  behind =
      ap (drop (512 * n + 512)) parts
      ∙ drop_at (take (512 * n) old ++ bytes) (drop (512 * n + 512) old) (512 * n + 512)
      (omega (arith, whole, length_front, length-append (take (512 * n) old) bytes))

  long : length (with_block n bytes old) ≡ length old
  long =
      ap (λ (l : List ℕ). length l) parts
      ∙ omega (
        arith,
        there,
        whole,
        length_front,
        length-append (take (512 * n) old ++ bytes)
            (drop (512 * n + 512) old),
        length-append (take (512 * n) old) bytes,
        length-drop (512 * n + 512) old,
      )

  inside : bytes_in n (with_block n bytes old) ≡ bytes
  inside =
      ap (λ (l : List ℕ). take 512 (drop (512 * n) l)) parts_right
      ∙ ap (take 512) (drop_at (take (512 * n) old) (bytes ++ drop (512 * n + 512) old) (512 * n) length_front)
      ∙ take_at bytes (drop (512 * n + 512) old) 512 whole

pub full : (n : ℕ) (old : List ℕ) → 512 * n + 512 ≤ length old → length (bytes_in n old) ≡ 512
full n old there = omega (arith, there, length-take 512 (drop (512 * n) old), length-drop (512 * n) old)

-- a file is its front, a block, and what is behind it
joined : (n : ℕ) (old : List ℕ) → take (512 * n) old ++ (bytes_in n old ++ drop (512 * n + 512) old) ≡ old
joined n old =
    ap (λ (l : List ℕ). take (512 * n) old ++ (bytes_in n old ++ l)) (sym (drop-drop 512 (512 * n) old))
    ∙ ap (λ (l : List ℕ). take (512 * n) old ++ l) (take-append-drop 512 (drop (512 * n) old))
    ∙ take-append-drop (512 * n) old

-- a block that is put back
back_again : (n : ℕ) (old bytes : List ℕ) → 512 * n + 512 ≤ length old → length bytes ≡ 512
    → with_block n (bytes_in n old) (with_block n bytes old) ≡ old
back_again n old bytes there whole =
    let same = long n old bytes there whole in
    parts_right n (with_block n bytes old) (bytes_in n old) (omega (arith, there, same)) (full n old there)
    ∙ (λ i. before n old bytes there whole i ++ (bytes_in n old ++ behind n old bytes there whole i))
    ∙ joined n old

-- ---- what is kept of the blocks that are written over
pub undone_last : (ws : List Was) (w : Was) (file : List ℕ) → undone (ws ++ w ∷ []) file
    ≡ undone ws (with_block w.number w.bytes file)
undone_last [] w file = refl
undone_last (x ∷ ws) w file = ap (with_block x.number x.bytes) (undone_last ws w file)

pub written_over : (n : ℕ) (was_old was_new : List Was) (old now bytes new : List ℕ) → 512 * n + 512 ≤ length old
    → length bytes ≡ 512 → now ≡ bytes_in n old
    → was_new ≡ was_old ++ record { number = n; bytes = now } ∷ [] → new ≡ with_block n bytes old
    → ChangesBlock n was_old was_new old new
written_over n was_old was_new old now bytes new there whole is_now is_was is_new = record {
  back =
      (λ i. undone (is_was i) (is_new i))
      ∙ undone_last was_old (record { number = n; bytes = now }) (with_block n bytes old)
      ∙ ap (λ (l : List ℕ). undone was_old (with_block n l (with_block n bytes old))) is_now
      ∙ ap (undone was_old) (back_again n old bytes there whole);
  before = ap (take (512 * n)) is_new ∙ before n old bytes there whole;
  behind = ap (drop (512 * n + 512)) is_new ∙ behind n old bytes there whole;
  long = ap (λ (l : List ℕ). length l) is_new ∙ long n old bytes there whole;
}

-- ---- the numbers
pub one_added : (n : ℕ) (old now bytes new so_far after : List ℕ) → 512 * n + 512 ≤ length old → length bytes ≡ 512
    → now ≡ bytes_in n old → bytes_eq now bytes ≡ false
    → new ≡ with_block n bytes old → after ≡ so_far ++ n ∷ []
    → after ≡ so_far ++ numbers_between n (bytes_in n old) (bytes_in n new)
one_added n old now bytes new so_far after there whole is_now differs is_new added =
    let is_bytes : bytes_in n new ≡ bytes = ap (bytes_in n) is_new ∙ inside n old bytes there whole in
    let test : bytes_eq (bytes_in n old) (bytes_in n new) ≡ false = (λ i. bytes_eq (sym is_now i) (is_bytes i))
    ∙ differs in
    added ∙ ap (λ (t : Bool). so_far ++ (if t then [] else n ∷ [])) (sym test)

-- the blocks of files with the same front
block_in_front : (m k : ℕ) (a b : List ℕ) → 512 * m + 512 ≤ k → take k a ≡ take k b → bytes_in m a ≡ bytes_in m b
block_in_front m k a b le same =
    sym (drop-take (512 * m) 512 a)
    ∙ ap (drop (512 * m)) (sym (take-take (512 * m + 512) k a le) ∙ ap (take (512 * m + 512)) same
    ∙ take-take (512 * m + 512) k b le)
    ∙ drop-take (512 * m) 512 b

changes_in_front : (m k : ℕ) (first a b : List ℕ) → take (512 * (m + k)) a ≡ take (512 * (m + k)) b
    → changes_from m k first a ≡ changes_from m k first b
changes_in_front m zero first a b same = refl
changes_in_front m (suc k) first a b same =
    let sum : 512 * (m + suc k) ≡ 512 * (m + 1 + k) = omega arith in
    let here : bytes_in m a ≡ bytes_in m b = block_in_front m (512 * (m + suc k)) a b (omega arith) same in
    let rest : changes_from (m + 1) k first a ≡ changes_from (m + 1) k first b =
    changes_in_front (m + 1) k first a b (subst (λ (j : ℕ). take j a ≡ take j b) sum same) in
    (λ i. change_between m (bytes_in m first) (here i) ++ rest i)

changed_in_front : (n : ℕ) (first a b : List ℕ) → take (512 * n) a ≡ take (512 * n) b
    → changed_before n first a ≡ changed_before n first b
changed_in_front n first a b same =
    let all : 512 * n ≡ 512 * (0 + n) = omega arith in
    ap numbers (changes_in_front 0 n first a b (subst (λ (j : ℕ). take j a ≡ take j b) all same))

-- ---- all blocks in turn
-- a file of which so many blocks are done
pub record IsLaid (n : ℕ) (first : List ℕ) (was : List Was) (so_far file : List ℕ) : Type 0 where
  pub back : undone was file ≡ first
  pub rest : drop (512 * n) file ≡ drop (512 * n) first
  pub changed : so_far ≡ changed_before n first file
  long : length file ≡ length first

pub none_laid : (first : List ℕ) (was : List Was) (so_far : List ℕ) → was ≡ [] → so_far ≡ []
    → IsLaid 0 first was so_far first
none_laid first was so_far none_kept none_changed =
    record { back = ap (λ ws. undone ws first) none_kept; rest = refl; changed = none_changed; long = refl }

pub one_laid : (n : ℕ) (first : List ℕ) (was was_new : List Was) (so_far after old new : List ℕ)
    → IsLaid n first was so_far old → ChangesBlock n was was_new old new
    → after ≡ so_far ++ numbers_between n (bytes_in n old) (bytes_in n new) → IsLaid (n + 1) first was_new after new
one_laid n first was was_new so_far after old new laid step added =
    let at : 512 * (n + 1) ≡ 512 * n + 512 = omega arith in
    let front : changed_before n first old ≡ changed_before n first new =
    changed_in_front n first old new (sym step.before) in
    let here : bytes_in n old ≡ bytes_in n first = ap (take 512) laid.rest in
    record {
      back = step.back ∙ laid.back;
      rest =
          ap (λ (m : ℕ). drop m new) at
          ∙ step.behind
          ∙ sym (drop-drop 512 (512 * n) old)
          ∙ ap (drop 512) laid.rest
          ∙ drop-drop 512 (512 * n) first
          ∙ ap (λ (m : ℕ). drop m first) (sym at);
      changed =
          added
          ∙ (λ i. (laid.changed ∙ front) i ++ numbers_between n (here i) (bytes_in n new))
          ∙ sym (next n first new);
      long = step.long ∙ laid.long;
    }

pub all_laid : (n : ℕ) (first : List ℕ) (was : List Was) (so_far file : List ℕ) → 512 * n ≡ length first
    → IsLaid n first was so_far file → so_far ≡ changed_blocks first file
all_laid n first was so_far file as_many laid =
    laid.changed ∙ ap (λ (m : ℕ). changed_before m first file) (sym (all_blocks n file (laid.long ∙ sym as_many)))
