-- The journal of a commit, as it is written.
use Rattle.std.proofs.Common.{◌≡◌, ◌≤◌, ◌+◌, ◌-◌, ◌*◌, min, ℕ, List, [], ◌∷◌, ◌++◌, length, drop, get_or, take, refl}
use Rattle.std.proofs.Common.{sym, ◌∙◌, ap, arith, length-append, length-drop, length-take}
use Rattle.std.specs.Int.{w32, w64, to_le_bytes}
use Rattle.std.proofs.lemmas.List.{append_assoc, take-append-drop, take_at, take_min}
use Rattle.store_model.specs.Changes.{block_count, changes, changes_from, head_of, spelled}
use Rattle.store_model.specs.Image.{put}
use Rattle.store_model.proofs.Changed.{changes_more, changes_whole}
use Rattle.store_model.proofs.Points.{length_put}
use Rattle.store_model.proofs.Spelled.{length_spelled, spelled_more}
use Rattle.store_core.proofs.Lists.{put_next}

-- the blocks of one window more
up_to : (first last : ℕ) (old new : List ℕ) → first ≤ last → changes_from 0 last old new
    ≡ changes_from 0 first old new ++ changes_from first (last - first) old new
up_to first last old new le =
    let sum : last ≡ first + (last - first) = omega (arith, le) in
    let here : 0 + first ≡ first = omega arith in
    ap (λ (k : ℕ). changes_from 0 k old new) sum ∙ changes_more 0 first (last - first) old new
    ∙ ap (λ (n : ℕ). changes_from 0 first old new ++ changes_from n (last - first) old new) here

pub counted_more : (first last count more : ℕ) (old new : List ℕ) → first ≤ last
    → count ≡ length (changes_from 0 first old new) → more ≡ length (changes_from first (last - first) old new)
    → count + more ≡ length (changes_from 0 last old new)
counted_more first last count more old new le is_count is_more =
    let all = ap length (up_to first last old new le) in
    omega (
      arith,
      all,
      is_count,
      is_more,
      length-append (changes_from 0 first old new)
          (changes_from first (last - first) old new),
    )

module _ (first last count more : ℕ) (old new journal : List ℕ) (le : first ≤ last)
    (reached : 13 + 516 * count ≤ length journal)
    (is_more : more ≡ length (changes_from first (last - first) old new)) where
  pub staged_more : (head : List ℕ) → take (13 + 516 * count) journal ≡ head ++ spelled (changes_from 0 first old new)
      → take (13 + 516 * (count + more))
      (put journal (13 + 516 * count) (spelled (changes_from first (last - first) old new)))
      ≡ head ++ spelled (changes_from 0 last old new)
  staged_more head so_far =
      let bs = changes_from first (last - first) old new in
      let long : length (spelled bs) ≡ 516 * length bs =
      length_spelled bs (changes_whole first (last - first) old new) in
      let sum : 13 + 516 * (count + more) ≡ 13 + 516 * count + length (spelled bs) = omega (arith, long, is_more) in
      ap (λ (n : ℕ). take n (put journal (13 + 516 * count) (spelled bs))) sum
      ∙ put_next journal (spelled bs) (13 + 516 * count) reached
      ∙ ap (λ (l : List ℕ). l ++ spelled bs) so_far
      ∙ append_assoc head (spelled (changes_from 0 first old new)) (spelled bs)
      ∙ ap (λ (l : List ℕ). head ++ l)
      (sym (ap spelled (up_to first last old new le) ∙ spelled_more (changes_from 0 first old new) bs))

  pub staged_long : 13 + 516 * (count + more)
      ≤ length (put journal (13 + 516 * count) (spelled (changes_from first (last - first) old new)))
  staged_long =
      let bs = changes_from first (last - first) old new in
      let long : length (spelled bs) ≡ 516 * length bs =
      length_spelled bs (changes_whole first (last - first) old new) in
      omega (arith, long, is_more, length_put journal (spelled bs) (13 + 516 * count) reached)

-- the head of a journal is written, a piece after another, behind its gate
pub begun : (journal : List ℕ) (size : ℕ) → 1 ≤ length journal → (8 ≤ length (put journal 1 (to_le_bytes w64 size)))
    × (9 ≤ length (put (put journal 1 (to_le_bytes w64 size)) 8 (1 ∷ [])))
    × (take 13 (put (put (put journal 1 (to_le_bytes w64 size)) 8 (1 ∷ [])) 9 (0 ∷ 0 ∷ 0 ∷ 0 ∷ []))
    ≡ head_of (get_or journal 0 0) size 0)
begun [] size there = absurd (omega (arith, there))
begun (x ∷ rest) size there = (omega arith, omega arith, refl)

-- the number of blocks is written
pub headed : (gate size n : ℕ) (tail journal : List ℕ) → length tail ≡ 516 * n
    → take (13 + 516 * n) journal ≡ head_of gate size 0 ++ tail
    → take (13 + 516 * n) (put journal 9 (to_le_bytes w32 n)) ≡ head_of gate size n ++ tail
headed gate size n tail journal long is =
    let rest : List ℕ = drop (13 + 516 * n) journal in
    let all : journal ≡ head_of gate size 0 ++ tail ++ rest = sym (take-append-drop (13 + 516 * n) journal)
    ∙ ap (λ (l : List ℕ). l ++ rest) is in
    let written : put journal 9 (to_le_bytes w32 n) ≡ head_of gate size n ++ tail ++ rest =
    ap (λ (l : List ℕ). put l 9 (to_le_bytes w32 n)) all in
    ap (λ (l : List ℕ). take (13 + 516 * n) l) written ∙ take_at (head_of gate size n ++ tail) rest (13 + 516 * n)
    (omega (arith, long))

pub tail_there : (n : ℕ) (head tail journal : List ℕ) → length head ≡ 13 → length tail ≡ 516 * n
    → take (13 + 516 * n) journal ≡ head ++ tail → 13 + 516 * n ≤ length journal
tail_there n head tail journal thirteen long is = let same = ap length is in
    omega (arith, same, thirteen, long, length-take (13 + 516 * n) journal, length-append head tail)

pub changes_long : (n : ℕ) (old new : List ℕ) → n ≡ length (changes old new)
    → length (spelled (changes old new)) ≡ 516 * n
changes_long n old new is = let long = length_spelled (changes old new)
    (changes_whole 0 (block_count new) old new) in omega (arith, long, is)

-- what of the document area a window has
pub in_window : (document : List ℕ) (at long wide : ℕ) → wide ≡ min (length document - at) 65536 → long ≡ wide
    → take long (drop at document) ≡ take 65536 (drop at document)
in_window document at long wide is_wide is_long = ap (λ (n : ℕ). take n (drop at document))
    (omega (arith, is_wide, is_long, length-drop at document)) ∙ take_min 65536 (drop at document)
