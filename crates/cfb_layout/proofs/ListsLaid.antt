-- The FAT's sectors and the DIFAT's, as a file that is laid out lists them.
use Rattle.std.proofs.Common.{◌≡◌, ◌<◌, ◌≤◌, ◌+◌, ◌-◌, ◌*◌, ◌^◌, inl, inr, ℕ, zero, suc, List, [], ◌∷◌, ◌++◌, length}
use Rattle.std.proofs.Common.{take, drop, min, get_or, replicate, lit<, refl, sym, ◌∙◌, ap, arith, append_assoc}
use Rattle.std.proofs.Common.{append-nil, length-append}
use Rattle.std.proofs.Math.Seq.{take-append-add}
use Rattle.std.proofs.lemmas.Bool.{cases_lt}
use Rattle.std.proofs.lemmas.List.{take_at, drop_at, get_or-append-add, length-replicate}
use Rattle.std.proofs.lemmas.List.Concat.{flat_map-append}
use Rattle.std.proofs.lemmas.List.Elements.{All-append, All-cons, All-nil, All-replicate}
use Rattle.std.proofs.lemmas.List.FromFn.{length-range_with_len}
use Rattle.std.specs.Int.{w32, to_le_bytes}
use Rattle.std.specs.List.{All, flat_map, range_with_len}
use Rattle.cfb_header.specs.Bytes.{joined, sector, u32_at}
use Rattle.cfb_chains.specs.Chain.{FREE_SECTOR}
use Rattle.cfb_header.specs.Header.{difat_from, named_in}
use Rattle.cfb_chains.proofs.Blocks.{length_block}
use Rattle.cfb_header.proofs.Headers.{take_by_index}
use Rattle.cfb_layout.specs.Image.{difat_numbers, names, start}
use Rattle.cfb_layout.proofs.Tables.{IsWord, length-numbers_bytes, numbers_bytes, range-append, u32_at_number}
use Rattle.cfb_layout.proofs.Tables.{words_in_range}

length-names : (first end : ℕ) → length (names first end) ≡ 127
length-names first end =
    length-append (range_with_len first (min 127 (end - first))) (replicate (127 - (end - first)) FREE_SECTOR)
    ∙ omega (
      arith,
      length-range_with_len first (min 127 (end - first)),
      length-replicate (127 - (end - first))
          FREE_SECTOR,
    )

-- the numbers of one DIFAT sector
numbers_of : (first end next : ℕ) → List ℕ
numbers_of first end next = names first end ++ next ∷ []

length-numbers_of : (first end next : ℕ) → length (numbers_of first end next) ≡ 128
unfolding numbers_of
length-numbers_of first end next = length-append (names first end) (next ∷ []) ∙ omega (arith, length-names first end)

words_of : (first end next : ℕ) → first + 127 ≤ 2 ^ 32 → IsWord next → All IsWord (numbers_of first end next)
unfolding numbers_of
words_of first end next small word =
    All-append IsWord (names first end) (next ∷ [])
    (All-append IsWord (range_with_len first (min 127 (end - first))) (replicate (127 - (end - first)) FREE_SECTOR)
    (words_in_range first (min 127 (end - first)) (omega arith))
    (All-replicate IsWord (127 - (end - first)) FREE_SECTOR (lit< tt)))
    (All-cons IsWord next [] word (All-nil IsWord))

pub length-difat : (n at first end : ℕ) → length (difat_numbers n at first end) ≡ 128 * n
unfolding numbers_of
length-difat zero at first end = refl
length-difat (suc n) at first end =
    length-append (names first end ++ start (at + 1) n ∷ []) (difat_numbers n (at + 1) (first + 127) end)
    ∙ omega (arith, length-numbers_of first end (start (at + 1) n), length-difat n (at + 1) (first + 127) end)

-- what a sector with these numbers says
module _ (file : List ℕ) (n first end next : ℕ) (is : sector file n ≡ numbers_bytes (numbers_of first end next))
    (words : All IsWord (numbers_of first end next)) where
  each : (k : ℕ) → k < 128 → get_or (numbers_of first end next) k 0 ≡ u32_at (sector file n) (4 * k)
  each k l =
      sym (ap (λ b. u32_at b (4 * k)) is ∙ u32_at_number (numbers_of first end next) k words
      (omega (arith, length-numbers_of first end next)))

  named : named_in file n ≡ names first end
  unfolding numbers_of
  named =
      sym (take_by_index (λ k. u32_at (sector file n) (4 * k)) (numbers_of first end next) 128 127
      (length-numbers_of first end next) (omega arith) each)
      ∙ take_at (names first end) (next ∷ []) 127 (length-names first end)

  followed_by : u32_at (sector file n) 508 ≡ next
  unfolding numbers_of
  followed_by =
      let place : 127 ≡ length (names first end) + 0 = omega (arith, length-names first end) in
      sym (each 127 (omega arith)) ∙ ap (λ k. get_or (names first end ++ next ∷ []) k 0) place
      ∙ get_or-append-add (names first end) (next ∷ []) 0 0

-- the names in so many DIFAT sectors
abbrev pub all_names : ℕ → ℕ → ℕ → List ℕ
all_names zero first end = []
all_names (suc n) first end = names first end ++ all_names n (first + 127) end

pub record AreLaid (file : List ℕ) (n at first end : ℕ) : Type 0 where
  pub walked : difat_from file n (start at n) ≡ range_with_len at n
  pub named_so : flat_map (named_in file) (range_with_len at n) ≡ all_names n first end

start_small : (at n : ℕ) → at + n < 2 ^ 32 → start at n < 2 ^ 32
start_small at zero h = lit< tt
start_small at (suc n) h = omega arith

pub lists_laid : (file : List ℕ) (n at first end : ℕ) → joined (sector file) (range_with_len at n)
    ≡ numbers_bytes (difat_numbers n at first end)
    → at + n < 2 ^ 32 → first + 127 * n ≤ 2 ^ 32 → AreLaid file n at first end
unfolding numbers_of
lists_laid file zero at first end h small few = record { walked = refl; named_so = refl }
lists_laid file (suc n) at first end h small few =
    let next : ℕ = start (at + 1) n in
    let here : List ℕ = numbers_of first end next in
    let more : List ℕ = difat_numbers n (at + 1) (first + 127) end in
    let others : List ℕ = joined (sector file) (range_with_len (at + 1) n) in
    let whole : sector file at ++ others ≡ numbers_bytes here ++ numbers_bytes more =
    h ∙ flat_map-append (to_le_bytes w32) here more in
    let long : length (sector file at) ≡ 512 = length_block 512 file (512 + 512 * at) in
    let long_here : length (numbers_bytes here) ≡ 512 =
    omega (arith, length-numbers_bytes here, length-numbers_of first end next) in
    let first_is : sector file at ≡ numbers_bytes here =
    sym (take_at (sector file at) others 512 long) ∙ ap (take 512) whole
    ∙ take_at (numbers_bytes here) (numbers_bytes more) 512 long_here in
    let rest_is : others ≡ numbers_bytes more =
    sym (drop_at (sector file at) others 512 long) ∙ ap (drop 512) whole
    ∙ drop_at (numbers_bytes here) (numbers_bytes more) 512 long_here in
    let words : All IsWord here = words_of first end next (omega arith) (start_small (at + 1) n (omega arith)) in
    let rest : AreLaid file n (at + 1) (first + 127) end = lists_laid file n (at + 1) (first + 127) end rest_is
    (omega arith) (omega arith) in
    record {
      walked = ap (λ xs. at ∷ xs) (ap (difat_from file n) (followed_by file at first end next first_is words)
          ∙ rest.walked);
      named_so = λ i. named file at first end next first_is words i ++ rest.named_so i;
    }

-- the names of a run are its numbers
names_front : (n first end : ℕ) → first ≤ end → end - first ≤ 127 * n → take (end - first) (all_names n first end)
    ≡ range_with_len first (end - first)
names_front zero first end le few = let z : end - first ≡ 0 = omega arith in rw z refl
names_front (suc n) first end le few =
    let k : ℕ = end - first in
    let more : List ℕ = all_names n (first + 127) end in
    elim (cases_lt (end - first) 128) [
      | inl less ↦
          let m : min 127 (end - first) ≡ end - first = omega (arith, less) in
          let free : List ℕ = replicate (127 - (end - first)) FREE_SECTOR in
          ap (λ c. take (end - first) ((range_with_len first c ++ free) ++ more)) m
          ∙ ap (take (end - first)) (append_assoc (range_with_len first (end - first)) free more)
          ∙ take_at (range_with_len first (end - first)) (free ++ more) (end - first)
          (length-range_with_len first (end - first))
      | inr ge ↦
          let m : min 127 (end - first) ≡ 127 = omega (arith, ge) in
          let z : 127 - (end - first) ≡ 0 = omega (arith, ge) in
          let left : end - first ≡ 127 + (end - (first + 127)) = omega (arith, ge, le) in
          let run : List ℕ = range_with_len first 127 in
          let all : names first end ≡ run = (λ i. range_with_len first (m i) ++ replicate (z i) FREE_SECTOR)
          ∙ append-nil run in
          let long : 127 ≡ length run = sym (length-range_with_len first 127) in
          ap (λ xs. take (end - first) (xs ++ more)) all ∙ ap (λ c. take c (run ++ more)) left
          ∙ ap (λ c. take (c + (end - (first + 127))) (run ++ more)) long
          ∙ take-append-add run more (end - (first + 127))
          ∙ ap (λ xs. run ++ xs) (names_front n (first + 127) end (omega (arith, ge, le)) (omega (arith, ge, le, few)))
          ∙ range-append first 127 (end - (first + 127)) ∙ ap (range_with_len first) (sym left)
    ]

-- the FAT's sectors, as the header and the DIFAT name them
pub names_all : (f x : ℕ) → f ≤ 109 + 127 * x → take f (range_with_len 0 (min f 109) ++ all_names x 109 f)
    ≡ range_with_len 0 f
names_all f x few =
    elim (cases_lt f 110) [
      | inl less ↦
          let m : min f 109 ≡ f = omega (arith, less) in
          ap (λ c. take f (range_with_len 0 c ++ all_names x 109 f)) m
          ∙ take_at (range_with_len 0 f) (all_names x 109 f) f (length-range_with_len 0 f)
      | inr more ↦
          let m : min f 109 ≡ 109 = omega (arith, more) in
          let left : f ≡ 109 + (f - 109) = omega (arith, more) in
          let run : List ℕ = range_with_len 0 109 in
          let rest : List ℕ = all_names x 109 f in
          let long : 109 ≡ length run = sym (length-range_with_len 0 109) in
          ap (λ c. take f (range_with_len 0 c ++ rest)) m ∙ ap (λ c. take c (run ++ rest)) left
          ∙ ap (λ c. take (c + (f - 109)) (run ++ rest)) long ∙ take-append-add run rest (f - 109)
          ∙ ap (λ xs. run ++ xs) (names_front x 109 f (omega (arith, more)) (omega (arith, more, few)))
          ∙ range-append 0 109 (f - 109) ∙ ap (range_with_len 0) (sym left)
    ]
