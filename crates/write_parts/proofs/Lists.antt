-- How the header and the DIFAT are written.
use Rattle.std.proofs.Common.{◌≡◌, ◌<◌, ◌≤◌, ◌+◌, ◌-◌, ◌*◌, inl, inr, ℕ, zero, suc, List, [], ◌∷◌, ◌++◌, get_or, min}
use Rattle.std.proofs.Common.{replicate, take, refl, sym, ◌∙◌, ap, arith, append-nil, append_assoc}
use Rattle.std.proofs.lemmas.Bool.{cases_lt}
use Rattle.std.proofs.lemmas.List.{take_all, take_at}
use Rattle.std.proofs.lemmas.List.FromFn.{length-range_with_len}
use Rattle.std.specs.List.{range_with_len}
use Rattle.cfb_chains.specs.Chain.{END_OF_CHAIN, FREE_SECTOR}
use Rattle.cfb_layout.specs.Image.{difat_numbers, names, start}
use Rattle.cfb_layout.proofs.Tables.{range-append}

-- the first sectors of a run, and its first one
pub first_listed : (f : ℕ) → take 109 (range_with_len 0 f) ≡ range_with_len 0 (min f 109)
first_listed f =
    elim (cases_lt f 110) [
      | inl less ↦
          let m : f ≡ min f 109 = omega (arith, less) in
          take_all 109 (range_with_len 0 f) (omega (arith, less, length-range_with_len 0 f)) ∙ ap (range_with_len 0) m
      | inr more ↦
          let left : f ≡ 109 + (f - 109) = omega (arith, more) in
          let m : 109 ≡ min f 109 = omega (arith, more) in
          ap (λ n. take 109 (range_with_len 0 n)) left ∙ ap (take 109) (sym (range-append 0 109 (f - 109)))
          ∙ take_at (range_with_len 0 109) (range_with_len 109 (f - 109)) 109 (length-range_with_len 0 109)
          ∙ ap (range_with_len 0) m
    ]

pub first_is : (at n : ℕ) → get_or (range_with_len at n) 0 END_OF_CHAIN ≡ start at n
first_is at zero = refl
first_is at (suc n) = refl

-- the numbers of one DIFAT sector
pub names_pushed : (old new : List ℕ) (first end count next : ℕ) → count ≡ min 127 (end - first)
    → new ≡ ((old ++ range_with_len first count) ++ replicate (127 - count) FREE_SECTOR) ++ next ∷ []
    → new ≡ old ++ (names first end ++ next ∷ [])
names_pushed old new first end count next e is =
    let left : 127 - count ≡ 127 - (end - first) = omega (arith, e) in
    let named : List ℕ = range_with_len first (min 127 (end - first)) in
    let free : List ℕ = replicate (127 - (end - first)) FREE_SECTOR in
    is ∙ (λ i. ((old ++ range_with_len first (e i)) ++ replicate (left i) FREE_SECTOR) ++ next ∷ [])
    ∙ ap (λ xs. xs ++ next ∷ []) (append_assoc old named free) ∙ append_assoc old (named ++ free) (next ∷ [])

-- one more DIFAT sector
pub difat_pushed : (out new whole : List ℕ) (x k f next : ℕ) → k < x → next ≡ start (f + k + 1) (x - k - 1)
    → new ≡ out ++ (names (109 + 127 * k) f ++ next ∷ [])
    → out ++ difat_numbers (x - k) (f + k) (109 + 127 * k) f ≡ whole
    → new ++ difat_numbers (x - (k + 1)) (f + (k + 1)) (109 + 127 * (k + 1)) f ≡ whole
difat_pushed out new whole x k f next lt is pushed h =
    let e : x - k ≡ suc (x - (k + 1)) = omega arith in
    let l : x - k - 1 ≡ x - (k + 1) = omega arith in
    let a : f + (k + 1) ≡ f + k + 1 = omega arith in
    let b : 109 + 127 * (k + 1) ≡ 109 + 127 * k + 127 = omega arith in
    let s : next ≡ start (f + k + 1) (x - (k + 1)) = is ∙ ap (start (f + k + 1)) l in
    let here : List ℕ = names (109 + 127 * k) f ++ start (f + k + 1) (x - (k + 1)) ∷ [] in
    let more : List ℕ = difat_numbers (x - (k + 1)) (f + k + 1) (109 + 127 * k + 127) f in
    ap (λ o. o ++ difat_numbers (x - (k + 1)) (f + (k + 1)) (109 + 127 * (k + 1)) f) pushed
    ∙ (λ i. (out ++ (names (109 + 127 * k) f ++ s i ∷ [])) ++ difat_numbers (x - (k + 1)) (a i) (b i) f)
    ∙ append_assoc out here more
    ∙ ap (λ m. out ++ difat_numbers m (f + k) (109 + 127 * k) f) (sym e) ∙ h

pub difat_whole : (out whole : List ℕ) (x k f : ℕ) → x ≤ k → out ++ difat_numbers (x - k) (f + k) (109 + 127 * k) f
    ≡ whole → out ≡ whole
difat_whole out whole x k f le h =
    let z : x - k ≡ 0 = omega arith in
    sym (append-nil out) ∙ ap (λ m. out ++ difat_numbers m (f + k) (109 + 127 * k) f) (sym z) ∙ h

pub difat_none : (x f : ℕ) → difat_numbers (x - 0) (f + 0) (109 + 127 * 0) f ≡ difat_numbers x f 109 f
difat_none x f =
    let a : x - 0 ≡ x = omega arith in
    let b : f + 0 ≡ f = omega arith in
    λ i. difat_numbers (a i) (b i) 109 f
