-- Sectors that are painted one after another.
use Rattle.std.proofs.Common.{◌≡◌, ◌≢◌, ◌<◌, ◌≤◌, ◌+◌, ◌++◌, ◌∙◌, ℕ, zero, suc, Bool, true, false, cond, List, [], ◌∷◌}
use Rattle.std.proofs.Common.{length, get_or, set, drop, nat_eq, refl, sym, ap, arith}
use Rattle.std.proofs.lemmas.List.{drop_all, drop_more, get_or-set_other, get_or-set_same}
use Rattle.std.proofs.lemmas.Bool.{eqb-false, eqb-true}
use Rattle.tell_maps.specs.Maps.{is_in}
use Rattle.tell_maps.specs.Painting.{Paints}

-- one sector that is there
put_cases : (f : ℕ → ℕ) (xs : List ℕ) (n k : ℕ) (b : Bool) → nat_eq n k ≡ b → k < length xs
    → get_or (set xs n (f n)) k 0 ≡ cond b (f k) (get_or xs k 0)
put_cases f xs n k true is lt = let e : n ≡ k = eqb-true n k is in ap (λ m. get_or (set xs m (f m)) k 0) e
    ∙ get_or-set_same xs k (f k) 0 lt
put_cases f xs n k false is lt = get_or-set_other xs n k (f n) 0 (λ e. eqb-false n k is (sym e))

pub put_by : (f : ℕ → ℕ) (xs : List ℕ) (n k : ℕ) → k < length xs → get_or (set xs n (f n)) k 0
    ≡ cond (nat_eq n k) (f k) (get_or xs k 0)
put_by f xs n k lt = put_cases f xs n k (nat_eq n k) refl lt

apart : (b : Bool) (n k v w : ℕ) → nat_eq n k ≡ b → n ≢ k → w ≡ cond b v w
apart true n k v w is ne = absurd (ne (eqb-true n k is))
apart false n k v w is ne = refl

-- one that isn't
pub put_past : (xs : List ℕ) (n k v : ℕ) → length xs ≤ n → k < length xs
    → get_or xs k 0 ≡ cond (nat_eq n k) v (get_or xs k 0)
put_past xs n k v past lt = apart (nat_eq n k) n k v (get_or xs k 0) refl (λ e. omega (arith, e, past, lt))

swap : (b c : Bool) (m v : ℕ) → cond c m (cond b m v) ≡ cond (cond b true c) m v
swap true true m v = refl
swap true false m v = refl
swap false true m v = refl
swap false false m v = refl

-- how far the painting of some sectors is: those that are left make of the sectors now what all make of those before
abbrev pub IsPainting : (ℕ → ℕ) → List ℕ → ℕ → List ℕ → List ℕ → Type 0
IsPainting mark ns i old mid = (n : ℕ) → n < length old → cond (is_in (drop i ns) n) (mark n) (get_or mid n 0)
    ≡ cond (is_in ns n) (mark n) (get_or old n 0)

pub paint_step : (mark : ℕ → ℕ) (ns : List ℕ) (i x : ℕ) (old mid new : List ℕ) → i < length ns → x ≡ get_or ns i 0
    → length mid ≡ length old
    → ((k : ℕ) → k < length mid → get_or new k 0 ≡ cond (nat_eq x k) (mark k) (get_or mid k 0))
    → IsPainting mark ns i old mid → IsPainting mark ns (i + 1) old new
paint_step mark ns i x old mid new some is same put h = λ n lt.
    let cut : drop i ns ≡ x ∷ drop (i + 1) ns = drop_more ns i 0 some ∙ ap (λ y. y ∷ drop (i + 1) ns) (sym is) in
    let here : n < length mid = omega (arith, lt, same) in
    ap (λ v. cond (is_in (drop (i + 1) ns) n) (mark n) v) (put n here)
    ∙ swap (nat_eq x n) (is_in (drop (i + 1) ns) n) (mark n) (get_or mid n 0)
    ∙ ap (λ xs. cond (is_in xs n) (mark n) (get_or mid n 0)) (sym cut)
    ∙ h n lt

pub paint_end : (mark : ℕ → ℕ) (ns : List ℕ) (i : ℕ) (old new : List ℕ) → length ns ≤ i
    → IsPainting mark ns i old new → Paints mark ns old new
paint_end mark ns i old new all h =
    λ n lt. sym (ap (λ xs. cond (is_in xs n) (mark n) (get_or new n 0)) (drop_all i ns all)) ∙ h n lt
