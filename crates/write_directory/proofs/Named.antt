-- A name that is written into zeros.
use Rattle.std.proofs.Common.{◌≡◌, ◌<◌, ◌≤◌, ◌+◌, ◌-◌, ◌*◌, ℕ, suc, List, [], ◌∷◌, ◌++◌, length, take, get_or}
use Rattle.std.proofs.Common.{replicate, refl, sym, ◌∙◌, ap, arith, append_assoc}
use Rattle.std.specs.Prelude.{slice_set}
use Rattle.std.specs.List.{flat_map}
use Rattle.std.proofs.lemmas.Grind.{flat_map-append}
use Rattle.std.proofs.lemmas.List.{length-take-le, take_more}

abbrev pub unit : ℕ → List ℕ
unit c = c ∷ 0 ∷ []

length-flat_map : (name : List ℕ) → length (flat_map unit name) ≡ 2 * length name
length-flat_map [] = refl
length-flat_map (c ∷ name) = omega (arith, length-flat_map name)

set_behind : (xs ys : List ℕ) (y : ℕ) → slice_set (xs ++ ys) (length xs) y ≡ xs ++ slice_set ys 0 y
set_behind [] ys y = refl
set_behind (x ∷ xs) ys y = ap (λ zs. x ∷ zs) (set_behind xs ys y)

-- a character more
pub one_more : (name : List ℕ) (k : ℕ) → k < length name → length name ≤ 31
    → slice_set (flat_map unit (take k name) ++ replicate (64 - 2 * k) 0) (2 * k) (get_or name k 0)
    ≡ flat_map unit (take (k + 1) name) ++ replicate (64 - 2 * (k + 1)) 0
one_more name k lt short =
    let xs : List ℕ = flat_map unit (take k name) in
    let c : ℕ = get_or name k 0 in
    let m : ℕ = 64 - 2 * (k + 1) in
    let long : 2 * k ≡ length xs =
    omega (arith, length-flat_map (take k name), length-take-le k name (omega (arith, lt))) in
    let room : 64 - 2 * k ≡ suc (suc m) = omega (arith, lt, short) in
    let more : flat_map unit (take (k + 1) name) ≡ xs ++ unit c =
    ap (flat_map unit) (take_more name k 0 lt) ∙ flat_map-append unit (take k name) (c ∷ []) in
    (λ t. slice_set (xs ++ replicate (room t) 0) (long t) c)
    ∙ set_behind xs (replicate (suc (suc m)) 0) c
    ∙ sym (append_assoc xs (unit c) (replicate m 0))
    ∙ ap (λ zs. zs ++ replicate m 0) (sym more)
