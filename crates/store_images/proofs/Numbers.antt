-- Numbers of blocks.
use Rattle.std.proofs.Common.{◌≡◌, ◌+◌, ◌-◌, ◌∙◌, ◌++◌, ◌∷◌, [], ℕ, Bool, true, false, List, ap, arith, drop, length}
use Rattle.std.proofs.Common.{length-drop, map, min, refl, take}
use Rattle.std.proofs.lemmas.List.{append-nil, drop_min, take_min}
use Rattle.std.specs.Prelude.{if◌then◌else◌}
use Rattle.std.specs.Str.{bytes_eq}
use Rattle.store_model.specs.Changes.{bytes_in, change_at, change_between, changes_from}
use Rattle.store_model.specs.Journal.{Block}
use Rattle.store_model.proofs.Changed.{changes_more}
use Rattle.store_images.specs.Changed.{numbers_between}

-- a part that is clipped at the end of the list
pub clipped : (xs : List ℕ) (at n from to : ℕ) → from ≡ min at (length xs) → to ≡ min (at + n) (length xs)
    → take (to - from) (drop from xs) ≡ take n (drop at xs)
clipped xs at n from to is_from is_to =
    ap (λ (m : ℕ). take (to - m) (drop m xs)) is_from
    ∙ ap (λ (l : List ℕ). take (to - min at (length xs)) l) (drop_min at xs)
    ∙ ap (λ (m : ℕ). take m (drop at xs)) (omega (arith, is_to, length-drop at xs))
    ∙ take_min n (drop at xs)

abbrev pub numbers : List Block → List ℕ
numbers bs = map (λ b. b.number) bs

numbers_append : (bs cs : List Block) → numbers (bs ++ cs) ≡ numbers bs ++ numbers cs
numbers_append [] cs = refl
numbers_append (b ∷ bs) cs = ap (λ (l : List ℕ). b.number ∷ l) (numbers_append bs cs)

of_change : (same : Bool) (n : ℕ) (b : Block) → b.number ≡ n → numbers (if same then [] else b ∷ [])
    ≡ (if same then [] else n ∷ [])
of_change true n b is = refl
of_change false n b is = ap (λ (k : ℕ). k ∷ []) is

between : (n : ℕ) (was now : List ℕ) → numbers (change_between n was now) ≡ numbers_between n was now
between n was now = of_change (bytes_eq was now) n _ refl

-- the blocks up to the next one
pub next : (n : ℕ) (old new : List ℕ) → numbers (changes_from 0 (n + 1) old new)
    ≡ numbers (changes_from 0 n old new) ++ numbers_between n (bytes_in n old) (bytes_in n new)
next n old new =
    let here : 0 + n ≡ n = omega arith in
    ap numbers (changes_more 0 n 1 old new
    ∙ ap (λ (m : ℕ). changes_from 0 n old new ++ changes_from m 1 old new) here
    ∙ ap (λ bs. changes_from 0 n old new ++ bs) (append-nil (change_at n old new)))
    ∙ numbers_append (changes_from 0 n old new) (change_at n old new)
    ∙ ap (λ (l : List ℕ). numbers (changes_from 0 n old new) ++ l) (between n (bytes_in n old) (bytes_in n new))
