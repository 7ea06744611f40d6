-- The longest line, as a loop finds it.
use Rattle.std.proofs.Common.{◌≡◌, ◌<◌, ◌+◌, ◌∷◌, ◌∙◌, ℕ, List, Bool, true, false, cond, nat_eq, length, drop, get_or}
use Rattle.std.proofs.Common.{refl, ap, arith, add-one}
use Rattle.std.proofs.Math.Seq.{drop-cons}
use Rattle.std.proofs.lemmas.Bool.Decides.{nat_tests}
use Rattle.ole_model.specs.Presentations.{longest, longer}

longest-at : (xs : List ℕ) (i m b : ℕ) (t : Bool) → i < length xs → nat_eq (get_or xs i 0) 10 ≡ t
    → longest m b (drop i xs) ≡ cond t (longest (longer m b) 0 (drop (i + 1) xs)) (longest m (b + 1) (drop (i + 1) xs))
longest-at xs i m b t h q =
    let e : drop i xs ≡ get_or xs i 0 ∷ drop (i + 1) xs = rw (add-one, drop-cons xs i 0) refl in
    ap (longest m b) e ∙ ap (λ x. cond x (longest (longer m b) 0 (drop (i + 1) xs))
    (longest m (b + 1) (drop (i + 1) xs))) q

pub longest-feed : (xs : List ℕ) (i m b : ℕ) → i < length xs → get_or xs i 0 ≡ 10
    → longest m b (drop i xs) ≡ longest (longer m b) 0 (drop (i + 1) xs)
longest-feed xs i m b h e = longest-at xs i m b true h (grind (arith, nat_tests))

pub longest-more : (xs : List ℕ) (i m b : ℕ) → i < length xs → (get_or xs i 0 ≡ 10 → ⊥)
    → longest m b (drop i xs) ≡ longest m (b + 1) (drop (i + 1) xs)
longest-more xs i m b h e = longest-at xs i m b false h (grind (arith, nat_tests))
