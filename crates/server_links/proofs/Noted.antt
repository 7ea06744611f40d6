-- A number put among rising ones, behind those that are less.
use Rattle.std.proofs.Common.{◌≡◌, ◌<◌, ◌≤◌, ◌++◌, ℕ, suc, List, [], ◌∷◌, append_assoc, take, drop, length, get_or}
use Rattle.std.proofs.Common.{cond, nat_lt, nat_eq, true, false, refl, sym, ap, ◌∙◌, arith, take-suc, drop-cons}
use Rattle.std.proofs.Common.{length-drop}
use Rattle.std.proofs.lemmas.Bool.Decides.{nat_tests}
use Rattle.std.proofs.lemmas.List.{take-append-drop}
use Rattle.server_links.specs.Turns.{noted}

goes : (a b : ℕ) → a < b → nat_lt a b ≡ true
goes a b l = grind (arith, nat_tests)

is-less : (n x : ℕ) (xs : List ℕ) → x < n → noted n (x ∷ xs) ≡ x ∷ noted n xs
is-less n x xs l = ap (λ b. cond b (x ∷ noted n xs) (cond (nat_eq x n) (x ∷ xs) (n ∷ x ∷ xs))) (goes x n l)

-- one more number is passed
pub passed : (n at : ℕ) (xs : List ℕ) → at < length xs → get_or xs at 0 < n
    → noted n xs ≡ take at xs ++ noted n (drop at xs)
    → noted n xs ≡ take (suc at) xs ++ noted n (drop (suc at) xs)
passed n at xs l less is =
    let x : ℕ = get_or xs at 0 in
    let rest : List ℕ = noted n (drop (suc at) xs) in
    is ∙ ap (λ ys. take at xs ++ noted n ys) (drop-cons xs at 0 l)
    ∙ ap (λ ys. take at xs ++ ys) (is-less n x (drop (suc at) xs) less)
    ∙ sym (append_assoc (take at xs) (x ∷ []) rest)
    ∙ ap (λ ys. ys ++ rest) (sym (take-suc xs at 0 l))

stops : (a b : ℕ) → b ≤ a → nat_lt a b ≡ false
stops a b l = grind (arith, nat_tests)

is-same : (a b : ℕ) → a ≡ b → nat_eq a b ≡ true
is-same a b e = grind (arith, nat_tests)

is-other : (a b : ℕ) → (a ≡ b → ⊥) → nat_eq a b ≡ false
is-other a b n = grind (arith, nat_tests)

is-there : (n x : ℕ) (xs : List ℕ) → x ≡ n → noted n (x ∷ xs) ≡ x ∷ xs
is-there n x xs e = ap (λ b. cond b (x ∷ noted n xs) (cond (nat_eq x n) (x ∷ xs) (n ∷ x ∷ xs)))
    (stops x n (omega (arith, e)))
    ∙ ap (λ b. cond b (x ∷ xs) (n ∷ x ∷ xs)) (is-same x n e)

is-greater : (n x : ℕ) (xs : List ℕ) → n ≤ x → (x ≡ n → ⊥) → noted n (x ∷ xs) ≡ n ∷ x ∷ xs
is-greater n x xs l d = ap (λ b. cond b (x ∷ noted n xs) (cond (nat_eq x n) (x ∷ xs) (n ∷ x ∷ xs))) (stops x n l)
    ∙ ap (λ b. cond b (x ∷ xs) (n ∷ x ∷ xs)) (is-other x n d)

-- it stands there already
pub there : (n at : ℕ) (xs : List ℕ) → at < length xs → get_or xs at 0 ≡ n
    → noted n xs ≡ take at xs ++ noted n (drop at xs)
    → noted n xs ≡ xs
there n at xs l e is =
    let x : ℕ = get_or xs at 0 in
    is ∙ ap (λ ys. take at xs ++ noted n ys) (drop-cons xs at 0 l)
    ∙ ap (λ ys. take at xs ++ ys) (is-there n x (drop (suc at) xs) e)
    ∙ ap (λ ys. take at xs ++ ys) (sym (drop-cons xs at 0 l))
    ∙ take-append-drop at xs

-- it belongs before the next one
pub before : (n at : ℕ) (xs : List ℕ) → at < length xs → n ≤ get_or xs at 0 → (get_or xs at 0 ≡ n → ⊥)
    → noted n xs ≡ take at xs ++ noted n (drop at xs)
    → noted n xs ≡ take at xs ++ n ∷ drop at xs
before n at xs l m d is =
    let x : ℕ = get_or xs at 0 in
    is ∙ ap (λ ys. take at xs ++ noted n ys) (drop-cons xs at 0 l)
    ∙ ap (λ ys. take at xs ++ ys) (is-greater n x (drop (suc at) xs) m d)
    ∙ ap (λ ys. take at xs ++ n ∷ ys) (sym (drop-cons xs at 0 l))

none : (n : ℕ) (xs : List ℕ) → length xs ≡ 0 → noted n xs ≡ n ∷ xs
none n [] e = refl
none n (x ∷ xs) e = absurd (omega (arith, e))

-- it belongs behind all
pub behind : (n at : ℕ) (xs : List ℕ) → length xs ≤ at → noted n xs ≡ take at xs ++ noted n (drop at xs)
    → noted n xs ≡ take at xs ++ n ∷ drop at xs
behind n at xs l is = is ∙ ap (λ ys. take at xs ++ ys) (none n (drop at xs) (omega (arith, length-drop at xs)))
