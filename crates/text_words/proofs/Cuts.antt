-- Texts cut at a byte.
use Rattle.std.proofs.Common.{◌≡◌, ◌<◌, ◌+◌, ℕ, zero, suc, Bool, true, false, cond, Some, None, List, [], ◌∷◌, length}
use Rattle.std.proofs.Common.{get_or, take, drop, refl, ap, sym, subst, ◌∙◌, arith, nat_eq, eq-eqb}
use Rattle.std.proofs.lemmas.Bool.{ne_eqb}
use Rattle.std.specs.List.{onto_first, join_with_byte}
use Rattle.std.proofs.lemmas.List.Splits.{slice_split-cons_yes, slice_split-cons_no, join_with_byte-slice_split}
use Rattle.memchr.specs.Find.{IsFirstByte, is_byte}
use Rattle.text_words.specs.Words.{pieces}

-- the first such byte stands at i
pieces-cut : (c : ℕ) (xs : List ℕ) (i : ℕ) → i < length xs → get_or xs i 0 ≡ c
    → ((k : ℕ) → k < i → get_or xs k 0 ≡ c → ⊥)
    → pieces c xs ≡ take i xs ∷ pieces c (drop (suc i) xs)
pieces-cut c [] i within at before = absurd (omega arith)
pieces-cut c (x ∷ xs) zero within at before = slice_split-cons_yes (λ b. nat_eq b c) x xs (eq-eqb x c at)
pieces-cut c (x ∷ xs) (suc i) within at before =
    let other : (x ≡ c → ⊥) = before 0 (omega arith) in
    let less : i < length xs = omega arith in
    slice_split-cons_no (λ b. nat_eq b c) x xs (ne_eqb x c other)
    ∙ ap (onto_first x) (pieces-cut c xs i less at (λ k h. before (suc k) (omega arith)))

-- no such byte stands there
pieces-whole : (c : ℕ) (xs : List ℕ) → ((k : ℕ) → k < length xs → get_or xs k 0 ≡ c → ⊥) → pieces c xs ≡ xs ∷ []
pieces-whole c [] none = refl
pieces-whole c (x ∷ xs) none =
    let other : (x ≡ c → ⊥) = none 0 (omega arith) in
    slice_split-cons_no (λ b. nat_eq b c) x xs (ne_eqb x c other)
    ∙ ap (onto_first x) (pieces-whole c xs (λ k h. none (suc k) (omega arith)))

equal : (a b : ℕ) → nat_eq a b ≡ true → a ≡ b
equal a b h = grind (arith, h)

-- what a search for the first such byte finds
pub pieces-found : (c : ℕ) (xs : List ℕ) (i : ℕ) → IsFirstByte (is_byte c) xs (Some i)
    → pieces c xs ≡ take i xs ∷ pieces c (drop (i + 1) xs)
pieces-found c xs i first =
    let next : suc i ≡ i + 1 = omega arith in
    pieces-cut c xs i first.0.high (equal (get_or xs i 0) c first.1)
    (λ k l at. first.0.before k (omega arith) l (eq-eqb (get_or xs k 0) c at))
    ∙ ap (λ n. take i xs ∷ pieces c (drop n xs)) next

pub pieces-missed : (c : ℕ) (xs : List ℕ) → IsFirstByte (is_byte c) xs None → pieces c xs ≡ xs ∷ []
pieces-missed c xs none = pieces-whole c xs (λ k l at. none k (omega arith) l (eq-eqb (get_or xs k 0) c at))

-- there is a first piece
pieces-some : (c : ℕ) (xs : List ℕ) → (p : List ℕ) × (ps : List (List ℕ)) × (pieces c xs ≡ p ∷ ps)
pieces-some c [] = ([], [], refl)
pieces-some c (x ∷ xs) =
    let step : (Bool → List (List ℕ)) = λ b. cond b ([] ∷ pieces c xs) (onto_first x (pieces c xs)) in
    let P : Bool → Type 0 = λ b. (p : List ℕ) × (ps : List (List ℕ)) × (step b ≡ p ∷ ps) in
    let more : (p : List ℕ) × (ps : List (List ℕ)) × (pieces c xs ≡ p ∷ ps) = pieces-some c xs in
    elim (nat_eq x c) as P [
      | true ↦ ([], pieces c xs, refl)
      | false ↦ (x ∷ more.0, more.1, ap (onto_first x) more.2)
    ]

-- What is read from each first piece and others is read from the pieces.
pub pieces-known : {A : Type 0} (c : ℕ) (xs : List ℕ) (f : List (List ℕ) → A) (a : A)
    → ((p : List ℕ) (ps : List (List ℕ)) → pieces c xs ≡ p ∷ ps → f (p ∷ ps) ≡ a) → f (pieces c xs) ≡ a
pieces-known c xs f a read =
    let some = pieces-some c xs in
    ap f some.2 ∙ read some.0 some.1 some.2

-- What is read from the pieces of a text by joining them again is read from the text.
pub pieces-joined : {A : Type 0} (c : ℕ) (xs : List ℕ) (f : List (List ℕ) → A) (a : A)
    → ((p : List ℕ) (ps : List (List ℕ)) → join_with_byte c (p ∷ ps) ≡ xs → f (p ∷ ps) ≡ a) → f (pieces c xs) ≡ a
pieces-joined c xs f a read =
    pieces-known c xs f a (λ p ps e. read p ps (ap (join_with_byte c) (sym e) ∙ join_with_byte-slice_split c xs))
