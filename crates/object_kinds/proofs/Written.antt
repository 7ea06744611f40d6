-- How a table's entries are written.
use Rattle.std.proofs.Common.{arith, ◌≡◌, ◌≤◌, ◌<◌, ◌+◌, ◌/◌, ◌%◌, ◌^◌, ◌++◌, ◌∙◌, ℕ, zero, suc, List, [], ◌∷◌, map}
use Rattle.std.proofs.Common.{take, refl, ap, sym, append_assoc, append-nil}
use Rattle.std.specs.Fmt.{decimal}
use Rattle.std.specs.List.{flat_map}
use Rattle.std.proofs.lemmas.Fmt.{decimal_digit, decimal_step}
use Rattle.object_core.specs.Content.{Cell, cell_bytes}
use Rattle.object_core.specs.Pictures.{cell_line, ended_line}
use Rattle.object_kinds.specs.Listed.{line_with}

pub number_one : (n : ℕ) (old new : List ℕ) → n < 10 → new ≡ old ++ (48 + n % 10) ∷ [] → new ≡ old ++ decimal n
number_one n old new h e =
    let same : n % 10 ≡ n = omega arith in
    e ∙ ap (λ m. old ++ (48 + m) ∷ []) same ∙ ap (λ ds. old ++ ds) (sym (decimal_digit n h))

pub number_more : (n : ℕ) (old mid new : List ℕ) → 10 ≤ n → n < 2 ^ 64 → mid ≡ old ++ decimal (n / 10)
    → new ≡ mid ++ (48 + n % 10) ∷ [] → new ≡ old ++ decimal n
number_more n old mid new h small was e =
    e ∙ ap (λ m. m ++ (48 + n % 10) ∷ []) was ∙ append_assoc old (decimal (n / 10)) ((48 + n % 10) ∷ [])
    ∙ ap (λ ds. old ++ ds) (sym (decimal_step n h small))

-- so many lines of a picture
abbrev pub shown : ℕ → List (Cell × List ℕ) → List ℕ
shown n entries = flat_map ended_line (map cell_line (take n entries))

shown_line : (e : Cell × List ℕ) → line_with 61 e.0 e.1 ≡ ended_line (cell_line e)
shown_line e = sym (append_assoc (cell_bytes e.0) (61 ∷ e.1) (10 ∷ []))

-- one line more
pub shown_more : (n m : ℕ) (picture whole : List ℕ) (e : Cell × List ℕ) (entries more : List (Cell × List ℕ))
    → n ≡ suc m → entries ≡ e ∷ more
    → picture ++ shown n entries ≡ whole → (picture ++ line_with 61 e.0 e.1) ++ shown m more ≡ whole
shown_more n m picture whole e entries more f g was =
    ap (λ l. (picture ++ l) ++ shown m more) (shown_line e)
    ∙ append_assoc picture (ended_line (cell_line e)) (shown m more)
    ∙ ap (λ r. picture ++ r) (sym (ap (λ k. shown k entries) f ∙ ap (shown (suc m)) g)) ∙ was

shown-none : (n : ℕ) → shown n [] ≡ []
shown-none zero = refl
shown-none (suc n) = refl

-- no entry is left
pub shown_all : (n : ℕ) (picture whole : List ℕ) (entries : List (Cell × List ℕ)) → entries ≡ []
    → picture ++ shown n entries ≡ whole → picture ≡ whole
shown_all n picture whole entries e was =
    sym (append-nil picture) ∙ ap (λ r. picture ++ r) (sym (ap (shown n) e ∙ shown-none n)) ∙ was

-- all lines that are to be shown are there
pub shown_full : (n : ℕ) (picture whole : List ℕ) (entries : List (Cell × List ℕ)) → n ≡ 0
    → picture ++ shown n entries ≡ whole → picture ≡ whole
shown_full n picture whole entries e was =
    sym (append-nil picture) ∙ ap (λ r. picture ++ r) (sym (ap (λ k. shown k entries) e)) ∙ was
