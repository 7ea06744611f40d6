-- The lines of a note's picture.
use Rattle.std.proofs.Common.{arith, ◌<◌, ◌≤◌, ⊎_elim, ◌≡◌, ◌++◌, ℕ, zero, suc, min, length, List, [], ◌∷◌, map, take}
use Rattle.std.proofs.Common.{refl, ap, sym, ◌∙◌, append_assoc, append-nil}
use Rattle.std.proofs.lemmas.Bool.{cases_lt}
use Rattle.std.proofs.lemmas.List.{take_all}
use Rattle.std.specs.List.{flat_map}
use Rattle.object_core.specs.Pictures.{ended_line}

-- so many lines, each cut to 60 characters
abbrev pub shown : ℕ → List (List ℕ) → List ℕ
shown n lines = flat_map ended_line (map (take 60) (take n lines))

-- one line more
pub shown_more : (n m : ℕ) (picture whole line : List ℕ) (lines more : List (List ℕ)) → n ≡ suc m → lines ≡ line ∷ more
    → picture ++ shown n lines ≡ whole → (picture ++ ended_line (take 60 line)) ++ shown m more ≡ whole
shown_more n m picture whole line lines more e f was =
    append_assoc picture (ended_line (take 60 line)) (shown m more)
    ∙ ap (λ r. picture ++ r) (sym (ap (λ k. shown k lines) e ∙ ap (shown (suc m)) f)) ∙ was

shown-none : (n : ℕ) → shown n [] ≡ []
shown-none zero = refl
shown-none (suc n) = refl

-- no line is left
pub shown_all : (n : ℕ) (picture whole : List ℕ) (lines : List (List ℕ)) → lines ≡ []
    → picture ++ shown n lines ≡ whole → picture ≡ whole
shown_all n picture whole lines e was =
    sym (append-nil picture) ∙ ap (λ r. picture ++ r) (sym (ap (shown n) e ∙ shown-none n)) ∙ was

-- all lines that are to be shown are there
pub shown_full : (n : ℕ) (picture whole : List ℕ) (lines : List (List ℕ)) → n ≡ 0 → picture ++ shown n lines ≡ whole
    → picture ≡ whole
shown_full n picture whole lines e was =
    sym (append-nil picture) ∙ ap (λ r. picture ++ r) (sym (ap (λ k. shown k lines) e)) ∙ was

-- a line has no more than is shown
pub shown_part : (n : ℕ) (line : List ℕ) → n ≡ min (length line) 60 → take n line ≡ take 60 line
shown_part n line e =
    ⊎_elim
    (λ (h : length line < 60). let less : length line ≤ n = omega arith in
    take_all n line less ∙ sym (take_all 60 line (omega arith)))
    (λ (h : 60 ≤ length line). let same : n ≡ 60 = omega arith in ap (λ k. take k line) same)
    (cases_lt (length line) 60)
