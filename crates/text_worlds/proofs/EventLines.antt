-- The lines of answers, one after another.
use Rattle.std.proofs.Common.{◌≡◌, ◌≤◌, ◌<◌, ◌+◌, ◌-◌, ◌++◌, ℕ, zero, suc, List, [], ◌∷◌, Some, None, length, drop}
use Rattle.std.proofs.Common.{slice_get, refl, sym, ap, ◌∙◌, arith, append_assoc, append-nil}
use Rattle.message_values.specs.Found.{nth}
use Rattle.world_model.specs.declared.logs.EventAnswer.{EventAnswer}
use Rattle.text_worlds.specs.Answers.{answer_line, answer_lines}

-- the item of a number and what stands behind it
get-some : {A : Type 0} (xs : List A) (i : ℕ) (a : A) → slice_get xs i ≡ Some a → (i < length xs)
    × (drop i xs ≡ a ∷ drop (suc i) xs)
get-some [] i a is = absurd (cc)
get-some (x ∷ xs) zero a is = (omega arith, cc)
get-some (x ∷ xs) (suc i) a is =
    let more = get-some xs i a is in
    (omega (arith, more.0), more.1)

get-none : {A : Type 0} (xs : List A) (i : ℕ) → slice_get xs i ≡ None → drop i xs ≡ []
get-none [] zero is = refl
get-none [] (suc i) is = refl
get-none (x ∷ xs) zero is = absurd (cc)
get-none (x ∷ xs) (suc i) is = get-none xs i is

pub record IsTurned (answers : List EventAnswer) (n : ℕ) (before new : List ℕ) : Type 0 where
  pub last : n + 1 ≤ length answers + 1
  pub written : new ++ answer_lines (n + 1) (drop (n + 1 - 1) answers) ≡ before ++ answer_lines 1 answers

-- one more line
pub turned : (answers : List EventAnswer) (n : ℕ) (a : EventAnswer) (before out new : List ℕ) → 1 ≤ n
    → nth answers n ≡ Some a
    → out ++ answer_lines n (drop (n - 1) answers) ≡ before ++ answer_lines 1 answers → new ≡ out ++ answer_line n a
    → IsTurned answers n before new
turned answers zero a before out new first is so far = absurd (omega arith)
turned answers (suc i) a before out new first is so far =
    let found = get-some answers i a is in
    let same : suc i - 1 ≡ i = omega arith in
    let next : suc i + 1 - 1 ≡ suc i = omega arith in
    let rest : drop (suc i - 1) answers ≡ a ∷ drop (suc i) answers = ap (λ n. drop n answers) same ∙ found.1 in
    record {
      last = omega (arith, found.0);
      written =
          ap (λ n. new ++ answer_lines (suc i + 1) (drop n answers)) next
          ∙ ap (λ t. t ++ answer_lines (suc i + 1) (drop (suc i) answers)) far
          ∙ append_assoc out (answer_line (suc i) a) (answer_lines (suc i + 1) (drop (suc i) answers))
          ∙ ap (λ rest. out ++ answer_lines (suc i) rest) (sym rest)
          ∙ so;
    }

-- no line is left
pub all_written : (answers : List EventAnswer) (n : ℕ) (before out : List ℕ) → 1 ≤ n → nth answers n ≡ None
    → out ++ answer_lines n (drop (n - 1) answers) ≡ before ++ answer_lines 1 answers
    → out ≡ before ++ answer_lines 1 answers
all_written answers zero before out first is so = absurd (omega arith)
all_written answers (suc i) before out first is so =
    let same : suc i - 1 ≡ i = omega arith in
    let rest : drop (suc i - 1) answers ≡ [] = ap (λ n. drop n answers) same ∙ get-none answers i is in
    sym (append-nil out) ∙ ap (λ rest. out ++ answer_lines (suc i) rest) (sym rest) ∙ so
