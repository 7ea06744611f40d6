-- Texts whose lines ask for one thing each.
use Rattle.std.specs.Prelude.{◌≡◌, ◌+◌, ◌-◌, ℕ, Bool, true, false, Option, Some, None, List, [], ◌∷◌, nat_eq, cond}
use Rattle.std.specs.Prelude.{take, slice_get, Result, Ok, Err, IsOk}
use Rattle.text_words.specs.Words.{lines}
use Rattle.text_io.specs.declared.lines.SyntaxFault.{SyntaxFault}
use Rattle.text_io.specs.declared.lines.SyntaxFault.TheVariants.{Bad, NoMemory}

-- empty lines and lines that begin with `#` are skipped
abbrev pub is_skipped : List ℕ → Bool
is_skipped [] = true
is_skipped (c ∷ cs) = nat_eq c 35

-- what line n asks for, before what the others do
abbrev pub put_first : {A : Type 0} → ℕ → Option A → Result (List A) (ℕ × SyntaxFault)
    → Result (List A) (ℕ × SyntaxFault)
put_first n None others = Err (n, Bad)
put_first n (Some asked) (Ok others) = Ok (asked ∷ others)
put_first n (Some asked) (Err fault) = Err fault

-- What lines ask for, the first of which has number n, or the first of them that is outside the grammar.
abbrev pub lines_read : {A : Type 0} → (ℕ → List ℕ → Option A) → ℕ → List (List ℕ) → Result (List A) (ℕ × SyntaxFault)
lines_read read n [] = Ok []
lines_read read n (line ∷ lines) = cond (is_skipped line) (lines_read read (n + 1) lines)
    (put_first n (read n line) (lines_read read (n + 1) lines))

-- what the lines of a text ask for
abbrev pub text_read : {A : Type 0} → (ℕ → List ℕ → Option A) → List ℕ → Result (List A) (ℕ × SyntaxFault)
text_read read text = lines_read read 1 (lines text)

-- the lines that aren't skipped, each with its number, where the first of all has number n
abbrev pub asking : ℕ → List (List ℕ) → List (ℕ × List ℕ)
asking n [] = []
asking n (line ∷ lines) = cond (is_skipped line) (asking (n + 1) lines) ((n, line) ∷ asking (n + 1) lines)

-- Memory may have run out at line n: it asks for something, and it and all lines before it are within the grammar.
pub record MayLackMemory {A : Type 0} (read : ℕ → List ℕ → Option A) (text : List ℕ) (n : ℕ) : Type 0 where
  pub line : List ℕ
  pub stands : slice_get (lines text) (n - 1) ≡ Some line
  pub asks : is_skipped line ≡ false
  pub within : IsOk (lines_read read 1 (take n (lines text)))

-- when a text may be refused
abbrev pub RefusesText : {A : Type 0} → (ℕ → List ℕ → Option A) → List ℕ → ℕ × SyntaxFault → Type 0
RefusesText read text (n, Bad) = text_read read text ≡ Err (n, Bad)
RefusesText read text (n, NoMemory) = MayLackMemory read text n
