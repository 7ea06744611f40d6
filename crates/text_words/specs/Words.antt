-- Pieces, words and numbers of texts.
use Rattle.std.specs.Prelude.{◌+◌, ◌-◌, ◌*◌, ◌&&◌, ℕ, Option, Some, None, List, [], ◌∷◌, nat_le, nat_eq, cond}
use Rattle.std.specs.List.{slice_split}
use Rattle.std.specs.Char.{is_ascii_digit}

-- a text cut at each such byte: the pieces, joined by it, are the text
abbrev pub pieces : ℕ → List ℕ → List (List ℕ)
pieces c text = slice_split (λ b. nat_eq b c) text

-- lines are ended by a line feed, which the last one may lack
abbrev pub lines : List ℕ → List (List ℕ)
lines text = pieces 10 text

-- words are parted by one space
abbrev pub words : List ℕ → List (List ℕ)
words line = pieces 32 line

-- what is left of the pieces behind the first
abbrev pub further : ℕ → Option (List ℕ) → List (List ℕ)
further c None = []
further c (Some rest) = pieces c rest

-- digits behind a number so far, which is nowhere past the largest of 32 bits
abbrev pub digits_read : ℕ → List ℕ → Option ℕ
digits_read n [] = Some n
digits_read n (c ∷ cs) = cond (is_ascii_digit c && nat_le (10 * n + (c - 48)) 4294967295)
    (digits_read (10 * n + (c - 48)) cs) None

-- a decimal number of 32 bits without leading zeros
abbrev pub number_read : List ℕ → Option ℕ
number_read [] = None
number_read (c ∷ []) = digits_read 0 (c ∷ [])
number_read (c ∷ d ∷ ds) = cond (nat_eq c 48) None (digits_read 0 (c ∷ d ∷ ds))
