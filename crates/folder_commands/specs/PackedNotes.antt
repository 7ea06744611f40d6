-- What a folder tells of its storage, as it is read.
use Rattle.std.specs.Prelude.{ℕ, Option, Some, None, List, [], ◌∷◌}
use Rattle.text_words.specs.Words.{lines, number_read, words}
use Rattle.uuid.specs.Parts.{swap_fields}
use Rattle.uuid.specs.Text.{parsed}

abbrev pub both : Option (List ℕ) → Option ℕ → Option (List ℕ × ℕ)
both None state = None
both (Some id) None = None
both (Some id) (Some state) = Some (swap_fields id, state)

abbrev pub words_read : List (List ℕ) → Option (List ℕ × ℕ)
words_read (class ∷ state ∷ []) = both (parsed class) (number_read state)
words_read _ = None

-- a class id and state bits, parted by a space
abbrev pub line_read : List ℕ → Option (List ℕ × ℕ)
line_read line = words_read (words line)

abbrev pub lines_read : List (List ℕ) → Option (List ℕ × ℕ)
lines_read (line ∷ [] ∷ []) = line_read line
lines_read _ = None

-- one such line, which a line feed ends
abbrev pub notes_read : List ℕ → Option (List ℕ × ℕ)
notes_read text = lines_read (lines text)
