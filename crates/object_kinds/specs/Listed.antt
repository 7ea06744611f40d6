-- How a table's entries are written in lines, and read.
use Rattle.std.specs.Prelude.{◌&&◌, ℕ, List, ◌∷◌, [], ◌++◌, Option, Some, None, option_and_then, cond, map}
use Rattle.std.specs.List.{list_all}
use Rattle.object_core.specs.Content.{Cell, is_entry, is_rising, cell_place, cell_bytes}
use Rattle.object_core.specs.Reading.{each, entry_in, lines_of}
use Rattle.text_words.specs.Words.{words}

-- a cell, a byte behind it, a text and a line feed
abbrev pub line_with : ℕ → Cell → List ℕ → List ℕ
line_with between cell text = cell_bytes cell ++ between ∷ (text ++ 10 ∷ [])

-- an entry, if its cell is one of a table and its text one of a cell
abbrev pub sound : Option (Cell × List ℕ) → Option (Cell × List ℕ)
sound None = None
sound (Some e) = cond (is_entry e) (Some e) None

-- the entries that lines spell
abbrev pub entries_of : List ℕ → Option (List (Cell × List ℕ))
entries_of bytes = option_and_then (λ ls. each (λ l. entry_in (words l)) ls) (lines_of bytes)

-- entries, if they are sound, and stand in order behind a place
abbrev pub behind : ℕ → Option (List (Cell × List ℕ)) → Option (List (Cell × List ℕ))
behind place None = None
behind place (Some es) = cond (is_rising (place ∷ map (λ e. cell_place e.0) es) && list_all is_entry es) (Some es) None
