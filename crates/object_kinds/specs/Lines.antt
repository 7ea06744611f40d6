-- Shapes that are stored a line each.
use Rattle.std.specs.Prelude.{List, ℕ, Option, Some, None, cond, option_and_then}
use Rattle.object_core.specs.Content.{Shape, is_shape}
use Rattle.object_core.specs.Reading.{each, lines_of, shape_in}
use Rattle.text_words.specs.Words.{words}

-- the shape that a line spells, where it is in range
abbrev pub in_range : Option Shape → Option Shape
in_range None = None
in_range (Some s) = cond (is_shape s) (Some s) None

abbrev pub shape_on : List ℕ → Option Shape
shape_on line = in_range (shape_in (words line))

-- the shapes that bytes spell, a line each, where all are in range
abbrev pub shapes_on : List ℕ → Option (List Shape)
shapes_on bytes = option_and_then (each shape_on) (lines_of bytes)
