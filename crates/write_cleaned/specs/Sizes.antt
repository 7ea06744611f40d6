-- Streams that have as many bytes as an outline says.
use Rattle.std.specs.Prelude.{◌≡◌, ℕ, List}
use Rattle.cfb_entries.specs.Tree.{Tree}
use Rattle.write_parts.specs.Blank.{blank}
use Rattle.cfb_file.specs.Outline.{outline_of}
use Rattle.read_outlines.specs.View.{outline_view, shown}
use Rattle.read_outlines.specs.declared.outline.Outline.{Outline}
use Rattle.read_outlines.specs.declared.outline.Place.{Place}

-- the tree whose streams are zeros, as many as an outline says
abbrev pub blank_of : Outline → Tree
blank_of o = blank (outline_view o)

-- each stream that is shown has as many bytes as the outline says
abbrev pub IsSized : (Place → List ℕ) → Outline → Type 0
IsSized content o = outline_of (shown content o) ≡ outline_view o
