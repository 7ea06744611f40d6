-- A table's cells by their places.
use Rattle.std.specs.Prelude.{◌%◌, ◌/◌, ℕ, List, Option, Some, None, cond, map}
use Rattle.std.specs.Global.{Vec}
use Rattle.object_core.specs.Content.{Cell, is_cell, cell_place}
use Rattle.object_core.specs.Edits.{Edit, set, clear}
use Rattle.object_kinds.specs.declared.cell_name.CellName.{CellName}
use Rattle.object_kinds.specs.declared.table_edits.TableEdit.{TableEdit}
use Rattle.object_kinds.specs.declared.table_edits.TableEdit.TheVariants.{Set, Clear}

-- the cell at a place
abbrev pub cell_at : ℕ → Cell
cell_at place = record { column = place % 26; row = place / 26 }

-- the place of a cell, if it is one of a table
abbrev pub place_of : Cell → Option ℕ
place_of c = cond (is_cell c) (Some (cell_place c)) None

abbrev pub entry_at : ℕ × Vec ℕ → Cell × List ℕ
entry_at e = (cell_at e.0, e.1.items)

-- the entries of a table that keeps its texts under the places of their cells
abbrev pub entries_at : List (ℕ × Vec ℕ) → List (Cell × List ℕ)
entries_at es = map entry_at es

-- the cell that is named
abbrev pub named : CellName → Cell
named c = record { column = c.column; row = c.row }

abbrev pub edit_told : TableEdit → Edit
edit_told (Set c text) = set (named c) text.now
edit_told (Clear c) = clear (named c)
