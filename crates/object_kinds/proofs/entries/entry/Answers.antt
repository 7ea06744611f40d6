use Rattle.std.proofs.Common.{sym}
use Rattle.object_kinds.specs.Placed.{named}
use Rattle.object_core.specs.Reading.{entry_in}
use Rattle.text_words.specs.Words.{words}
use Rattle.object_kinds.proofs.Loading.{entry-sound, text-unsound}
use Rattle.object_kinds.proofs.entries.entry.Goals as goal

pub returns : goal.returns
returns c = entry-sound c.in_ok-place.place (named c.in_ok-cell.cell) c.in_ok-cell.text.now
    (entry_in (words c.args.line.now))
    c.in_ok-cell.ensures c.in_ok-place.ensures (sym c.if-not-is_cell_text.ensures)

pub returns-then-not-is_cell_text : goal.returns-then-not-is_cell_text
returns-then-not-is_cell_text c = text-unsound (named c.in_ok-cell.cell) c.in_ok-cell.text.now
    (entry_in (words c.args.line.now))
    c.in_ok-cell.ensures (sym c.if-not-is_cell_text.ensures)
