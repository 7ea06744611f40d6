use Rattle.std.proofs.Common.{◌∙◌, ℕ, List, sym}
use Rattle.read_files.proofs.ReadingAlike.{alike_read}
use Rattle.read_files.proofs.ReadingTold.{read_refused}
use Rattle.read_streams.proofs.Alike.{placed_in}
use Rattle.write_cleaned.proofs.Sources.{no_fault}
use Rattle.write_cleaned.proofs.reading.outline_of.Goals as goal

pub returns-in-Ok-clause-placed : goal.returns-in-Ok-clause-placed
returns-in-Ok-clause-placed c = λ a h. placed_in a c.args.catalog.now.file c.in-Ok.outline h c.in-Ok.ensures.placed

pub returns-in-Err-clause-refused : goal.returns-in-Err-clause-refused
returns-in-Err-clause-refused c = λ a h.
    let b : List ℕ = c.args.catalog.now.file in
    alike_read a b c.in-Err.fault h
    (read_refused b c.read_placed.result c.in-Err.fault c.in-Err.is
    (λ e he. absurd (no_fault (sym c.requires.header ∙ he))) c.read_placed.ensures.reads
    c.read_placed.ensures.refused)
