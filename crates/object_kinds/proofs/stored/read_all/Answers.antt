use Rattle.std.proofs.Common.{sym}
use Rattle.object_kinds.specs.Drawn.{shapes_told}
use Rattle.object_kinds.proofs.Listed.{loaded_as, loaded_some}
use Rattle.object_kinds.proofs.stored.read_all.Goals as goal

pub collect-requires : goal.collect-requires
collect-requires c = loaded_some c.args.bytes.now (sym c.if-not-is_drawing.ensures)

pub returns-clause-read : goal.returns-clause-read
returns-clause-read c =
    loaded_as c.args.bytes.now (shapes_told c.in_ok-figures.figures.items) (sym c.if-not-is_drawing.ensures)
    c.in_ok-figures.ensures
