use Rattle.std.proofs.Common.{take}
use Rattle.object_core.specs.Pictures.{glyph_over}
use Rattle.object_kinds.specs.Canvases.{Painted}
use Rattle.object_kinds.specs.Drawn.{shapes_told}
use Rattle.object_kinds.proofs.canvas.paint_all.Given as goal

abbrev pub invariant-loop-figure : goal.invariant-loop-figure
invariant-loop-figure l = Painted (glyph_over (shapes_told (take l.figure-index l.figures))) l.initial.cells l.cells
