use Rattle.std.proofs.Common.{arith, ap, map, refl, ◌≡◌, ◌∙◌}
use Rattle.std.specs.List.{flat_map, range_with_len}
use Rattle.object_core.specs.Pictures.{drawn_line, ended_line}
use Rattle.object_kinds.specs.Drawn.{shapes_told}
use Rattle.object_kinds.proofs.Picturing.{line_drawn, lines_more}
use Rattle.object_kinds.proofs.canvas.picture.Goals as goal

pub loop-row-preserved : goal.loop-row-preserved
loop-row-preserved c =
    let shapes = shapes_told c.args.figures.now in
    c.in_ok-push_line.ensures
    ∙ lines_more shapes c.loop-row.row c.loop-row.picture.items c.line.result.now c.loop-row.invariant
    (line_drawn shapes _ c.paint_all.new.cells c.line.result.now c.loop-row.row c.loop-row-test.true refl
    c.paint_all.ensures c.line.ensures.wide c.line.ensures.cells)

pub returns : goal.returns
returns c =
    let all : c.loop-row.row ≡ 12 = omega arith in
    c.loop-row.invariant
    ∙ ap (λ n. flat_map ended_line (map (drawn_line (shapes_told c.args.figures.now)) (range_with_len 0 n))) all
