use Rattle.std.proofs.Common.{◌≡◌, map}
use Rattle.std.specs.List.{flat_map, range_with_len}
use Rattle.object_core.specs.Pictures.{drawn_line, ended_line}
use Rattle.object_kinds.specs.Drawn.{shapes_told}
use Rattle.object_kinds.proofs.canvas.picture.Given as goal

abbrev pub invariant-loop-row : goal.invariant-loop-row
invariant-loop-row l = l.picture.items ≡ flat_map ended_line
    (map (drawn_line (shapes_told l.figures)) (range_with_len 0 l.row))
