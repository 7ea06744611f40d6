-- The shapes and edits of a drawing.
use Rattle.std.specs.Prelude.{List, map}
use Rattle.object_core.specs.Content.{Direction, across, down, Shape, box, line}
use Rattle.object_core.specs.Edits.{Edit, add, remove, raise}
use Rattle.object_kinds.specs.declared.shapes.Heading.{Heading}
use Rattle.object_kinds.specs.declared.shapes.Heading.TheVariants.{Across, Down}
use Rattle.object_kinds.specs.declared.shapes.Figure.{Figure}
use Rattle.object_kinds.specs.declared.shapes.Figure.TheVariants.{Rectangle, Line}
use Rattle.object_kinds.specs.declared.drawing_edits.DrawingEdit.{DrawingEdit}
use Rattle.object_kinds.specs.declared.drawing_edits.DrawingEdit.TheVariants.{Add, Remove, Raise}

abbrev pub direction_told : Heading → Direction
direction_told Across = across
direction_told Down = down

abbrev pub shape_told : Figure → Shape
shape_told (Rectangle x y width height) = box x y width height
shape_told (Line x y heading length) = line x y (direction_told heading) length

abbrev pub shapes_told : List Figure → List Shape
shapes_told figures = map shape_told figures

abbrev pub edit_told : DrawingEdit → Edit
edit_told (Add figure) = add (shape_told figure)
edit_told (Remove number) = remove number
edit_told (Raise number) = raise number
