-- Law: no record has more frames than there may be, whatever it is told.
use Rattle.std.specs.Prelude.{◌≡◌, ◌≤◌, length, Ok}
use Rattle.container_model.specs.Inputs.{Input, on_input}
use Rattle.container_model.specs.Record.{MOST_FRAMES, Record, Took}

abbrev pub FewFrames : Record → Type 0
FewFrames r = length r.frames ≤ MOST_FRAMES

abbrev pub FewFramesAfter : Type 0
FewFramesAfter = (r : Record) (x : Input) (t : Took) → FewFrames r → on_input r x ≡ Ok t → FewFrames t.rec
