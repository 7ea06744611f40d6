-- Steps of an object in its frame, as they are taken of both.
use Rattle.std.specs.Prelude.{◌||◌, ℕ, List, Option, Some, None, Result, Err}
use Rattle.message_values.specs.Found.{find, nth}
use Rattle.container_model.specs.declared.fault.ContainerFault.{ContainerFault}
use Rattle.container_model.specs.declared.fault.ContainerFault.TheVariants.{NoSuch, InDoubt, Busy}
use Rattle.container_model.specs.declared.record.Frame.{Frame}
use Rattle.container_model.specs.declared.record.Object.{Object}
use Rattle.container_model.specs.Record.{Record, Took, is_busy, is_doubtful, is_object, is_saving, unless}

abbrev pub located_in : (Object → Frame → Result Took ContainerFault) → Object → Option Frame
    → Result Took ContainerFault
located_in step o None = Err NoSuch
located_in step o (Some frame) = step o frame

abbrev pub located_at : (Object → Frame → Result Took ContainerFault) → List Frame → Option Object
    → Result Took ContainerFault
located_at step fs None = Err NoSuch
located_at step fs (Some o) = located_in step o (nth fs o.frame)

-- the step of the object of this number in its frame, where both are there
abbrev pub located : Record → ℕ → (Object → Frame → Result Took ContainerFault) → Result Took ContainerFault
located r n step = located_at step r.frames (find (is_object n) r.objects)

-- a step that waits until neither the object nor its frame is busy
abbrev pub ready : (Object → Frame → Result Took ContainerFault) → Object → Frame → Result Took ContainerFault
ready step o frame =
    unless (is_doubtful frame.phase) InDoubt
    (unless (is_saving frame.phase || is_busy frame.ui.state o) Busy
    (step o frame))
