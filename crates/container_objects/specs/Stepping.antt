-- What verbs and closes make of an object's frame, and of the object that has it.
use Rattle.std.specs.Prelude.{ℕ, List, [], Option, Some, None, slice_set, if◌then◌else◌}
use Rattle.message_values.specs.Found.{find, put}
use Rattle.message_values.specs.declared.message.Message.{Message}
use Rattle.message_values.specs.declared.operation.Operation.TheVariants.{UiDeactivate}
use Rattle.object_state.specs.declared.verbs.Step.{Step}
use Rattle.object_state.specs.Grants.{Ask}
use Rattle.container_model.specs.declared.record.Frame.{Frame}
use Rattle.container_model.specs.declared.record.Object.{Object}
use Rattle.container_model.specs.Grants.{grant_of, moved}
use Rattle.container_model.specs.Record.{asked_link, asked_sent, is_object}
use Rattle.container_model.specs.Verbs.{gives_up}

-- the object, by this activation, gives its frame up
abbrev pub given_up : ℕ → ℕ → Frame → Frame
given_up number act frame = moved frame (Ask (record { object = number; act = act; g = grant_of frame.ui.state }))

-- the frame after steps that don't take it
abbrev pub left_frame : ℕ → ℕ → List Step → Frame → Frame
left_frame number act steps frame = if gives_up steps then given_up number act frame else frame

-- the objects once the one that has the frame, if any, is told to give it up, and what is sent
abbrev pub told_in : List Object → Option Object → List Object
told_in os None = os
told_in os (Some o) = put (is_object o.number) (record o { link = asked_link UiDeactivate o.link }) os

abbrev pub told_objects : Option ℕ → List Object → List Object
told_objects None os = os
told_objects (Some n) os = told_in os (find (is_object n) os)

-- the objects once the one at i is another, and the one at j is told to give the frame up
abbrev pub both_told : List Object → ℕ → Object → ℕ → Object → List Object
both_told os i o j holder = slice_set (slice_set os i o) j
    (record holder { link = asked_link UiDeactivate holder.link })

abbrev pub told_one : Option Object → List Message
told_one None = []
told_one (Some o) = asked_sent UiDeactivate o.link

abbrev pub told_sent : Option ℕ → List Object → List Message
told_sent None os = []
told_sent (Some n) os = told_one (find (is_object n) os)
