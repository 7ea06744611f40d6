-- Objects that are told of their frames' grants: all memory is taken first, then they change.
use Rattle.std.specs.Prelude.{◌++◌, ℕ, Bool, false, List, [], ◌∷◌, Option, Some, None, if◌then◌else◌, option_to_list}
use Rattle.message_values.specs.Found.{find, nth, put, set_nth}
use Rattle.message_values.specs.declared.message.Message.{Message}
use Rattle.message_values.specs.declared.operation.Operation.{Operation}
use Rattle.message_values.specs.declared.operation.Operation.TheVariants.{UiActivate}
use Rattle.object_state.specs.declared.grant_states.Claim.{Claim}
use Rattle.object_state.specs.Frames.{answer}
use Rattle.object_state.specs.Grants.{Event, waiting, who}
use Rattle.object_state.specs.declared.grant_states.GrantState.{GrantState}
use Rattle.container_links.specs.Asking.{called, installed, prepared_link}
use Rattle.container_links.specs.declared.asking.Prepared.{Prepared}
use Rattle.container_links.specs.declared.asking.Prepared.TheVariants.{Nothing}
use Rattle.container_model.specs.declared.answer.Action.{Action}
use Rattle.container_model.specs.declared.grants.Tells.{Tells}
use Rattle.container_model.specs.declared.record.Frame.{Frame}
use Rattle.container_model.specs.declared.record.Object.{Object}
use Rattle.container_model.specs.Grants.{event_of, is_by, lacks_space, moved}
use Rattle.container_model.specs.Record.{asked_link, asked_sent, is_object}
use Rattle.container_grants.specs.declared.grants.Granted.{Granted}

-- objects after the one of a number was asked, if it is there, and what is sent
abbrev pub asked_in : Operation → List Object → Option Object → List Object
asked_in op os None = os
asked_in op os (Some o) = put (is_object o.number) (record o { link = asked_link op o.link }) os

abbrev pub asked_by : ℕ → Operation → List Object → List Object
asked_by n op os = asked_in op os (find (is_object n) os)

abbrev pub sent_in : Operation → Option Object → List Message
sent_in op None = []
sent_in op (Some o) = asked_sent op o.link

abbrev pub sent_by : ℕ → Operation → List Object → List Message
sent_by n op os = sent_in op (find (is_object n) os)

-- what an object takes up that is told of its grant, and what is sent then
abbrev pub ready_in : Claim → Option Object → Granted
ready_in claim None = record { object = claim.object; takes = Nothing; action = None }
ready_in claim (Some o) = record {
  object = claim.object;
  takes = prepared_link (UiActivate claim.g) o.link;
  action = called (UiActivate claim.g) o.link;
}

abbrev pub ready : List Object → Claim → Granted
ready os claim = ready_in claim (find (is_object claim.object) os)

-- objects that have taken it up, one after the other
abbrev pub installed_in : Prepared → List Object → Option Object → List Object
installed_in takes os None = os
installed_in takes os (Some o) = put (is_object o.number) (installed takes o) os

abbrev pub installed_by : ℕ → Prepared → List Object → List Object
installed_by n takes os = installed_in takes os (find (is_object n) os)

abbrev pub installed_each : List Granted → List Object → List Object
installed_each [] os = os
installed_each (q ∷ qs) os = installed_each qs (installed_by q.object q.takes os)

abbrev pub actions_of : List Granted → List Action
actions_of [] = []
actions_of (q ∷ qs) = option_to_list q.action ++ actions_of qs

-- a frame after what an answer told of its grant, and whether an object got it without border space
abbrev pub moved_by : Frame → Option Event → Frame
moved_by frame None = frame
moved_by frame (Some e) = moved frame e

abbrev pub lacks_by : Frame → Option Event → Bool
lacks_by frame None = false
lacks_by frame (Some e) = lacks_space (answer frame.ui e)

abbrev pub told_frame : Tells → Frame → Frame
told_frame told frame = moved_by frame (event_of frame.ui.state told)

abbrev pub told_frames_in : ℕ → Tells → List Frame → Option Frame → List Frame
told_frames_in f told frames None = frames
told_frames_in f told frames (Some frame) = set_nth frames f (told_frame told frame)

abbrev pub told_frames : ℕ → Option Tells → List Frame → List Frame
told_frames f None frames = frames
told_frames f (Some told) frames = told_frames_in f told frames (nth frames f)

abbrev pub told_space : Tells → Frame → Bool
told_space told frame = lacks_by frame (event_of frame.ui.state told)

abbrev pub told_space_in : Option Tells → Option Frame → Bool
told_space_in None frame = false
told_space_in (Some told) None = false
told_space_in (Some told) (Some frame) = told_space told frame

-- who gets the frame once an activation gives it up, if one does
abbrev pub claims_of : ℕ → GrantState → List Claim
claims_of act state = if is_by act (who state) then option_to_list (waiting state) else []

abbrev pub claims_by : ℕ → Option Frame → List Claim
claims_by act None = []
claims_by act (Some frame) = claims_of act frame.ui.state

abbrev pub claims_if : Option ℕ → Option Frame → List Claim
claims_if None frame = []
claims_if (Some act) frame = claims_by act frame
