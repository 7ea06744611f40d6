-- How a frame's menus and border space pass from object to object.
use Rattle.std.specs.Prelude.{◌==◌, ◌&&◌, ◌++◌, ℕ, Bool, true, false, List, [], ◌∷◌, map, Option, Some, None, Result}
use Rattle.std.specs.Prelude.{Ok, Err, if◌then◌else◌}
use Rattle.message_values.specs.Found.{find, nth}
use Rattle.message_values.specs.declared.message.Message.{Message}
use Rattle.message_values.specs.declared.operation.Operation.{Operation}
use Rattle.message_values.specs.declared.operation.Operation.TheVariants.{UiActivate}
use Rattle.object_state.specs.declared.grant_states.Claim.{Claim}
use Rattle.object_state.specs.declared.grant_states.GrantState.{GrantState}
use Rattle.object_state.specs.declared.grant_states.GrantState.TheVariants.{Granting, Held, Revoking}
use Rattle.object_state.specs.declared.grant_faults.GrantFault.{GrantFault}
use Rattle.object_state.specs.declared.grant_faults.GrantFault.TheVariants.{NoToolSpace}
use Rattle.object_state.specs.Grants.{Event, Granted, Revoked, Lost, who, waiting}
use Rattle.object_state.specs.Frames.{Ui, after, answer}
use Rattle.container_model.specs.declared.grants.Tells.{Tells}
use Rattle.container_model.specs.declared.grants.Tells.TheVariants.{Gets, GivesUp}
use Rattle.container_model.specs.declared.record.Link.{Link}
use Rattle.container_model.specs.declared.record.Object.{Object}
use Rattle.container_model.specs.declared.record.Frame.{Frame}
use Rattle.container_model.specs.Record.{Record, asked_link, asked_sent, is_object, with_frame, with_object}

-- a frame after an event of its grant
abbrev pub moved : Frame → Event → Frame
moved frame e = record frame { ui = after frame.ui e }

-- the grant of whoever has the frame or is to get it
abbrev pub number_of : Option Claim → ℕ
number_of None = 0
number_of (Some claim) = claim.g

abbrev pub grant_of : GrantState → ℕ
grant_of state = number_of (who state)

-- Operations that are asked of objects by their numbers: the record, and what is sent.
pub record Requested : Type 0 where
  pub rec : Record
  pub sent : List Message

abbrev pub requested : Record → Operation → Option Object → Requested
requested r op None = record { rec = r; sent = [] }
requested r op (Some o) = record {
  rec = with_object r (record o { link = asked_link op o.link });
  sent = asked_sent op o.link;
}

abbrev pub request : Record → ℕ → Operation → Requested
request r n op = requested r op (find (is_object n) r.objects)

-- The frame passes to whoever waited for it.
abbrev pub passed_to : GrantState → GrantState → List Claim
passed_to (Revoking holder (Some next)) (Granting claim) = claim ∷ []
passed_to before later = []

abbrev pub further : Requested → Requested → Requested
further first next = record { rec = next.rec; sent = first.sent ++ next.sent }

-- they are told of their grants, one after the other
abbrev pub grant_each : Record → List Claim → Requested
grant_each r [] = record { rec = r; sent = [] }
grant_each r (claim ∷ claims) = further (request r claim.object (UiActivate claim.g))
    (grant_each (request r claim.object (UiActivate claim.g)).rec claims)

-- a frame's grant moves by an event; whoever waited may be granted it then
abbrev pub regrant : Record → ℕ → Frame → Event → Requested
regrant r f frame e = grant_each (with_frame r f (moved frame e)) (passed_to frame.ui.state (after frame.ui e).state)

-- What an answer tells of the frame's grant moves it: the object has the frame from now on, or it has given the frame
-- up. Only the activation that has the frame, or is to get it, gives it up: told by another, nothing happens to the
-- frame.
abbrev pub is_by : ℕ → Option Claim → Bool
is_by act None = false
is_by act (Some claim) = claim.act == act

abbrev pub event_of : GrantState → Tells → Option Event
event_of state (Gets g tools) = Some (Granted g tools)
event_of state (GivesUp act) = if is_by act (who state) then Some (Revoked (grant_of state)) else None

-- an object gets the frame without border space
abbrev pub lacks_space : Result Unit GrantFault → Bool
lacks_space (Ok told) = false
lacks_space (Err NoToolSpace) = true
lacks_space (Err fault) = false

-- What is told of the grant moves the object's frame.
pub record Regranted : Type 0 where
  pub rec : Record
  pub sent : List Message
  pub no_tools : Bool

abbrev pub as_it_was : Record → Regranted
as_it_was r = record { rec = r; sent = []; no_tools = false }

abbrev pub regranted_by : Record → ℕ → Frame → Option Event → Regranted
regranted_by r f frame None = as_it_was r
regranted_by r f frame (Some e) = record {
  rec = (regrant r f frame e).rec;
  sent = (regrant r f frame e).sent;
  no_tools = lacks_space (answer frame.ui e);
}

abbrev pub regranted_in : Record → ℕ → Tells → Option Frame → Regranted
regranted_in r f told None = as_it_was r
regranted_in r f told (Some frame) = regranted_by r f frame (event_of frame.ui.state told)

abbrev pub regranted : Record → ℕ → Option Tells → Regranted
regranted r f None = as_it_was r
regranted r f (Some told) = regranted_in r f told (nth r.frames f)

-- The end of a server: whoever of its objects waits for a frame waits no more, and what they have or are to get is
-- free.
abbrev pub is_hosted : ℕ → Option Link → Bool
is_hosted inc None = false
is_hosted inc (Some l) = l.inc == inc

abbrev pub is_hosted_object : ℕ → Option Object → Bool
is_hosted_object inc None = false
is_hosted_object inc (Some o) = is_hosted inc o.link

abbrev pub lost_by : ℕ → List Object → Ui → Option Claim → Ui
lost_by inc os ui None = ui
lost_by inc os ui (Some claim) = if is_hosted_object inc (find (is_object claim.object) os)
    then after ui (Lost claim.act) else ui

abbrev pub unwaited : ℕ → List Object → Ui → Ui
unwaited inc os ui = lost_by inc os ui (waiting ui.state)

abbrev pub freed : ℕ → List Object → Ui → Ui
freed inc os ui = lost_by inc os (unwaited inc os ui) (who ui.state)

abbrev pub freed_frame : ℕ → List Object → Frame → Frame
freed_frame inc os frame = record frame { ui = freed inc os frame.ui }

-- whoever waited on is granted what was freed, by rising frame
abbrev pub freed_claims : ℕ → List Object → List Frame → List Claim
freed_claims inc os [] = []
freed_claims inc os (frame ∷ frames) = passed_to (unwaited inc os frame.ui).state (freed inc os frame.ui).state
    ++ freed_claims inc os frames

abbrev pub free_grants : ℕ → List Object → Record → Requested
free_grants inc os r = grant_each (record r { frames = map (freed_frame inc os) r.frames })
    (freed_claims inc os r.frames)
