-- What verbs and closes ask of an object, and of its frame.
use Rattle.std.specs.Prelude.{◌+◌, ◌&&◌, ◌||◌, ◌++◌, ℕ, ℤ, Bool, true, false, not, List, [], ◌∷◌, map, Option, Some}
use Rattle.std.specs.Prelude.{None, Result, Ok, Err, if◌then◌else◌, nat_le}
use Rattle.message_values.specs.Found.{find, nth}
use Rattle.message_values.specs.declared.operation.Operation.{Operation}
use Rattle.message_values.specs.declared.operation.Operation.TheVariants.{InPlace, UiActivate, UiDeactivate}
use Rattle.message_values.specs.declared.operation.Operation.TheVariants.{InPlaceDeactivate, OpenWindow, Close}
use Rattle.object_state.specs.Verbs.{activates_ui, close_steps, steps, verb_of}
use Rattle.object_state.specs.declared.operations.CloseOption.{CloseOption}
use Rattle.object_state.specs.declared.object_states.ObjectState.{ObjectState}
use Rattle.object_state.specs.declared.verbs.Verb.{Verb}
use Rattle.object_state.specs.declared.verbs.Step.{Step}
use Rattle.object_state.specs.declared.verbs.Step.TheVariants as step
use Rattle.object_state.specs.declared.grant_states.Claim.{Claim}
use Rattle.object_state.specs.declared.grant_states.GrantState.{GrantState}
use Rattle.object_state.specs.declared.grant_states.GrantState.TheVariants.{Free, Held}
use Rattle.object_state.specs.Grants.{Ask}
use Rattle.container_model.specs.declared.record.Link.{Link}
use Rattle.container_model.specs.declared.record.Object.{Object}
use Rattle.container_model.specs.declared.record.Frame.{Frame}
use Rattle.container_model.specs.declared.fault.ContainerFault.{ContainerFault}
use Rattle.container_model.specs.declared.fault.ContainerFault.TheVariants.{NoSuch, Busy, NotRunning, InDoubt}
use Rattle.container_model.specs.declared.fault.ContainerFault.TheVariants.{NumbersSpent, WrongState}
use Rattle.container_model.specs.Record.{Record, Took, Asked, ask_each, acts, counts_none, has_numbers, is_busy}
use Rattle.container_model.specs.Record.{is_doubtful, is_moving, is_object, is_saving, link_has_numbers, quiet_answer}
use Rattle.container_model.specs.Record.{sends, unless, with_frame, with_object}
use Rattle.container_model.specs.Located.{located, ready}
use Rattle.container_model.specs.Grants.{Requested, grant_of, moved, request}

-- the operation of a step, under a grant where it takes one
abbrev pub operation_of : ℕ → Step → Operation
operation_of g step.InPlace = InPlace
operation_of g step.UiActivate = UiActivate g
operation_of g step.UiDeactivate = UiDeactivate
operation_of g step.InPlaceDeactivate = InPlaceDeactivate
operation_of g step.OpenWindow = OpenWindow
operation_of g (step.Close option) = Close option

-- steps that take the frame's menus and border, and steps that give them up
abbrev pub takes : List Step → Bool
takes [] = false
takes (step.UiActivate ∷ ss) = true
takes (s ∷ ss) = takes ss

abbrev pub gives_up : List Step → Bool
gives_up [] = false
gives_up (step.UiDeactivate ∷ ss) = true
gives_up (s ∷ ss) = gives_up ss

abbrev pub claim_of : Object → Link → ℕ → Claim
claim_of o l g = record { object = o.number; act = l.act; g = g }

-- Steps that don't take the frame are asked one after the other. Where they give it up, nobody waits for it.
abbrev pub left : Record → Frame → Object → Link → List Step → Record
left r frame o l steps = if gives_up steps
    then with_frame r o.frame (moved frame (Ask (claim_of o l (grant_of frame.ui.state)))) else r

abbrev pub stepped_link : ℕ → Link → List Step → Asked
stepped_link g l steps = ask_each l (map (operation_of g) steps)

abbrev pub leaving_made : Record → Frame → Object → Link → List Step → Took
leaving_made r frame o l steps = record {
  rec = with_object (left r frame o l steps) (record o { link = Some (stepped_link 0 l steps).link });
  answer = acts (sends (stepped_link 0 l steps).sent);
  counted = [];
}

-- Steps that take the frame draw a grant. A free frame is being granted; one that another object holds is given up
-- first, and meanwhile the object takes the steps before.
abbrev pub holder_of : GrantState → Option ℕ
holder_of (Held holder tools) = Some holder.object
holder_of state = None

abbrev pub revoked_at : Record → Option ℕ → Requested
revoked_at r None = record { rec = r; sent = [] }
revoked_at r (Some n) = request r n UiDeactivate

abbrev pub before_taking : List Step → List Step
before_taking [] = []
before_taking (step.UiActivate ∷ ss) = []
before_taking (s ∷ ss) = s ∷ before_taking ss

abbrev pub steps_now : GrantState → List Step → List Step
steps_now Free steps = steps
steps_now state steps = before_taking steps

-- the record with the grant drawn and claimed, and its holder told to give it up
abbrev pub claimed : Record → Frame → Object → Link → Record
claimed r frame o l = record (with_frame r o.frame (moved frame (Ask (claim_of o l (r.last_g + 1))))) {
  last_g =
      r.last_g + 1;
}

abbrev pub revoked : Record → Frame → Object → Link → Requested
revoked r frame o l = revoked_at (claimed r frame o l) (holder_of frame.ui.state)

abbrev pub taking_made : Record → Frame → Object → Link → List Step → Took
taking_made r frame o l steps =
    let asked = stepped_link (r.last_g + 1) l (steps_now frame.ui.state steps) in
    record {
      rec = with_object (revoked r frame o l).rec (record o { link = Some asked.link });
      answer = acts (sends ((revoked r frame o l).sent ++ asked.sent));
      counted = [];
    }

-- each activation that gets operations, now or once the frame is granted, has numbers left, and so have grants
abbrev pub object_has_numbers : ℕ → Option Object → Bool
object_has_numbers numbers None = true
object_has_numbers numbers (Some o) = link_has_numbers numbers o.link

abbrev pub holder_has_numbers : Record → Option ℕ → Bool
holder_has_numbers r None = true
holder_has_numbers r (Some n) = object_has_numbers r.numbers (find (is_object n) r.objects)

abbrev pub taking : Record → Frame → Object → Link → List Step → Result Took ContainerFault
taking r frame o l steps =
    unless (nat_le r.numbers r.last_g || not (holder_has_numbers r (holder_of frame.ui.state))) NumbersSpent
    (Ok (taking_made r frame o l steps))

abbrev pub stepping : Record → Frame → Object → Link → List Step → Result Took ContainerFault
stepping r frame o l steps = if takes steps then taking r frame o l steps else Ok (leaving_made r frame o l steps)

-- a verb that has nothing to do draws no number
abbrev pub verb_steps : Record → Frame → Object → Link → Option (List Step) → Result Took ContainerFault
verb_steps r frame o l None = Err WrongState
verb_steps r frame o l (Some []) = Ok (counts_none r quiet_answer)
verb_steps r frame o l (Some (s ∷ ss)) = unless (not (has_numbers r.numbers l)) NumbersSpent
    (stepping r frame o l (s ∷ ss))

abbrev pub steps_of : Option Verb → ObjectState → Option (List Step)
steps_of None state = None
steps_of (Some v) state = steps v state

abbrev pub verb_linked : Record → Frame → Object → Option Verb → Option Link → Result Took ContainerFault
verb_linked r frame o v None = Err NotRunning
verb_linked r frame o v (Some l) = verb_steps r frame o l (steps_of v l.states.object)

-- Verb: one that leads to menus and border has to wait while these pass from object to object.
abbrev pub wants_ui : Option Verb → Bool
wants_ui None = false
wants_ui (Some v) = activates_ui v

abbrev pub verb_framed : Record → Option Verb → Object → Frame → Result Took ContainerFault
verb_framed r v o frame = unless (wants_ui v && is_moving frame.ui.state) Busy (verb_linked r frame o v o.link)

abbrev pub verb : Record → ℕ → ℤ → Result Took ContainerFault
verb r n number = located r n (ready (verb_framed r (verb_of number)))

-- Close: an object that isn't passive takes the steps that hide it, and then ends.
abbrev pub close_steps_made : Record → Frame → Object → Link → Option (List Step) → Result Took ContainerFault
close_steps_made r frame o l None = Err WrongState
close_steps_made r frame o l (Some steps) = Ok (leaving_made r frame o l steps)

abbrev pub close_linked : Record → Frame → Object → CloseOption → Option Link → Result Took ContainerFault
close_linked r frame o option None = Err NotRunning
close_linked r frame o option (Some l) =
    unless (not (has_numbers r.numbers l)) NumbersSpent
    (close_steps_made r frame o l (close_steps option l.states.object))

abbrev pub close : Record → ℕ → CloseOption → Result Took ContainerFault
close r n option = located r n (ready (λ o frame. close_linked r frame o option o.link))
