-- A container's record, and what a step gives.
use Rattle.std.specs.Prelude.{◌≡◌, ◌+◌, ◌==◌, ◌&&◌, ◌||◌, ℕ, Bool, true, false, not, List, [], ◌∷◌, ◌++◌, length, map}
use Rattle.std.specs.Prelude.{Option, Some, None, is_some, Result, Err, IsOk, if◌then◌else◌, nat_lt}
use Rattle.message_values.specs.Found.{put, nth, set_nth}
use Rattle.message_values.specs.declared.message.Message.{Message}
use Rattle.message_values.specs.declared.message.Said.TheVariants.{Call}
use Rattle.message_values.specs.declared.operation.Operation.{Operation}
use Rattle.object_state.specs.declared.grant_states.GrantState.{GrantState}
use Rattle.object_state.specs.declared.grant_states.GrantState.TheVariants.{Granting, Revoking}
use Rattle.object_state.specs.declared.grant_states.Claim.{Claim}
use Rattle.object_state.specs.Grants.{waiting}
pub use Rattle.ole_model.specs.Layouts.{MOST_OBJECTS}
use Rattle.container_model.specs.declared.record.Link.{Link}
use Rattle.container_model.specs.declared.record.Object.{Object}
use Rattle.container_model.specs.declared.record.Frame.{Frame}
use Rattle.container_model.specs.declared.record.Phase.{Phase}
use Rattle.container_model.specs.declared.record.Phase.TheVariants.{Idle, Saving, HandingOff, Committing, InDoubt}
use Rattle.container_model.specs.declared.answer.Action.{Action}
use Rattle.container_model.specs.declared.answer.Action.TheVariants.{Send}
use Rattle.container_model.specs.declared.answer.Answer.{Answer}
use Rattle.container_model.specs.declared.answer.Done.{Done}
use Rattle.container_model.specs.declared.fault.ContainerFault.{ContainerFault}
use Rattle.container_model.specs.declared.fault.ContainerFault.TheVariants.{NoMemory}

-- The session, 0 until one is counted. The frames stand by their numbers, from 1, and so do the servers, each reaped or
-- not. Objects have numbers of their own. The last numbers of objects, of activations and of grants, and the greatest
-- number that may be drawn.
pub record Record : Type 0 where
  pub session : ℕ
  pub frames : List Frame
  pub objects : List Object
  pub servers : List Bool
  pub last_object : ℕ
  pub last_act : ℕ
  pub last_g : ℕ
  pub numbers : ℕ

-- a container begins without a session, frames, objects and servers
abbrev pub empty : ℕ → Record
empty numbers = record {
  session = 0;
  frames = [];
  objects = [];
  servers = [];
  last_object = 0;
  last_act = 0;
  last_g = 0;
  numbers = numbers;
}

-- how many frames there may be, and how many servers that aren't reaped; a frame has as many objects as a document may
abbrev pub MOST_FRAMES : ℕ
MOST_FRAMES = 8

abbrev pub MOST_SERVERS : ℕ
MOST_SERVERS = 8

-- an activation that gets operations must have so many numbers left
abbrev pub MARGIN : ℕ
MARGIN = 8

-- What a step gives: the record after it, the answer, and the contents that it counted.
pub record Took : Type 0 where
  pub rec : Record
  pub answer : Answer
  pub counted : List Done

-- a step that counts nothing
abbrev pub counts_none : Record → Answer → Took
counts_none r answer = record { rec = r; answer = answer; counted = [] }

abbrev pub quiet_answer : Answer
quiet_answer = record {
  frame = None;
  objects = [];
  server = None;
  taken = false;
  refused = None;
  no_tools = false;
  actions = [];
}

abbrev pub acts : List Action → Answer
acts actions = record quiet_answer { actions = actions }

-- how objects are found
abbrev pub is_object : ℕ → Object → Bool
is_object number o = o.number == number

abbrev pub is_link : ℕ → ℕ → Option Link → Bool
is_link inc act None = false
is_link inc act (Some l) = (l.inc == inc) && (l.act == act)

abbrev pub is_linked : ℕ → ℕ → Object → Bool
is_linked inc act o = is_link inc act o.link

-- the list without the first item that passes
abbrev pub without_first : {A : Type 0} → (A → Bool) → List A → List A
without_first test [] = []
without_first test (x ∷ xs) = if test x then xs else x ∷ without_first test xs

abbrev pub with_object : Record → Object → Record
with_object r o = record r { objects = put (is_object o.number) o r.objects }

abbrev pub with_frame : Record → ℕ → Frame → Record
with_frame r f frame = record r { frames = set_nth r.frames f frame }

-- a server that was started and isn't reaped
abbrev pub is_unreaped : Option Bool → Bool
is_unreaped None = false
is_unreaped (Some reaped) = not reaped

abbrev pub is_alive : Record → ℕ → Bool
is_alive r inc = is_unreaped (nth r.servers inc)

-- how many servers aren't reaped
abbrev pub count_alive : List Bool → ℕ
count_alive [] = 0
count_alive (reaped ∷ rest) = if reaped then count_alive rest else 1 + count_alive rest

-- how many objects a frame has
abbrev pub count_objects : ℕ → List Object → ℕ
count_objects f [] = 0
count_objects f (o ∷ os) = if o.frame == f then 1 + count_objects f os else count_objects f os

-- a frame that is saving, handing off or committing
abbrev pub is_saving : Phase → Bool
is_saving Idle = false
is_saving Saving = true
is_saving HandingOff = true
is_saving Committing = true
is_saving InDoubt = false

abbrev pub is_doubtful : Phase → Bool
is_doubtful InDoubt = true
is_doubtful phase = false

-- an object that has a pending operation (none waits without one), or waits for its frame's grant
abbrev pub is_asked : Option Link → Bool
is_asked None = false
is_asked (Some l) = is_some l.pending

abbrev pub is_claim : ℕ → Option Claim → Bool
is_claim number None = false
is_claim number (Some claim) = claim.object == number

abbrev pub is_busy : GrantState → Object → Bool
is_busy state o = is_asked o.link || is_claim o.number (waiting state)

-- a grant that is being given or taken back
abbrev pub is_moving : GrantState → Bool
is_moving (Granting claim) = true
is_moving (Revoking holder next) = true
is_moving state = false

-- an activation has numbers left for operations
abbrev pub has_numbers : ℕ → Link → Bool
has_numbers numbers l = not (nat_lt numbers (l.last + length l.waiting + MARGIN))

abbrev pub link_has_numbers : ℕ → Option Link → Bool
link_has_numbers numbers None = true
link_has_numbers numbers (Some l) = has_numbers numbers l

-- the call of this number that asks an activation for an operation, in the session of its server
abbrev pub call : Link → ℕ → Operation → Message
call l n op = record { session = l.session; said = Call l.inc l.act n op }

-- An operation is asked: at once where none is pending, else behind those that wait.
pub record Asked : Type 0 where
  pub link : Link
  pub sent : List Message

abbrev pub ask_at : Link → Operation → Option Operation → Asked
ask_at l op None = record {
  link = record l { last = l.last + 1; pending = Some op };
  sent = call l (l.last + 1) op ∷ [];
}
ask_at l op (Some before) = record { link = record l { waiting = l.waiting ++ op ∷ [] }; sent = [] }

abbrev pub ask : Link → Operation → Asked
ask l op = ask_at l op l.pending

-- operations that are asked one after the other
abbrev pub ask_further : Asked → Asked → Asked
ask_further first next = record { link = next.link; sent = first.sent ++ next.sent }

abbrev pub ask_each : Link → List Operation → Asked
ask_each l [] = record { link = l; sent = [] }
ask_each l (op ∷ ops) = ask_further (ask l op) (ask_each (ask l op).link ops)

-- the same in an object, if it isn't passive
abbrev pub asked_link : Operation → Option Link → Option Link
asked_link op None = None
asked_link op (Some l) = Some (ask l op).link

abbrev pub asked_sent : Operation → Option Link → List Message
asked_sent op None = []
asked_sent op (Some l) = (ask l op).sent

abbrev pub asked_object : ℕ → Operation → Object → Object
asked_object f op o = if o.frame == f then record o { link = asked_link op o.link } else o

-- what is sent where each object of a frame that isn't passive is asked
abbrev pub asked_all : ℕ → Operation → List Object → List Message
asked_all f op [] = []
asked_all f op (o ∷ os) = if o.frame == f then asked_sent op o.link ++ asked_all f op os else asked_all f op os

abbrev pub sends : List Message → List Action
sends ms = map Send ms

-- checks, in their order
abbrev pub unless : {A : Type 0} → Bool → ContainerFault → Result A ContainerFault → Result A ContainerFault
unless refused fault next = if refused then Err fault else next

-- A call answers what it is told to, or that no memory is left where it would have succeeded.
abbrev pub Refuses : {A : Type 0} → Result A ContainerFault → ContainerFault → Type 0
Refuses told NoMemory = IsOk told
Refuses told fault = told ≡ Err fault
