-- What holds of a container's record by itself, whatever is answered to it.
use Rattle.std.specs.Prelude.{◌≡◌, ◌≤◌, ◌<◌, ◌⊎◌, ℕ, Bool, true, false, List, [], ◌∷◌, length, nat_lt, Option, Some}
use Rattle.std.specs.Prelude.{None, Result, Ok, Err, IfSome, IsSomeAnd, IsOkAnd, is_some}
use Rattle.std.specs.List.{AllByRecursion}
use Rattle.message_values.specs.Found.{find, nth}
use Rattle.message_values.specs.Operations.{op_of}
use Rattle.message_values.specs.declared.operation.Operation.{Operation}
use Rattle.message_values.specs.declared.operation.Operation.TheVariants.{InitNew, Load, InPlace, UiActivate}
use Rattle.message_values.specs.declared.operation.Operation.TheVariants.{UiDeactivate, InPlaceDeactivate, OpenWindow}
use Rattle.message_values.specs.declared.operation.Operation.TheVariants.{Edit, Save, HandsOff, SaveCompleted}
use Rattle.message_values.specs.declared.operation.Operation.TheVariants.{SaveDropped, Close}
use Rattle.tree_streams.specs.Limits.{is_within}
use Rattle.ole_model.specs.CompObjs.{PAST_USER_TYPE}
use Rattle.cfb_file.specs.Refusals.{writable}
use Rattle.cfb_file.specs.declared.fault.WriteFault.TheVariants.{TooBig}
use Rattle.object_state.specs.Both as both
use Rattle.object_state.specs.Persists.{may_write}
use Rattle.object_state.specs.declared.operations.CloseOption.{CloseOption}
use Rattle.object_state.specs.declared.both_states.States.{States}
use Rattle.object_state.specs.declared.faults.StateFault.{StateFault}
use Rattle.object_state.specs.declared.persist_states.PersistState.{PersistState}
use Rattle.object_state.specs.declared.persist_states.PersistState.TheVariants.{Unset, Normal, NoScribble}
use Rattle.object_state.specs.declared.persist_states.PersistState.TheVariants as state
use Rattle.object_state.specs.declared.object_states.ObjectState.{ObjectState}
use Rattle.object_state.specs.declared.object_states.ObjectState.TheVariants.{Passive, Loaded, InPlaceActive}
use Rattle.tree_streams.specs.declared.stored.Stored.{Stored}
use Rattle.container_model.specs.declared.record.Link.{Link}
use Rattle.container_model.specs.declared.record.Object.{Object}
use Rattle.container_model.specs.declared.record.Frame.{Frame}
use Rattle.container_model.specs.declared.record.Phase.{Phase}
use Rattle.container_model.specs.declared.record.Phase.TheVariants.{Idle, Saving, HandingOff, Committing, InDoubt}
use Rattle.container_model.specs.declared.fault.ContainerFault.TheVariants.{Full}
use Rattle.container_model.specs.Record.{Record, MOST_OBJECTS, count_objects, empty, is_object, is_unreaped}
use Rattle.container_model.specs.Saves.{document_tree, frame_document, held_parts, image, is_document, kept, parts_in}
use Rattle.container_model.specs.Messages.{awaits_save}
pub use Rattle.container_queues.specs.Roles.{queue, queue_of}
use Rattle.container_queues.specs.Roles.{Role, Waiting, IsShown, Plays, SteadyGrant, role_in}

-- the states at the end of a queue, by both tables
abbrev pub stepped : Result States StateFault → Operation → Result States StateFault
stepped (Err refusal) op = Err refusal
stepped (Ok v) op = both.step v (op_of op)

abbrev pub ended : Result States StateFault → List Operation → Result States StateFault
ended outcome [] = outcome
ended outcome (op ∷ ops) = ended (stepped outcome op) ops

-- the states of an object whose first call was done and that wasn't closed
abbrev pub IsRunning : ObjectState → Type 0
IsRunning Passive = ⊥
IsRunning Loaded = ⊥
IsRunning state = Unit {0}

abbrev pub HasStorage : PersistState → Type 0
HasStorage Unset = ⊥
HasStorage state = Unit {0}

-- Where a queue ends: with its storage, but for a save that is under way, which is the last one then; under another
-- name the storage is given away before the commit. While no save is under way it may end with a close, which leaves
-- the object passive.
abbrev pub storage_by : Option (List ℕ) → PersistState
storage_by None = NoScribble
storage_by (Some name) = state.HandsOff

abbrev pub storage_in : Phase → Option (List ℕ) → PersistState
storage_in Idle asked = Normal
storage_in Saving asked = NoScribble
storage_in HandingOff asked = state.HandsOff
storage_in Committing asked = storage_by asked
storage_in InDoubt asked = storage_by asked

abbrev pub IsOfSave : Phase → ℕ → Option ℕ → Type 0
IsOfSave Idle k last_save = IfSome last_save (λ (j : ℕ). j ≤ k)
IsOfSave phase k last_save = last_save ≡ Some k

abbrev pub EndsAs : Phase → ObjectState → Type 0
EndsAs Idle Passive = Unit {0}
EndsAs phase state = IsRunning state

-- an object that waits for its frame is active in place then, and so is ready for the grant
abbrev pub EndsFor : Role → ObjectState → Type 0
EndsFor (Waiting g) InPlaceActive = Unit {0}
EndsFor (Waiting g) state = ⊥
EndsFor role state = Unit {0}

pub record EndsWell (phase : Phase) (asked : Option (List ℕ)) (k : ℕ) (role : Role) (v : States) : Type 0 where
  pub storage : v.persist.state ≡ storage_in phase asked
  pub last_save : IsOfSave phase k v.persist.last_save
  pub running : EndsAs phase v.object
  pub waits : EndsFor role v.object

-- an activation's first call gives it its storage, alone in the queue
abbrev pub IsBeginning : Operation → Type 0
IsBeginning (InitNew class) = Unit {0}
IsBeginning (Load class content) = Unit {0}
IsBeginning op = ⊥

pub record AtFirstCall (l : Link) : Type 0 where
  pub states : l.states ≡ both.loaded
  pub last : l.last ≡ 1
  pub alone : l.waiting ≡ []
  pub pending : IsSomeAnd l.pending IsBeginning

pub record PastFirstCall (v : States) : Type 0 where
  pub storage : HasStorage v.persist.state
  pub running : IsRunning v.object

-- no operation waits where none is pending
abbrev pub WaitsBehind : Option Operation → List Operation → Type 0
WaitsBehind None waiting = waiting ≡ []
WaitsBehind (Some op) waiting = Unit {0}

-- operations that stand in a queue: a content is asked for only while its frame is saving and until it is answered, a
-- storage only while its frame hands off, and the end of a save is told, and an object closed, only while none is under
-- way
abbrev pub IsTimely : Phase → Option Stored → Operation → Type 0
IsTimely phase saved (InitNew class) = Unit {0}
IsTimely phase saved (Load class content) = Unit {0}
IsTimely phase saved (Edit bytes) = Unit {0}
IsTimely phase saved (Save k) = (phase ≡ Saving) × (saved ≡ None)
IsTimely phase saved HandsOff = phase ≡ HandingOff
IsTimely phase saved (SaveCompleted k storage) = phase ≡ Idle
IsTimely phase saved (SaveDropped k) = phase ≡ Idle
IsTimely phase saved (Close option) = phase ≡ Idle
IsTimely phase saved InPlace = Unit {0}
IsTimely phase saved (UiActivate g) = Unit {0}
IsTimely phase saved UiDeactivate = Unit {0}
IsTimely phase saved InPlaceDeactivate = Unit {0}
IsTimely phase saved OpenWindow = Unit {0}

-- contents are answered while a frame is saving, and all are there from then on
abbrev pub IsSavedIn : Phase → Option Stored → Type 0
IsSavedIn Idle saved = saved ≡ None
IsSavedIn Saving saved = Unit {0}
IsSavedIn phase saved = is_some saved ≡ true

-- what may be stored, if there is a content
abbrev pub MayBeStored : Option Stored → Type 0
MayBeStored None = Unit {0}
MayBeStored (Some content) = is_within content ≡ true

-- an activation of an object of a frame in this phase, saved under this other name, if any, whose last save has number
-- k, and in whose grant it has this part
pub record SteadyLink (servers : List Bool) (last_act : ℕ) (phase : Phase) (asked : Option (List ℕ)) (k : ℕ)
    (role : Role) (l : Link) : Type 0 where
  -- its number was drawn, and its server was started and isn't reaped
  pub acts_drawn : l.act ≤ last_act
  pub servers_told : is_unreaped (nth servers l.inc) ≡ true
  pub first_call : AtFirstCall l ⊎ PastFirstCall l.states
  pub waits_behind : WaitsBehind l.pending l.waiting
  -- the tables take the whole queue
  pub queue_runs : IsOkAnd (ended (Ok l.states) (queue l)) (EndsWell phase asked k role)
  pub save_in_queue : AllByRecursion (IsTimely phase l.saved) (queue l)
  pub saved_known : IsSavedIn phase l.saved
  -- what it answered may be stored
  pub saved_within : MayBeStored l.saved
  -- its state and its queue are as its part in the frame's grant says
  pub shown : IsShown role l.states.object
  pub plays : Plays role (queue l)

-- an object: its number was drawn, its frame is there, and a document may hold it
pub record SteadyObject (r : Record) (o : Object) : Type 0 where
  pub drawn : o.number ≤ r.last_object
  pub within : is_within o.work ≡ true
  pub user_type : nat_lt (length o.user_type) PAST_USER_TYPE ≡ true
  pub linked : IsSomeAnd (nth r.frames o.frame)
      (λ (frame : Frame). IfSome o.link (SteadyLink r.servers r.last_act frame.phase frame.asked frame.k
      (role_in frame.ui.state o.number)))

-- a frame: no name is asked for while no save is under way, and one is while it hands off
abbrev pub IsAskedIn : Phase → Option (List ℕ) → Type 0
IsAskedIn Idle asked = asked ≡ None
IsAskedIn HandingOff asked = is_some asked ≡ true
IsAskedIn phase asked = Unit {0}

pub record SteadyFrame (frame : Frame) : Type 0 where
  pub asked : IsAskedIn frame.phase frame.asked

-- two objects: the first was made before the second, and they have no activation in common
pub record InOrder (o p : Object) : Type 0 where
  pub rising : o.number < p.number
  pub apart : IfSome o.link (λ (l : Link). IfSome p.link (λ (m : Link). l.act ≡ m.act → ⊥))

abbrev pub EachPair : {A : Type 0} → (A → A → Type 0) → List A → Type 0
EachPair R [] = Unit {0}
EachPair R (x ∷ xs) = AllByRecursion (R x) xs × EachPair R xs

-- the record of a container: no frame has more objects than a document may have, and each frame's grant is of its
-- objects
pub record Steady (r : Record) : Type 0 where
  pub frames : AllByRecursion SteadyFrame r.frames
  pub objects : AllByRecursion (SteadyObject r) r.objects
  pub order : EachPair InOrder r.objects
  pub count : (f : ℕ) → count_objects f r.objects ≤ MOST_OBJECTS
  pub grants : (f : ℕ) (frame : Frame) → nth r.frames f ≡ Some frame → SteadyGrant r f frame.ui.state

-- Laws: it holds from the start, and what follows from it.
abbrev pub SteadyFromTheStart : Type 0
SteadyFromTheStart = (numbers : ℕ) → Steady (empty numbers)

-- a commit that is asked, or that failed and isn't resolved
abbrev pub IsUnsettled : Phase → Type 0
IsUnsettled phase = (phase ≡ Committing) ⊎ (phase ≡ InDoubt)

-- what is committed is, for each object that isn't passive, the content that it answered in this save
abbrev pub CommitsAnsweredContents : Type 0
CommitsAnsweredContents = (r : Record) (n : ℕ) (o : Object) (l : Link) (frame : Frame) → Steady r
    → find (is_object n) r.objects ≡ Some o → o.link ≡ Some l → nth r.frames o.frame ≡ Some frame
    → IsUnsettled frame.phase → (content : Stored) × (l.saved ≡ Some content) × (kept o ≡ content)

-- an activation is of one object
abbrev pub OneObjectAnActivation : Type 0
OneObjectAnActivation = (r : Record) (n m : ℕ) (o p : Object) (l k : Link) → Steady r
    → find (is_object n) r.objects ≡ Some o → find (is_object m) r.objects ≡ Some p → o.link ≡ Some l
    → p.link ≡ Some k → l.act ≡ k.act → n ≡ m

-- A close ends its queue, in a frame that is idle: the content that it answers comes under a storage that may be
-- written into, while none is asked for and none was answered.
pub record IsOpenWhileClosing (l : Link) : Type 0 where
  pub storage : may_write l.states.persist.state ≡ true
  pub running : IsRunning l.states.object
  pub last : l.waiting ≡ []
  pub unasked : awaits_save l ≡ false
  pub unsaved : l.saved ≡ None

abbrev pub ClosesAreOpen : Type 0
ClosesAreOpen = (r : Record) (test : Object → Bool) (o : Object) (l : Link) (option : CloseOption) → Steady r
    → find test r.objects ≡ Some o → o.link ≡ Some l → l.pending ≡ Some (Close option) → IsOpenWhileClosing l

-- what a frame has is a document
abbrev pub DocumentsHold : Type 0
DocumentsHold = (r : Record) (f : ℕ) → Steady r → is_document (held_parts (parts_in f r.objects)) ≡ true

-- so there is no room for a document only where its tree is past what a file holds
abbrev pub FullByTheFileAlone : Type 0
FullByTheFileAlone = (r : Record) (f : ℕ) → Steady r → image r f ≡ Err Full
    → (frame : Frame) × (nth r.frames f ≡ Some frame)
    × (writable (document_tree (frame_document frame (parts_in f r.objects))) ≡ Err TooBig)
