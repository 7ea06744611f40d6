-- Laws above the tables, over whole runs.
use Rattle.std.specs.Prelude.{◌≡◌, ◌⊎◌, ℕ, true, false, List, [], ◌∷◌, map, Some, Result, Ok, Err}
use Rattle.std.specs.List.{All}
use Rattle.object_state.specs.declared.operations.Op.{Op}
use Rattle.object_state.specs.declared.operations.CloseOption.{CloseOption}
use Rattle.object_state.specs.declared.persist_states.PersistState.{PersistState}
use Rattle.object_state.specs.declared.persist_states.PersistState.TheVariants.{Unset, Normal, NoScribble}
use Rattle.object_state.specs.declared.persist_states.PersistState.TheVariants as state
use Rattle.object_state.specs.declared.persist_states.Persist.{Persist}
use Rattle.object_state.specs.declared.object_states.ObjectState.{ObjectState}
use Rattle.object_state.specs.declared.object_states.ObjectState.TheVariants.{Passive, Running, InPlaceActive, UiActive}
use Rattle.object_state.specs.declared.object_states.ObjectState.TheVariants.{Open}
use Rattle.object_state.specs.declared.verbs.Verb.{Verb}
use Rattle.object_state.specs.declared.verbs.Verb.TheVariants.{Primary, Show, Hide, InPlaceActivate}
use Rattle.object_state.specs.declared.verbs.Verb.TheVariants as verb
use Rattle.object_state.specs.declared.verbs.Step.{Step}
use Rattle.object_state.specs.declared.faults.StateFault.{StateFault}
use Rattle.object_state.specs.Persists.{may_write, ended_save}
use Rattle.object_state.specs.Persists as persist
use Rattle.object_state.specs.Objects as object
use Rattle.object_state.specs.Verbs.{steps, close_steps, op_of}

-- the operation ends the last save
abbrev pub EndsSave : Persist → Op → Type 0
EndsSave p op = (k : ℕ) × (p.last_save ≡ Some k) × (ended_save op ≡ Some k)

-- storage that an object may write into was given to it just now, or came back as its last save ended
abbrev pub NormalAgain : Type 0
NormalAgain = (p q : Persist) (op : Op) → persist.step p op ≡ Ok q → may_write p.state ≡ false
    → may_write q.state ≡ true → (p.state ≡ Unset) ⊎ EndsSave p op

-- what an operation makes of a state that it may be refused in
abbrev pub kept : Persist → Result Persist StateFault → Persist
kept p (Ok q) = q
kept p (Err refusal) = p

abbrev pub after : Persist → List Op → Persist
after p [] = p
after p (op ∷ ops) = after (kept p (persist.step p op)) ops

-- the object's storage is with its container
abbrev pub IsAway : PersistState → Type 0
IsAway s = (s ≡ NoScribble) ⊎ (s ≡ state.HandsOff)

-- storage that is with the container stays there, unwritten, whatever operations come, until one ends
-- the last save
abbrev pub AwayUntilEnded : Type 0
AwayUntilEnded = (p : Persist) (ops : List Op) → IsAway p.state → All (λ op. ¬ EndsSave p op) ops
    → IsAway (after p ops).state × (may_write (after p ops).state ≡ false)

-- the state after a list of operations, none of them refused
abbrev pub then_run : List Op → Result ObjectState StateFault → Result ObjectState StateFault
then_run [] r = r
then_run (op ∷ ops) (Err refusal) = Err refusal
then_run (op ∷ ops) (Ok s) = then_run ops (object.step s op)

-- where a verb leads
abbrev pub goal_of : Verb → ObjectState
goal_of Primary = UiActive
goal_of Show = UiActive
goal_of verb.Open = Open
goal_of Hide = Running
goal_of verb.UiActivate = UiActive
goal_of InPlaceActivate = InPlaceActive

-- the table of verbs fits that of the states: from a state that takes the verb no operation is refused,
-- and they end where the verb leads
abbrev pub VerbsLead : Type 0
VerbsLead = (v : Verb) (s : ObjectState) (ts : List Step) (g : ℕ) → steps v s ≡ Some ts
    → then_run (map (op_of g) ts) (Ok s) ≡ Ok (goal_of v)

-- and so do those of a close
abbrev pub ClosesEnd : Type 0
ClosesEnd = (option : CloseOption) (s : ObjectState) (ts : List Step) (g : ℕ) → close_steps option s ≡ Some ts
    → then_run (map (op_of g) ts) (Ok s) ≡ Ok Passive
