-- What a command makes of a record, a case a shape. A proof about what commands make goes by these, so a command that
-- makes what another one makes already needs no case of its own there.
use Rattle.std.specs.Prelude.{◌≡◌, ◌≢◌, ◌<◌, ◌+◌, ◌&&◌, ℕ, true, false, List, [], ◌∷◌, length, nat_lt, Option, Some}
use Rattle.std.specs.Prelude.{None}
use Rattle.std.specs.Str.{bytes_eq}
use Rattle.tree_streams.specs.declared.area.Area.{Area}
use Rattle.object_state.specs.Verbs.{activates_ui, close_steps, steps}
use Rattle.object_state.specs.declared.object_states.ObjectState.{ObjectState}
use Rattle.object_state.specs.declared.operations.CloseOption.{CloseOption}
use Rattle.object_state.specs.declared.verbs.Step.{Step}
use Rattle.object_state.specs.declared.verbs.Verb.{Verb}
use Rattle.container_model.specs.declared.answer.Action.TheVariants.{End}
use Rattle.container_model.specs.declared.command.Command.{Command}
use Rattle.container_model.specs.declared.command.Command.TheVariants as command
use Rattle.container_model.specs.declared.command.ObjectKind.{ObjectKind}
use Rattle.container_model.specs.declared.record.Frame.{Frame}
use Rattle.container_model.specs.declared.record.Link.{Link}
use Rattle.container_model.specs.declared.record.Object.{Object}
use Rattle.container_model.specs.Commands.{MOST_EDIT, delete_made, insert_made, is_named_beside, kind_of, new_made}
use Rattle.container_model.specs.Commands.{run_made, save_made, start_made}
use Rattle.container_model.specs.Record.{Record, Took, acts, counts_none, has_numbers, is_alive, is_moving}
use Rattle.container_model.specs.Record.{quiet_answer}
use Rattle.container_model.specs.Verbs.{holder_has_numbers, holder_of, leaving_made, takes, taking_made}
use Rattle.container_steady.specs.Taken.{IsInserted, IsNew, IsRaised, IsReadyAt, IsRun, IsRunningAt, IsSaved, IsStarted}
use Rattle.container_steady.specs.Taken.{IsTakenAs, edited}

-- another name that a save asks for is one that no other frame bears or asked for, and not the frame's own
abbrev pub IsOtherName : Record → ℕ → Frame → Option (List ℕ) → Type 0
IsOtherName r f frame None = Unit {0}
IsOtherName r f frame (Some name) = (is_named_beside f name 1 r.frames ≡ false) × (bytes_eq frame.name name ≡ false)

-- steps that leave the frame to whoever has it: the row of a table for an object in this state
pub data IsRow (s : ObjectState) (ts : List Step) : Type 0 where
  row_of_verb : (v : Verb) → steps v s ≡ Some ts → takes ts ≡ false → IsRow s ts
  row_of_close : (option : CloseOption) → close_steps option s ≡ Some ts → IsRow s ts

-- steps that take the frame: the row of a verb's table, for which the frame isn't passed on just now, and numbers are
-- left
pub record IsTaking (r : Record) (frame : Frame) (o : Object) (l : Link) (ts : List Step) : Type 0 where
  pub verb : Verb
  pub still : (activates_ui verb && is_moving frame.ui.state) ≡ false
  pub row : steps verb l.states.object ≡ Some ts
  pub taken : takes ts ≡ true
  pub numbers : has_numbers r.numbers l ≡ true
  pub grants : r.last_g < r.numbers
  pub holder : holder_has_numbers r (holder_of frame.ui.state) ≡ true

-- The session that a save raises its document to, if any. Where the container has none, only the first frame is saved,
-- under its name, and its document's session is raised by one. Where it has one, no save raises any.
abbrev pub IsRaising : Record → ℕ → Frame → Option (List ℕ) → Option ℕ → Type 0
IsRaising r f frame name None = r.session ≢ 0
IsRaising r f frame name (Some raised) = (f ≡ 1) × (name ≡ None) × IsRaised r frame × (raised ≡ frame.session + 1)

-- What is made, and the objects that get a new activation by it.
pub data IsMade (r : Record) (t : Took) : List ℕ → Type 0 where
  makes_nothing : counts_none r quiet_answer ≡ t → IsMade r t []
  makes_frame : (name : List ℕ) (w h : ℕ) → IsNew r name w h → new_made r name w h ≡ t → IsMade r t []
  makes_object : (f : ℕ) (kind : ObjectKind) (area : Area) → IsInserted r f area
      → insert_made r f (kind_of kind) area ≡ t → IsMade r t []
  makes_fewer : (n : ℕ) (at : IsReadyAt r n) → at.object.link ≡ None → delete_made r at.object ≡ t → IsMade r t []
  makes_server : IsStarted r → start_made r ≡ t → IsMade r t []
  makes_end : (inc : ℕ) → is_alive r inc ≡ true → counts_none r (acts (End inc ∷ [])) ≡ t → IsMade r t []
  makes_activation : (n inc : ℕ) (at : IsReadyAt r n) → IsRun r at.object inc → run_made r at.object inc ≡ t
      → IsMade r t (n ∷ [])
  makes_edit : (n : ℕ) (bytes : List ℕ) (go : IsRunningAt r n) → nat_lt MOST_EDIT (length bytes) ≡ false
      → has_numbers r.numbers go.link ≡ true → edited r go.at.object go.link bytes ≡ t → IsMade r t []
  makes_save : (f : ℕ) (raised : Option ℕ) (name : Option (List ℕ)) (at : IsSaved r f)
      → IsRaising r f at.frame name raised → IsOtherName r f at.frame name → save_made r f at.frame raised name ≡ t
      → IsMade r t []
  makes_steps : (n : ℕ) (go : IsRunningAt r n) (ts : List Step) → has_numbers r.numbers go.link ≡ true
      → IsRow go.link.states.object ts → leaving_made r go.at.frame go.at.object go.link ts ≡ t → IsMade r t []
  makes_taking : (n : ℕ) (go : IsRunningAt r n) (ts : List Step) → IsTaking r go.at.frame go.at.object go.link ts
      → taking_made r go.at.frame go.at.object go.link ts ≡ t → IsMade r t []

-- the objects that a command gives a new activation
abbrev pub run_by : Command → List ℕ
run_by (command.Run n inc) = n ∷ []
run_by c = []

-- Law: what a command that is taken makes is one of these.
abbrev pub TakenIsMade : Type 0
TakenIsMade = (r : Record) (c : Command) (t : Took) → IsTakenAs r t c → IsMade r t (run_by c)
