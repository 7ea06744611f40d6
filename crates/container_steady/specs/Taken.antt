-- What holds where a command is taken, and what it made: a case a command.
use Rattle.std.specs.Prelude.{◌≡◌, ◌≢◌, ◌<◌, ◌+◌, ◌&&◌, ℕ, ℤ, true, false, List, [], ◌∷◌, length, nat_lt, Some, None}
use Rattle.std.specs.Prelude.{Ok}
use Rattle.std.specs.Str.{bytes_eq}
use Rattle.message_values.specs.Found.{find, nth}
use Rattle.message_values.specs.declared.operation.Operation.TheVariants.{Edit}
use Rattle.tree_streams.specs.declared.area.Area.{Area}
use Rattle.object_state.specs.Verbs.{activates_ui, close_steps, steps, verb_of}
use Rattle.object_state.specs.declared.operations.CloseOption.{CloseOption}
use Rattle.object_state.specs.declared.verbs.Step.{Step}
use Rattle.object_state.specs.declared.verbs.Verb.{Verb}
use Rattle.object_state.specs.Grants.{waiting}
use Rattle.container_model.specs.declared.answer.Action.TheVariants.{End}
use Rattle.container_model.specs.declared.command.Command.{Command}
use Rattle.container_model.specs.declared.command.Command.TheVariants as command
use Rattle.container_model.specs.declared.command.ObjectKind.{ObjectKind}
use Rattle.container_model.specs.declared.record.Frame.{Frame}
use Rattle.container_model.specs.declared.record.Link.{Link}
use Rattle.container_model.specs.declared.record.Object.{Object}
use Rattle.container_model.specs.declared.record.Phase.TheVariants.{Idle}
use Rattle.container_model.specs.Record.{Record, Took, MARGIN, MOST_FRAMES, MOST_OBJECTS, MOST_SERVERS, acts, ask}
use Rattle.container_model.specs.Record.{count_alive, count_objects, counts_none, has_numbers, is_alive, is_asked}
use Rattle.container_model.specs.Record.{is_claim, is_moving, is_object, quiet_answer, sends, with_object}
use Rattle.container_model.specs.Commands.{MOST_EDIT, all_have_numbers, any_busy, delete_made, insert_made}
use Rattle.container_model.specs.Commands.{is_empty_area, is_known_class, is_named, is_named_beside, is_size, kind_of}
use Rattle.container_model.specs.Commands.{new_made, on_command, run_made, save_made, start_made}
use Rattle.container_model.specs.Verbs.{holder_has_numbers, holder_of, leaving_made, takes, taking_made}

-- An object of this number and its frame are there, the frame is idle, and the object neither has a pending call nor
-- waits for the frame.
pub record IsReadyAt (r : Record) (n : ℕ) : Type 0 where
  pub object : Object
  pub frame : Frame
  pub found : find (is_object n) r.objects ≡ Some object
  pub own : find (is_object object.number) r.objects ≡ Some object
  pub inside : nth r.frames object.frame ≡ Some frame
  pub idle : frame.phase ≡ Idle
  pub quiet : is_asked object.link ≡ false
  pub unclaimed : is_claim object.number (waiting frame.ui.state) ≡ false

-- it isn't passive
pub record IsRunningAt (r : Record) (n : ℕ) : Type 0 where
  pub at : IsReadyAt r n
  pub link : Link
  pub linked : at.object.link ≡ Some link

-- the object's link is asked for an edit
abbrev pub edited : Record → Object → Link → List ℕ → Took
edited r o l bytes = record {
  rec = with_object r (record o { link = Some (ask l (Edit bytes)).link });
  answer = acts (sends (ask l (Edit bytes)).sent);
  counted = [];
}

pub record IsNew (r : Record) (name : List ℕ) (w h : ℕ) : Type 0 where
  pub unnamed : is_named name r.frames ≡ false
  pub size : is_size w h ≡ true
  pub few : length r.frames < MOST_FRAMES
  pub numbers : length r.frames < r.numbers

pub record IsInserted (r : Record) (f : ℕ) (area : Area) : Type 0 where
  pub frame : Frame
  pub there : nth r.frames f ≡ Some frame
  pub idle : frame.phase ≡ Idle
  pub cells : is_empty_area area ≡ false
  pub few : count_objects f r.objects < MOST_OBJECTS
  pub numbers : r.last_object < r.numbers

pub record IsStarted (r : Record) : Type 0 where
  pub few : count_alive r.servers < MOST_SERVERS
  pub numbers : length r.servers < r.numbers
  pub session : r.session ≢ 0

pub record IsRun (r : Record) (o : Object) (inc : ℕ) : Type 0 where
  pub alive : is_alive r inc ≡ true
  pub passive : o.link ≡ None
  pub known : is_known_class o.class ≡ true
  pub margin : nat_lt r.numbers MARGIN ≡ false
  pub numbers : r.last_act < r.numbers

pub record IsSaved (r : Record) (f : ℕ) : Type 0 where
  pub frame : Frame
  pub there : nth r.frames f ≡ Some frame
  pub idle : frame.phase ≡ Idle
  pub still : is_moving frame.ui.state ≡ false
  pub quiet : any_busy f frame.ui.state r.objects ≡ false
  pub numbers : frame.k < r.numbers
  pub calls : all_have_numbers f r.numbers r.objects ≡ true

-- a frame's session may be raised for the container: it has none yet, and a number is left
pub record IsRaised (r : Record) (frame : Frame) : Type 0 where
  pub none : r.session ≡ 0
  pub numbers : frame.session < r.numbers

-- what a verb comes to: nothing, steps that leave the frame to whoever has it, or steps that take it
pub data IsStepped (r : Record) (frame : Frame) (o : Object) (l : Link) (ts : List Step) (t : Took) : Type 0 where
  steps_nothing : ts ≡ [] → counts_none r quiet_answer ≡ t → IsStepped r frame o l ts t
  steps_leave : has_numbers r.numbers l ≡ true → takes ts ≡ false → leaving_made r frame o l ts ≡ t
      → IsStepped r frame o l ts t
  steps_take : has_numbers r.numbers l ≡ true → takes ts ≡ true → r.last_g < r.numbers
      → holder_has_numbers r (holder_of frame.ui.state) ≡ true → taking_made r frame o l ts ≡ t
      → IsStepped r frame o l ts t

pub record IsVerb (r : Record) (frame : Frame) (o : Object) (l : Link) (number : ℤ) (t : Took) : Type 0 where
  pub verb : Verb
  pub named : verb_of number ≡ Some verb
  pub still : (activates_ui verb && is_moving frame.ui.state) ≡ false
  pub ts : List Step
  pub row : steps verb l.states.object ≡ Some ts
  pub stepped : IsStepped r frame o l ts t

-- a command that is taken
pub data IsTakenAs (r : Record) (t : Took) : Command → Type 0 where
  as_new : (name : List ℕ) (w h : ℕ) → IsNew r name w h → new_made r name w h ≡ t → IsTakenAs r t (command.New name w h)
  as_insert : (f : ℕ) (kind : ObjectKind) (area : Area) → IsInserted r f area
      → insert_made r f (kind_of kind) area ≡ t → IsTakenAs r t (command.Insert f kind area)
  as_start : IsStarted r → start_made r ≡ t → IsTakenAs r t command.Start
  as_run : (n inc : ℕ) (at : IsReadyAt r n) → IsRun r at.object inc → run_made r at.object inc ≡ t
      → IsTakenAs r t (command.Run n inc)
  as_edit : (n : ℕ) (bytes : List ℕ) (go : IsRunningAt r n) → nat_lt MOST_EDIT (length bytes) ≡ false
      → has_numbers r.numbers go.link ≡ true → edited r go.at.object go.link bytes ≡ t
      → IsTakenAs r t (command.Edit n bytes)
  as_session : (at : IsSaved r 1) → IsRaised r at.frame → save_made r 1 at.frame (Some (at.frame.session + 1)) None
      ≡ t → IsTakenAs r t command.Session
  as_save : (f : ℕ) (at : IsSaved r f) → r.session ≢ 0 → save_made r f at.frame None None ≡ t
      → IsTakenAs r t (command.Save f)
  as_save_as : (f : ℕ) (name : List ℕ) (at : IsSaved r f) → r.session ≢ 0
      → is_named_beside f name 1 r.frames ≡ false → bytes_eq at.frame.name name ≡ false
      → save_made r f at.frame None (Some name) ≡ t → IsTakenAs r t (command.SaveAs f name)
  as_delete : (n : ℕ) (at : IsReadyAt r n) → at.object.link ≡ None → delete_made r at.object ≡ t
      → IsTakenAs r t (command.Delete n)
  as_kill : (inc : ℕ) → is_alive r inc ≡ true → counts_none r (acts (End inc ∷ [])) ≡ t
      → IsTakenAs r t (command.Kill inc)
  as_close : (n : ℕ) (option : CloseOption) (go : IsRunningAt r n) (ts : List Step)
      → has_numbers r.numbers go.link ≡ true → close_steps option go.link.states.object ≡ Some ts
      → leaving_made r go.at.frame go.at.object go.link ts ≡ t → IsTakenAs r t (command.Close n option)
  as_verb : (n : ℕ) (number : ℤ) (go : IsRunningAt r n) → IsVerb r go.at.frame go.at.object go.link number t
      → IsTakenAs r t (command.Verb n number)

-- Law: each command that is taken is taken so.
abbrev pub CommandsAreTakenSo : Type 0
CommandsAreTakenSo = (r : Record) (c : Command) (t : Took) → on_command r c ≡ Ok t → IsTakenAs r t c
