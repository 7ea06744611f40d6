-- What a container does with a command of a user.
use Rattle.std.specs.Prelude.{◌+◌, ◌==◌, ◌&&◌, ◌||◌, ◌++◌, ℕ, Bool, true, false, not, List, [], ◌∷◌, length, map}
use Rattle.std.specs.Prelude.{Option, Some, None, is_some, Result, Ok, Err, if◌then◌else◌, nat_le, nat_lt, codes}
use Rattle.std.specs.Str.{bytes_eq}
use Rattle.message_values.specs.Found.{find, put, nth, set_nth}
use Rattle.message_values.specs.declared.operation.Operation.{Operation}
use Rattle.message_values.specs.declared.operation.Operation.TheVariants.{InitNew, Load, Edit, Save}
use Rattle.object_state.specs.Both.{loaded}
use Rattle.object_state.specs.Frames.{fresh}
use Rattle.object_state.specs.declared.grant_states.GrantState.{GrantState}
use Rattle.tree_streams.specs.declared.stored.Stored.{Stored}
use Rattle.tree_streams.specs.declared.streams.NamedStream.{NamedStream}
use Rattle.object_core.specs.Kinds.{Kind, Note, Table, Drawing, class_of}
use Rattle.tree_streams.specs.declared.area.Area.{Area}
use Rattle.container_model.specs.declared.record.Link.{Link}
use Rattle.container_model.specs.declared.record.Object.{Object}
use Rattle.container_model.specs.declared.record.Frame.{Frame}
use Rattle.container_model.specs.declared.record.Phase.TheVariants.{Idle, Saving}
use Rattle.container_model.specs.declared.command.ObjectKind.{ObjectKind}
use Rattle.container_model.specs.declared.command.ObjectKind.TheVariants as chosen
use Rattle.container_model.specs.declared.command.Command.{Command}
use Rattle.container_model.specs.declared.command.Command.TheVariants as command
use Rattle.container_model.specs.declared.answer.Action.TheVariants.{Start, End}
use Rattle.container_model.specs.declared.fault.ContainerFault.{ContainerFault}
use Rattle.container_model.specs.declared.fault.ContainerFault.TheVariants.{NoSuch, Busy, NotRunning, InDoubt, Full}
use Rattle.container_model.specs.declared.fault.ContainerFault.TheVariants.{NumbersSpent, WrongState, UnknownClass}
use Rattle.container_model.specs.Record.{Record, Took, MOST_FRAMES, MOST_OBJECTS, MOST_SERVERS, MARGIN, quiet_answer}
use Rattle.container_model.specs.Record.{acts, call, sends, is_object, is_alive, is_busy, is_moving, is_saving}
use Rattle.container_model.specs.Record.{is_doubtful, count_alive, count_objects, counts_none, without_first}
use Rattle.container_model.specs.Record.{has_numbers, link_has_numbers, asked_link, asked_sent, asked_object, asked_all}
use Rattle.container_model.specs.Record.{unless, with_object}
use Rattle.container_model.specs.Located.{located, ready}
use Rattle.container_model.specs.Grants.{Requested}
use Rattle.container_model.specs.Saves.{settle, settle_actions}
use Rattle.container_model.specs.HandOffs.{hand_off_in}
use Rattle.container_model.specs.Verbs.{close, verb}

-- New: a name that no frame bears or asked for, a size of 1 to 200 by 1 to 100 cells.
abbrev pub is_name : List ℕ → Option (List ℕ) → Bool
is_name name None = false
is_name name (Some asked) = bytes_eq asked name

abbrev pub is_named : List ℕ → List Frame → Bool
is_named name [] = false
is_named name (frame ∷ frames) = if bytes_eq frame.name name || is_name name frame.asked then true
    else is_named name frames

abbrev pub is_size : ℕ → ℕ → Bool
is_size w h = nat_le 1 w && nat_le w 200 && nat_le 1 h && nat_le h 100

abbrev pub new_frame : List ℕ → ℕ → ℕ → Frame
new_frame name w h = record {
  name = name;
  asked = None;
  k = 0;
  ui = fresh w h;
  stored = false;
  session = 0;
  raised = None;
  phase = Idle;
}

abbrev pub new_made : Record → List ℕ → ℕ → ℕ → Took
new_made r name w h = record {
  rec = record r { frames = r.frames ++ new_frame name w h ∷ [] };
  answer = record quiet_answer { frame = Some (length r.frames + 1) };
  counted = [];
}

abbrev pub new : Record → List ℕ → ℕ → ℕ → Result Took ContainerFault
new r name w h =
    unless (is_named name r.frames) Busy
    (unless (not (is_size w h)) WrongState
    (unless (nat_le MOST_FRAMES (length r.frames)) Full
    (unless (nat_le r.numbers (length r.frames)) NumbersSpent
    (Ok (new_made r name w h)))))

-- Insert: a passive object without content.
abbrev pub kind_of : ObjectKind → Kind
kind_of chosen.Note = Note
kind_of chosen.Table = Table
kind_of chosen.Drawing = Drawing

abbrev pub user_type : Kind → List ℕ
user_type Note = codes "Note"
user_type Table = codes "Table"
user_type Drawing = codes "Drawing"

abbrev pub nothing : Stored
nothing = record { streams = []; picture = [] }

abbrev pub new_object : ℕ → ℕ → Kind → Area → Object
new_object number f kind area = record {
  number = number;
  frame = f;
  class = class_of kind;
  user_type = user_type kind;
  area = area;
  work = nothing;
  link = None;
}

abbrev pub insert_made : Record → ℕ → Kind → Area → Took
insert_made r f kind area = record {
  rec = record r {
    objects = r.objects ++ new_object (r.last_object + 1) f kind area ∷ [];
    last_object = r.last_object + 1;
  };
  answer = record quiet_answer { objects = (r.last_object + 1) ∷ [] };
  counted = [];
}

abbrev pub is_empty_area : Area → Bool
is_empty_area area = (area.w == 0) || (area.h == 0)

abbrev pub insert_into : Record → ℕ → Kind → Area → Result Took ContainerFault
insert_into r f kind area =
    unless (nat_le MOST_OBJECTS (count_objects f r.objects)) Full
    (unless (nat_le r.numbers r.last_object) NumbersSpent
    (Ok (insert_made r f kind area)))

abbrev pub insert_at : Record → ℕ → Kind → Area → Option Frame → Result Took ContainerFault
insert_at r f kind area None = Err NoSuch
insert_at r f kind area (Some frame) =
    unless (is_doubtful frame.phase) InDoubt
    (unless (is_saving frame.phase) Busy
    (unless (is_empty_area area) WrongState
    (insert_into r f kind area)))

abbrev pub insert : Record → ℕ → Kind → Area → Result Took ContainerFault
insert r f kind area = insert_at r f kind area (nth r.frames f)

-- Start: a new server. There is none before the container has a session.
abbrev pub start_made : Record → Took
start_made r = record {
  rec = record r { servers = r.servers ++ false ∷ [] };
  answer = record quiet_answer { server = Some (length r.servers + 1); actions = Start (length r.servers + 1) ∷ [] };
  counted = [];
}

abbrev pub start : Record → Result Took ContainerFault
start r =
    unless (nat_le MOST_SERVERS (count_alive r.servers)) Full
    (unless (nat_le r.numbers (length r.servers)) NumbersSpent
    (unless (r.session == 0) WrongState
    (Ok (start_made r))))

-- Run: a new activation of a passive object begins with an empty storage, or with its work content if it has streams.
abbrev pub first_operation : Object → List NamedStream → Operation
first_operation o [] = InitNew o.class
first_operation o (s ∷ ss) = Load o.class o.work

abbrev pub begun_link : ℕ → ℕ → ℕ → Operation → Link
begun_link session inc act op = record {
  session = session;
  inc = inc;
  act = act;
  last = 1;
  pending = Some op;
  waiting = [];
  states = loaded;
  s = 0;
  w = 0;
  saved = None;
}

abbrev pub run_made : Record → Object → ℕ → Took
run_made r o inc =
    let op = first_operation o o.work.streams in
    let link = begun_link r.session inc (r.last_act + 1) op in
    record {
      rec = record r {
        objects = put (is_object o.number) (record o { link = Some link }) r.objects;
        last_act = r.last_act + 1;
      };
      answer = acts (sends (call link 1 op ∷ []));
      counted = [];
    }

abbrev pub is_known_class : List ℕ → Bool
is_known_class class = bytes_eq class (class_of Note) || bytes_eq class (class_of Table) || bytes_eq class
    (class_of Drawing)

abbrev pub run_object : Record → Object → ℕ → Result Took ContainerFault
run_object r o inc =
    unless (is_some o.link) WrongState
    (unless (not (is_known_class o.class)) UnknownClass
    (unless (nat_lt r.numbers MARGIN || nat_le r.numbers r.last_act) NumbersSpent
    (Ok (run_made r o inc))))

abbrev pub run : Record → ℕ → ℕ → Result Took ContainerFault
run r n inc = unless (not (is_alive r inc)) NoSuch (located r n (ready (λ o frame. run_object r o inc)))

-- Edit: a running object is asked for it.
abbrev pub MOST_EDIT : ℕ
MOST_EDIT = 65536

abbrev pub edit_made : Record → Object → List ℕ → Took
edit_made r o bytes = record {
  rec = with_object r (record o { link = asked_link (Edit bytes) o.link });
  answer = acts (sends (asked_sent (Edit bytes) o.link));
  counted = [];
}

-- why an activation isn't asked for an edit of so many bytes
abbrev pub edit_fault : ℕ → ℕ → Option Link → Option ContainerFault
edit_fault numbers size None = Some NotRunning
edit_fault numbers size (Some l) =
    if nat_lt MOST_EDIT size then Some WrongState
    else if has_numbers numbers l then None
    else Some NumbersSpent

abbrev pub edit_unless : Record → Object → List ℕ → Option ContainerFault → Result Took ContainerFault
edit_unless r o bytes (Some fault) = Err fault
edit_unless r o bytes None = Ok (edit_made r o bytes)

abbrev pub edit_linked : Record → Object → List ℕ → Option Link → Result Took ContainerFault
edit_linked r o bytes link = edit_unless r o bytes (edit_fault r.numbers (length bytes) link)

abbrev pub edit : Record → ℕ → List ℕ → Result Took ContainerFault
edit r n bytes = located r n (ready (λ o frame. edit_linked r o bytes o.link))

-- Save: each object of the frame that isn't passive is asked for its content. It is for the frame's name or for another
-- one, and may raise the session of the document.
abbrev pub any_busy : ℕ → GrantState → List Object → Bool
any_busy f state [] = false
any_busy f state (o ∷ os) = if o.frame == f then (if is_busy state o then true else any_busy f state os)
    else any_busy f state os

abbrev pub all_have_numbers : ℕ → ℕ → List Object → Bool
all_have_numbers f numbers [] = true
all_have_numbers f numbers (o ∷ os) = if o.frame == f
    then (if link_has_numbers numbers o.link then all_have_numbers f numbers os else false)
    else all_have_numbers f numbers os

abbrev pub saving_frame : Option ℕ → Option (List ℕ) → Frame → Frame
saving_frame raised asked frame = record frame { asked = asked; k = frame.k + 1; raised = raised; phase = Saving }

abbrev pub saving : Record → ℕ → Frame → Option ℕ → Option (List ℕ) → Record
saving r f frame raised asked = record r {
  frames = set_nth r.frames f (saving_frame raised asked frame);
  objects = map (asked_object f (Save (frame.k + 1))) r.objects;
}

-- where all are passive, it goes on at once
abbrev pub saving_on : Record → ℕ → Frame → Option ℕ → Option (List ℕ) → Requested
saving_on r f frame raised asked = hand_off_in (saving r f frame raised asked) f

abbrev pub save_made : Record → ℕ → Frame → Option ℕ → Option (List ℕ) → Took
save_made r f frame raised asked = record {
  rec = settle (saving_on r f frame raised asked).rec;
  answer = acts (sends (asked_all f (Save (frame.k + 1)) r.objects ++ (saving_on r f frame raised asked).sent)
      ++ settle_actions (saving_on r f frame raised asked).rec);
  counted = [];
}

abbrev pub save_numbered : Record → ℕ → Frame → Option ℕ → Option (List ℕ) → Result Took ContainerFault
save_numbered r f frame raised asked =
    unless (nat_le r.numbers frame.k || not (all_have_numbers f r.numbers r.objects)) NumbersSpent
    (Ok (save_made r f frame raised asked))

abbrev pub save_at : Record → ℕ → Option Frame → Result Took ContainerFault
save_at r f None = Err NoSuch
save_at r f (Some frame) =
    unless (is_doubtful frame.phase) InDoubt
    (unless (is_saving frame.phase || is_moving frame.ui.state || any_busy f frame.ui.state r.objects) Busy
    (unless (r.session == 0) WrongState
    (save_numbered r f frame None None)))

abbrev pub save : Record → ℕ → Result Took ContainerFault
save r f = save_at r f (nth r.frames f)

-- SaveAs: the name is one that no other frame bears or asked for, and not the frame's own. The frame gets it once the
-- commit is counted. (of these frames the first has number i)
abbrev pub is_named_beside : ℕ → List ℕ → ℕ → List Frame → Bool
is_named_beside f name i [] = false
is_named_beside f name i (frame ∷ frames) =
    if not (i == f) && (bytes_eq frame.name name || is_name name frame.asked) then true
    else is_named_beside f name (i + 1) frames

abbrev pub save_as_at : Record → ℕ → List ℕ → Option Frame → Result Took ContainerFault
save_as_at r f name None = Err NoSuch
save_as_at r f name (Some frame) =
    unless (is_doubtful frame.phase) InDoubt
    (unless (is_saving frame.phase || is_moving frame.ui.state || any_busy f frame.ui.state r.objects ||
    is_named_beside f name 1 r.frames) Busy
    (unless (r.session == 0 || bytes_eq frame.name name) WrongState
    (save_numbered r f frame None (Some name))))

abbrev pub save_as : Record → ℕ → List ℕ → Result Took ContainerFault
save_as r f name = save_as_at r f name (nth r.frames f)

-- Session: the first frame is saved under its name, the session of its document raised by one. Once that is counted it
-- is the container's, for as long as it runs. Until then nothing else is saved, and no server starts.
abbrev pub session_at : Record → Option Frame → Result Took ContainerFault
session_at r None = Err NoSuch
session_at r (Some frame) =
    unless (is_doubtful frame.phase) InDoubt
    (unless (is_saving frame.phase || is_moving frame.ui.state || any_busy 1 frame.ui.state r.objects) Busy
    (unless (not (r.session == 0)) WrongState
    (unless (nat_le r.numbers frame.session) NumbersSpent
    (save_numbered r 1 frame (Some (frame.session + 1)) None))))

abbrev pub session : Record → Result Took ContainerFault
session r = session_at r (nth r.frames 1)

-- Delete: a passive object goes.
abbrev pub delete_made : Record → Object → Took
delete_made r o = counts_none (record r { objects = without_first (is_object o.number) r.objects }) quiet_answer

abbrev pub delete_object : Record → Object → Result Took ContainerFault
delete_object r o = unless (is_some o.link) WrongState (Ok (delete_made r o))

abbrev pub delete : Record → ℕ → Result Took ContainerFault
delete r n = located r n (ready (λ o frame. delete_object r o))

-- Kill: a server that isn't reaped is to be ended.
abbrev pub kill : Record → ℕ → Result Took ContainerFault
kill r inc = if is_alive r inc then Ok (counts_none r (acts (End inc ∷ []))) else Err NoSuch

-- The container's step on a command.
abbrev pub on_command : Record → Command → Result Took ContainerFault
on_command r (command.New name w h) = new r name w h
on_command r (command.Insert f kind area) = insert r f (kind_of kind) area
on_command r command.Session = session r
on_command r command.Start = start r
on_command r (command.Run o inc) = run r o inc
on_command r (command.Edit o bytes) = edit r o bytes
on_command r (command.Save f) = save r f
on_command r (command.SaveAs f name) = save_as r f name
on_command r (command.Delete o) = delete r o
on_command r (command.Kill inc) = kill r inc
on_command r (command.Close o option) = close r o option
on_command r (command.Verb o number) = verb r o number
