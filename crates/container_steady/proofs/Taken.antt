-- What holds where a command is taken.
use Rattle.std.proofs.Common.{◌≡◌, ◌||◌, ◌&&◌, ◌+◌, ◌==◌, ℕ, ℤ, Bool, true, false, not, List, [], ◌∷◌, length, nat_le}
use Rattle.std.proofs.Common.{nat_lt, Option, Some, None, is_some, Result, Ok, Err, refl, ◌∙◌, if◌then◌else◌}
use Rattle.std.proofs.lemmas.Bool.{eqb-false, eqb-true, leb-false}
use Rattle.std.specs.Str.{bytes_eq}
use Rattle.message_values.specs.Found.{find, nth}
use Rattle.tree_streams.specs.declared.area.Area.{Area}
use Rattle.object_state.specs.Verbs.{close_steps, steps, verb_of}
use Rattle.object_state.specs.declared.operations.CloseOption.{CloseOption}
use Rattle.object_state.specs.declared.verbs.Step.{Step}
use Rattle.object_state.specs.declared.verbs.Verb.{Verb}
use Rattle.object_state.specs.Grants.{waiting}
use Rattle.container_model.specs.declared.answer.Action.TheVariants.{End}
use Rattle.container_model.specs.declared.command.Command.{Command}
use Rattle.container_model.specs.declared.command.Command.TheVariants as command
use Rattle.container_model.specs.declared.command.ObjectKind.{ObjectKind}
use Rattle.container_model.specs.declared.fault.ContainerFault.{ContainerFault}
use Rattle.container_model.specs.declared.fault.ContainerFault.TheVariants.{NoSuch, Busy, InDoubt as Doubtful, Full}
use Rattle.container_model.specs.declared.fault.ContainerFault.TheVariants.{NumbersSpent, WrongState, UnknownClass}
use Rattle.container_model.specs.declared.record.Frame.{Frame}
use Rattle.container_model.specs.declared.record.Link.{Link}
use Rattle.container_model.specs.declared.record.Object.{Object}
use Rattle.container_model.specs.Record.{Record, Took, MARGIN, MOST_FRAMES, MOST_OBJECTS, MOST_SERVERS, acts}
use Rattle.container_model.specs.Record.{count_alive, count_objects, counts_none, has_numbers, is_alive, is_asked}
use Rattle.container_model.specs.Record.{is_busy, is_claim, is_doubtful, is_moving, is_object, is_saving, quiet_answer}
use Rattle.container_model.specs.Commands
use Rattle.container_model.specs.Located.{located_at, located_in, located, ready}
use Rattle.container_model.specs.Verbs as verbs
use Rattle.container_steady.specs.Made.{IsMade, TakenIsMade, makes_activation, makes_edit, makes_end, makes_fewer}
use Rattle.container_steady.specs.Made.{makes_frame, makes_nothing, makes_object, makes_save, makes_server, makes_steps}
use Rattle.container_steady.specs.Made.{makes_taking, row_of_close, row_of_verb, run_by}
use Rattle.container_steady.specs.Taken.{CommandsAreTakenSo, IsReadyAt, IsRunningAt, IsStepped, IsTakenAs, IsVerb}
use Rattle.container_steady.specs.Taken.{as_close, as_delete, as_edit, as_insert, as_kill, as_new, as_run, as_save}
use Rattle.container_steady.specs.Taken.{as_save_as, as_session, as_start, as_verb, edited, steps_leave, steps_nothing}
use Rattle.container_steady.specs.Taken.{steps_take}
use Rattle.container_steady.proofs.SteadyTells.{or_false, unless_ok}
use Rattle.container_steady.proofs.SteadyTests.{found_numbered, idle_of, none_of, not_false}

-- a step of an object in its frame
module _ (r : Record) (n : ℕ) (step : Object → Frame → Result Took ContainerFault) (t : Took) where
  in_frame : (o : Object) (frame : Option Frame) → find (is_object n) r.objects ≡ Some o
      → nth r.frames o.frame ≡ frame → located_in (ready step) o frame ≡ Ok t → (at : IsReadyAt r n)
      × (step at.object at.frame ≡ Ok t)
  in_frame o None found there e = cc
  in_frame o (Some frame) found there e =
      let a = unless_ok (is_doubtful frame.phase) Doubtful _ t e in
      let b = unless_ok (is_saving frame.phase || is_busy frame.ui.state o) Busy _ t a.1 in
      let quiet = or_false (is_saving frame.phase) (is_busy frame.ui.state o) b.0 in
      let still = or_false (is_asked o.link) (is_claim o.number (waiting frame.ui.state)) quiet.1 in (
        record {
          object = o;
          frame = frame;
          found = found;
          own = found_numbered n r.objects o found;
          inside = there;
          idle = idle_of frame.phase a.0 quiet.0;
          quiet = still.0;
          unclaimed = still.1;
        },
        b.1,
      )

  of_object : (o : Option Object) → find (is_object n) r.objects ≡ o → located_at (ready step) r.frames o ≡ Ok t
      → (at : IsReadyAt r n) × (step at.object at.frame ≡ Ok t)
  of_object None found e = cc
  of_object (Some o) found e = in_frame o (nth r.frames o.frame) found refl e

  pub ready_at : located r n (ready step) ≡ Ok t → (at : IsReadyAt r n) × (step at.object at.frame ≡ Ok t)
  ready_at e = of_object (find (is_object n) r.objects) refl e

-- New
new_taken : (r : Record) (name : List ℕ) (w h : ℕ) (t : Took) → Commands.new r name w h ≡ Ok t
    → IsTakenAs r t (command.New name w h)
new_taken r name w h t e =
    let a = unless_ok (Commands.is_named name r.frames) Busy _ t e in
    let b = unless_ok (not (Commands.is_size w h)) WrongState _ t a.1 in
    let c = unless_ok (nat_le MOST_FRAMES (length r.frames)) Full _ t b.1 in
    let d = unless_ok (nat_le r.numbers (length r.frames)) NumbersSpent _ t c.1 in
    let made = d.1 in
    let is : Commands.new_made r name w h ≡ t = cc in
    as_new name w h (record {
      unnamed = a.0;
      size = not_false (Commands.is_size w h) b.0;
      few = leb-false MOST_FRAMES (length r.frames) c.0;
      numbers = leb-false r.numbers (length r.frames) d.0;
    }) is

-- Insert
insert_taken : (r : Record) (f : ℕ) (kind : ObjectKind) (area : Area) (frame : Option Frame) (t : Took)
    → nth r.frames f ≡ frame → Commands.insert_at r f (Commands.kind_of kind) area frame ≡ Ok t
    → IsTakenAs r t (command.Insert f kind area)
insert_taken r f kind area None t there e = cc
insert_taken r f kind area (Some frame) t there e =
    let a = unless_ok (is_doubtful frame.phase) Doubtful _ t e in
    let b = unless_ok (is_saving frame.phase) Busy _ t a.1 in
    let c = unless_ok (Commands.is_empty_area area) WrongState _ t b.1 in
    let d = unless_ok (nat_le MOST_OBJECTS (count_objects f r.objects)) Full _ t c.1 in
    let n = unless_ok (nat_le r.numbers r.last_object) NumbersSpent _ t d.1 in
    let made = n.1 in
    let is : Commands.insert_made r f (Commands.kind_of kind) area ≡ t = cc in
    as_insert f kind area (record {
      frame = frame;
      there = there;
      idle = idle_of frame.phase a.0 b.0;
      cells = c.0;
      few = leb-false MOST_OBJECTS (count_objects f r.objects) d.0;
      numbers = leb-false r.numbers r.last_object n.0;
    }) is

-- Start
start_taken : (r : Record) (t : Took) → Commands.start r ≡ Ok t → IsTakenAs r t command.Start
start_taken r t e =
    let a = unless_ok (nat_le MOST_SERVERS (count_alive r.servers)) Full _ t e in
    let b = unless_ok (nat_le r.numbers (length r.servers)) NumbersSpent _ t a.1 in
    let c = unless_ok (r.session == 0) WrongState _ t b.1 in
    let made = c.1 in
    let is : Commands.start_made r ≡ t = cc in
    as_start (record {
      few = leb-false MOST_SERVERS (count_alive r.servers) a.0;
      numbers = leb-false r.numbers (length r.servers) b.0;
      session = eqb-false r.session 0 c.0;
    }) is

-- Run
run_taken : (r : Record) (n inc : ℕ) (t : Took) → Commands.run r n inc ≡ Ok t → IsTakenAs r t (command.Run n inc)
run_taken r n inc t e =
    let a = unless_ok (not (is_alive r inc)) NoSuch _ t e in
    let at = ready_at r n (λ o frame. Commands.run_object r o inc) t a.1 in
    let o = at.0.object in
    let d = unless_ok (is_some o.link) WrongState _ t at.1 in
    let k = unless_ok (not (Commands.is_known_class o.class)) UnknownClass _ t d.1 in
    let m = unless_ok (nat_lt r.numbers MARGIN || nat_le r.numbers r.last_act) NumbersSpent _ t k.1 in
    let both = or_false (nat_lt r.numbers MARGIN) (nat_le r.numbers r.last_act) m.0 in
    let made = m.1 in
    let is : Commands.run_made r o inc ≡ t = cc in
    as_run n inc at.0 (record {
      alive = not_false (is_alive r inc) a.0;
      passive = none_of o.link d.0;
      known = not_false (Commands.is_known_class o.class) k.0;
      margin = both.0;
      numbers = leb-false r.numbers r.last_act both.1;
    }) is

-- Edit
edit_by : (r : Record) (o : Object) (bytes : List ℕ) (a b : Bool) (t : Took)
    → Commands.edit_unless r o bytes (if a then Some WrongState else if b then None else Some NumbersSpent) ≡ Ok t
    → (a ≡ false) × (b ≡ true) × (Commands.edit_made r o bytes ≡ t)
edit_by r o bytes true b t e = cc
edit_by r o bytes false true t e = (let is : Commands.edit_made r o bytes ≡ t = cc in (refl, refl, is))
edit_by r o bytes false false t e = cc

pub edited_by : (r : Record) (o : Object) (bytes : List ℕ) (l : Link) (t : Took) → o.link ≡ Some l
    → Commands.edit_linked r o bytes (Some l) ≡ Ok t → edited r o l bytes ≡ t
edited_by r o bytes l t is e =
    let h = edit_by r o bytes (nat_lt Commands.MOST_EDIT (length bytes)) (has_numbers r.numbers l) t e in
    let same : edited r o l bytes ≡ Commands.edit_made r o bytes = rw is refl in
    same ∙ h.2

edit_linked_taken : (r : Record) (n : ℕ) (bytes : List ℕ) (at : IsReadyAt r n) (link : Option Link) (t : Took)
    → at.object.link ≡ link → Commands.edit_linked r at.object bytes link ≡ Ok t
    → IsTakenAs r t (command.Edit n bytes)
edit_linked_taken r n bytes at None t is e = cc
edit_linked_taken r n bytes at (Some l) t is e =
    let h = edit_by r at.object bytes (nat_lt Commands.MOST_EDIT (length bytes)) (has_numbers r.numbers l) t e in
    let same : edited r at.object l bytes ≡ Commands.edit_made r at.object bytes = rw is refl in
    as_edit n bytes (record { at = at; link = l; linked = is }) h.0 h.1 (same ∙ h.2)

edit_taken : (r : Record) (n : ℕ) (bytes : List ℕ) (t : Took) → Commands.edit r n bytes ≡ Ok t
    → IsTakenAs r t (command.Edit n bytes)
edit_taken r n bytes t e =
    let at = ready_at r n (λ o frame. Commands.edit_linked r o bytes o.link) t e in
    edit_linked_taken r n bytes at.0 at.0.object.link t refl at.1

-- Save
save_taken : (r : Record) (f : ℕ) (frame : Option Frame) (t : Took) → nth r.frames f ≡ frame
    → Commands.save_at r f frame ≡ Ok t → IsTakenAs r t (command.Save f)
save_taken r f None t there e = cc
save_taken r f (Some frame) t there e =
    let a = unless_ok (is_doubtful frame.phase) Doubtful _ t e in
    let b = unless_ok (is_saving frame.phase || is_moving frame.ui.state || Commands.any_busy f frame.ui.state
    r.objects) Busy _ t a.1 in
    let none = unless_ok (r.session == 0) WrongState _ t b.1 in
    let c = unless_ok (nat_le r.numbers frame.k || not (Commands.all_have_numbers f r.numbers r.objects))
    NumbersSpent _ t none.1 in
    let quiet = or_false (is_saving frame.phase || is_moving frame.ui.state)
    (Commands.any_busy f frame.ui.state r.objects) b.0 in
    let still = or_false (is_saving frame.phase) (is_moving frame.ui.state) quiet.0 in
    let left = or_false (nat_le r.numbers frame.k) (not (Commands.all_have_numbers f r.numbers r.objects)) c.0 in
    let made = c.1 in
    let is : Commands.save_made r f frame None None ≡ t = cc in
    as_save f (record {
      frame = frame;
      there = there;
      idle = idle_of frame.phase a.0 still.0;
      still = still.1;
      quiet = quiet.1;
      numbers = leb-false r.numbers frame.k left.0;
      calls = not_false (Commands.all_have_numbers f r.numbers r.objects) left.1;
    }) (eqb-false r.session 0 none.0)
    is

-- Session
session_taken : (r : Record) (frame : Option Frame) (t : Took) → nth r.frames 1 ≡ frame
    → Commands.session_at r frame ≡ Ok t → IsTakenAs r t command.Session
session_taken r None t there e = cc
session_taken r (Some frame) t there e =
    let a = unless_ok (is_doubtful frame.phase) Doubtful _ t e in
    let b = unless_ok (is_saving frame.phase || is_moving frame.ui.state || Commands.any_busy 1 frame.ui.state
    r.objects) Busy _ t a.1 in
    let none = unless_ok (not (r.session == 0)) WrongState _ t b.1 in
    let more = unless_ok (nat_le r.numbers frame.session) NumbersSpent _ t none.1 in
    let c = unless_ok (nat_le r.numbers frame.k || not (Commands.all_have_numbers 1 r.numbers r.objects))
    NumbersSpent _ t more.1 in
    let quiet = or_false (is_saving frame.phase || is_moving frame.ui.state)
    (Commands.any_busy 1 frame.ui.state r.objects) b.0 in
    let still = or_false (is_saving frame.phase) (is_moving frame.ui.state) quiet.0 in
    let left = or_false (nat_le r.numbers frame.k) (not (Commands.all_have_numbers 1 r.numbers r.objects)) c.0 in
    let made = c.1 in
    let is : Commands.save_made r 1 frame (Some (frame.session + 1)) None ≡ t = cc in
    as_session (record {
      frame = frame;
      there = there;
      idle = idle_of frame.phase a.0 still.0;
      still = still.1;
      quiet = quiet.1;
      numbers = leb-false r.numbers frame.k left.0;
      calls = not_false (Commands.all_have_numbers 1 r.numbers r.objects) left.1;
    })
    (record {
      none = eqb-true r.session 0 (not_false (r.session == 0) none.0);
      numbers = leb-false r.numbers frame.session more.0;
    }) is

-- SaveAs
save_as_taken : (r : Record) (f : ℕ) (name : List ℕ) (frame : Option Frame) (t : Took) → nth r.frames f ≡ frame
    → Commands.save_as_at r f name frame ≡ Ok t → IsTakenAs r t (command.SaveAs f name)
save_as_taken r f name None t there e = cc
save_as_taken r f name (Some frame) t there e =
    let a = unless_ok (is_doubtful frame.phase) Doubtful _ t e in
    let b = unless_ok (is_saving frame.phase || is_moving frame.ui.state || Commands.any_busy f frame.ui.state
    r.objects || Commands.is_named_beside f name 1 r.frames) Busy _ t a.1 in
    let own = unless_ok (r.session == 0 || bytes_eq frame.name name) WrongState _ t b.1 in
    let other = or_false (r.session == 0) (bytes_eq frame.name name) own.0 in
    let c = unless_ok (nat_le r.numbers frame.k || not (Commands.all_have_numbers f r.numbers r.objects))
    NumbersSpent _ t own.1 in
    let apart = or_false (is_saving frame.phase || is_moving frame.ui.state || Commands.any_busy f frame.ui.state
    r.objects) (Commands.is_named_beside f name 1 r.frames) b.0 in
    let quiet = or_false (is_saving frame.phase || is_moving frame.ui.state)
    (Commands.any_busy f frame.ui.state r.objects) apart.0 in
    let still = or_false (is_saving frame.phase) (is_moving frame.ui.state) quiet.0 in
    let left = or_false (nat_le r.numbers frame.k) (not (Commands.all_have_numbers f r.numbers r.objects)) c.0 in
    let made = c.1 in
    let is : Commands.save_made r f frame None (Some name) ≡ t = cc in
    as_save_as f name (record {
      frame = frame;
      there = there;
      idle = idle_of frame.phase a.0 still.0;
      still = still.1;
      quiet = quiet.1;
      numbers = leb-false r.numbers frame.k left.0;
      calls = not_false (Commands.all_have_numbers f r.numbers r.objects) left.1;
    })
    (eqb-false r.session 0 other.0) apart.1 other.1 is

-- Delete
delete_taken : (r : Record) (n : ℕ) (t : Took) → Commands.delete r n ≡ Ok t → IsTakenAs r t (command.Delete n)
delete_taken r n t e =
    let at = ready_at r n (λ o frame. Commands.delete_object r o) t e in
    let c = unless_ok (is_some at.0.object.link) WrongState _ t at.1 in
    let made = c.1 in
    let is : Commands.delete_made r at.0.object ≡ t = cc in
    as_delete n at.0 (none_of at.0.object.link c.0) is

-- Kill
kill_by : (r : Record) (inc : ℕ) (alive : Bool) (t : Took)
    → ◌≡◌ {A = Result Took ContainerFault} (if alive then Ok (counts_none r (acts (End inc ∷ []))) else Err NoSuch)
    (Ok t) → (alive ≡ true) × (counts_none r (acts (End inc ∷ [])) ≡ t)
kill_by r inc true t e = (let is : counts_none r (acts (End inc ∷ [])) ≡ t = cc in (refl, is))
kill_by r inc false t e = cc

kill_taken : (r : Record) (inc : ℕ) (t : Took) → Commands.kill r inc ≡ Ok t → IsTakenAs r t (command.Kill inc)
kill_taken r inc t e = (let h = kill_by r inc (is_alive r inc) t e in as_kill inc h.0 h.1)

-- Close
close_row : (r : Record) (n : ℕ) (option : CloseOption) (go : IsRunningAt r n) (row : Option (List Step)) (t : Took)
    → has_numbers r.numbers go.link ≡ true → close_steps option go.link.states.object ≡ row
    → verbs.close_steps_made r go.at.frame go.at.object go.link row ≡ Ok t → IsTakenAs r t (command.Close n option)
close_row r n option go None t has is e = cc
close_row r n option go (Some ts) t has is e =
    (let made : verbs.leaving_made r go.at.frame go.at.object go.link ts ≡ t = cc in
    as_close n option go ts has is made)

close_linked_taken : (r : Record) (n : ℕ) (option : CloseOption) (at : IsReadyAt r n) (link : Option Link)
    (t : Took) → at.object.link ≡ link → verbs.close_linked r at.frame at.object option link ≡ Ok t
    → IsTakenAs r t (command.Close n option)
close_linked_taken r n option at None t is e = cc
close_linked_taken r n option at (Some l) t is e =
    let a = unless_ok (not (has_numbers r.numbers l)) NumbersSpent _ t e in
    close_row r n option (record { at = at; link = l; linked = is }) (close_steps option l.states.object) t
    (not_false (has_numbers r.numbers l) a.0) refl a.1

close_taken : (r : Record) (n : ℕ) (option : CloseOption) (t : Took) → verbs.close r n option ≡ Ok t
    → IsTakenAs r t (command.Close n option)
close_taken r n option t e =
    let at = ready_at r n (λ o frame. verbs.close_linked r frame o option o.link) t e in
    close_linked_taken r n option at.0 at.0.object.link t refl at.1

-- Verb
stepping_by : (r : Record) (frame : Frame) (o : Object) (l : Link) (ts : List Step) (b : Bool) (t : Took)
    → has_numbers r.numbers l ≡ true → verbs.takes ts ≡ b
    → (if b then verbs.taking r frame o l ts else Ok (verbs.leaving_made r frame o l ts)) ≡ Ok t
    → IsStepped r frame o l ts t
stepping_by r frame o l ts true t has is e =
    let a =
    unless_ok (nat_le r.numbers r.last_g || not (verbs.holder_has_numbers r (verbs.holder_of frame.ui.state)))
    NumbersSpent _ t e in
    let both = or_false (nat_le r.numbers r.last_g)
    (not (verbs.holder_has_numbers r (verbs.holder_of frame.ui.state))) a.0 in
    let made = a.1 in
    let same : verbs.taking_made r frame o l ts ≡ t = cc in
    steps_take has is (leb-false r.numbers r.last_g both.0)
    (not_false (verbs.holder_has_numbers r (verbs.holder_of frame.ui.state)) both.1) same
stepping_by r frame o l ts false t has is e = (let same : verbs.leaving_made r frame o l ts ≡ t = cc in
    steps_leave has is same)

verb_row : (r : Record) (frame : Frame) (o : Object) (l : Link) (row : Option (List Step)) (t : Took)
    → verbs.verb_steps r frame o l row ≡ Ok t → (ts : List Step) × (row ≡ Some ts) × IsStepped r frame o l ts t
verb_row r frame o l None t e = cc
verb_row r frame o l (Some []) t e = (let same : counts_none r quiet_answer ≡ t = cc in
    ([], refl, steps_nothing refl same))
verb_row r frame o l (Some (x ∷ xs)) t e =
    let a = unless_ok (not (has_numbers r.numbers l)) NumbersSpent _ t e in (
      x ∷ xs,
      refl,
      stepping_by r frame o l (x ∷ xs) (verbs.takes (x ∷ xs)) t
          (not_false (has_numbers r.numbers l) a.0) refl a.1,
    )

verb_linked_taken : (r : Record) (n : ℕ) (number : ℤ) (at : IsReadyAt r n) (v : Option Verb) (link : Option Link)
    (t : Took) → verb_of number ≡ v → at.object.link ≡ link → (verbs.wants_ui v && is_moving at.frame.ui.state)
    ≡ false → verbs.verb_linked r at.frame at.object v link ≡ Ok t → IsTakenAs r t (command.Verb n number)
verb_linked_taken r n number at v None t named is still e = cc
verb_linked_taken r n number at None (Some l) t named is still e = cc
verb_linked_taken r n number at (Some v) (Some l) t named is still e =
    let h = verb_row r at.frame at.object l (steps v l.states.object) t e in
    as_verb n number (record { at = at; link = l; linked = is })
    (record { verb = v; named = named; still = still; ts = h.0; row = h.1; stepped = h.2 })

verb_taken : (r : Record) (n : ℕ) (number : ℤ) (t : Took) → verbs.verb r n number ≡ Ok t
    → IsTakenAs r t (command.Verb n number)
verb_taken r n number t e =
    let at = ready_at r n (verbs.verb_framed r (verb_of number)) t e in
    let a = unless_ok (verbs.wants_ui (verb_of number) && is_moving at.0.frame.ui.state) Busy _ t at.1 in
    verb_linked_taken r n number at.0 (verb_of number) at.0.object.link t refl refl a.0 a.1

-- each command
pub command_taken : CommandsAreTakenSo
command_taken r (command.New name w h) t e = new_taken r name w h t e
command_taken r (command.Insert f kind area) t e = insert_taken r f kind area (nth r.frames f) t refl e
command_taken r command.Session t e = session_taken r (nth r.frames 1) t refl e
command_taken r command.Start t e = start_taken r t e
command_taken r (command.Run n inc) t e = run_taken r n inc t e
command_taken r (command.Edit n bytes) t e = edit_taken r n bytes t e
command_taken r (command.Save f) t e = save_taken r f (nth r.frames f) t refl e
command_taken r (command.SaveAs f name) t e = save_as_taken r f name (nth r.frames f) t refl e
command_taken r (command.Delete n) t e = delete_taken r n t e
command_taken r (command.Kill inc) t e = kill_taken r inc t e
command_taken r (command.Close n option) t e = close_taken r n option t e
command_taken r (command.Verb n number) t e = verb_taken r n number t e

-- what each makes is of a shape
stepped_made : (r : Record) (n : ℕ) (go : IsRunningAt r n) (number : ℤ) (t : Took)
    (v : IsVerb r go.at.frame go.at.object go.link number t) → IsStepped r go.at.frame go.at.object go.link v.ts t
    → IsMade r t []
stepped_made r n go number t v (steps_nothing none made) = makes_nothing made
stepped_made r n go number t v (steps_leave has leaves made) =
    makes_steps n go v.ts has (row_of_verb v.verb v.row leaves) made
stepped_made r n go number t v (steps_take has takes lt holder made) =
    makes_taking n go v.ts (record {
      verb = v.verb;
      still = v.still;
      row = v.row;
      taken = takes;
      numbers = has;
      grants = lt;
      holder = holder;
    }) made

pub taken_made : TakenIsMade
taken_made r _ t (as_new name w h new made) = makes_frame name w h new made
taken_made r _ t (as_insert f kind area at made) = makes_object f kind area at made
taken_made r _ t (as_start started made) = makes_server started made
taken_made r _ t (as_run n inc at run made) = makes_activation n inc at run made
taken_made r _ t (as_edit n bytes go small has made) = makes_edit n bytes go small has made
taken_made r _ t (as_session at raised made) = makes_save 1 (Some (at.frame.session + 1)) None at
    (refl, refl, raised, refl) tt made
taken_made r _ t (as_save f at there made) = makes_save f None None at there tt made
taken_made r _ t (as_save_as f name at there apart own made) = makes_save f None (Some name) at there (apart, own) made
taken_made r _ t (as_delete n at passive made) = makes_fewer n at passive made
taken_made r _ t (as_kill inc alive made) = makes_end inc alive made
taken_made r _ t (as_close n option go ts has row made) = makes_steps n go ts has (row_of_close option row) made
taken_made r _ t (as_verb n number go verb) = stepped_made r n go number t verb verb.stepped

pub command_made : (r : Record) (c : Command) (t : Took) → Commands.on_command r c ≡ Ok t → IsMade r t (run_by c)
command_made r c t e = taken_made r c t (command_taken r c t e)
