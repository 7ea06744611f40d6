-- Verbs: the holder of a frame is asked to give it up, and an object is asked the steps of the verb, one after the
-- other.
use Rattle.std.proofs.Common.{◌≡◌, ◌+◌, length, ℕ, true, false, List, [], ◌∷◌, ◌++◌, map, Option, Some, None, Result}
use Rattle.std.proofs.Common.{Ok, refl, sym, ap, ◌∙◌, subst, if◌then◌else◌, eq-eqb}
use Rattle.std.specs.List.{AllByRecursion}
use Rattle.std.proofs.lemmas.List.{append-nil}
use Rattle.message_values.specs.Found.{find, put, nth, set_nth}
use Rattle.message_values.specs.declared.operation.Operation.TheVariants.{UiDeactivate}
use Rattle.object_state.specs.Verbs.{steps}
use Rattle.object_state.specs.declared.object_states.ObjectState.{ObjectState}
use Rattle.object_state.specs.declared.object_states.ObjectState.TheVariants.{UiActive}
use Rattle.object_state.specs.declared.verbs.Verb.{Verb}
use Rattle.object_state.specs.declared.verbs.Verb.TheVariants as verb
use Rattle.object_state.specs.declared.verbs.Step.{Step}
use Rattle.object_state.specs.declared.verbs.Step.TheVariants as step
use Rattle.object_state.specs.Grants.{Ask}
use Rattle.object_state.specs.declared.grant_states.GrantState.{GrantState}
use Rattle.object_state.specs.declared.grant_states.GrantState.TheVariants.{Free, Granting, Held, Revoking}
use Rattle.container_model.specs.declared.record.Link.{Link}
use Rattle.container_model.specs.declared.record.Object.{Object}
use Rattle.container_model.specs.declared.record.Frame.{Frame}
use Rattle.container_model.specs.declared.fault.ContainerFault.{ContainerFault}
use Rattle.container_model.specs.Record.{Record, Took, acts, sends, with_frame, with_object, is_object}
use Rattle.container_model.specs.Grants.{Requested, grant_of, moved, request}
use Rattle.container_model.specs.Verbs.{operation_of, claim_of, takes, gives_up, stepped_link, leaving_made, holder_of}
use Rattle.container_model.specs.Verbs.{revoked_at, claimed, steps_now, taking_made}
use Rattle.container_steady.specs.Made.{IsTaking}
use Rattle.container_queues.specs.Roles.{Holding, Other, IsShown, role_in}
use Rattle.container_queues.specs.Steady.{WaitsBehind, Steady}
use Rattle.container_steady.proofs.SteadyRecords.{if_told}
use Rattle.container_steady.proofs.SteadyTests.{found_numbered}
use Rattle.world_model.specs.Safe.{link_at, links_of}
use Rattle.world_facts.specs.Shapes.{IsQuiet}
use Rattle.world_facts.specs.Words.{all_said}
use Rattle.world_steps.specs.Steps.{AsksInTurn, asks_none, asks_first, IsTurned}
use Rattle.world_steps.proofs.Objects.{found_held, linked_object, messages_sends, no_start_sent, no_end_sent}
use Rattle.world_steps.proofs.Objects.{steady_waits}
use Rattle.world_steps.proofs.Turns.{each_turns, placed_here, placed_there, KeepsRest, rest_same, request_keeps}
use Rattle.world_steps.proofs.Turns.{request_others, request_asks, turns_further}

pub ok_took : (x y : Took) → ◌≡◌ {A = Result Took ContainerFault} (Ok x) (Ok y) → x ≡ y
ok_took x y e = cc

ui_quiet : IsQuiet UiDeactivate
ui_quiet = λ k storage e. cc

-- no step tells the end of a save
step_quiet : (g : ℕ) (s : Step) → IsQuiet (operation_of g s)
step_quiet g step.InPlace = λ k storage e. cc
step_quiet g step.UiActivate = λ k storage e. cc
step_quiet g step.UiDeactivate = λ k storage e. cc
step_quiet g step.InPlaceDeactivate = λ k storage e. cc
step_quiet g step.OpenWindow = λ k storage e. cc
step_quiet g (step.Close option) = λ k storage e. cc

steps_quiet : (g : ℕ) (ss : List Step) → AllByRecursion IsQuiet (map (operation_of g) ss)
steps_quiet g [] = tt
steps_quiet g (s ∷ ss) = (step_quiet g s, steps_quiet g ss)

-- An object of a record takes steps: its link is asked, and no other is.
module _ (r : Record) (o : Object) (l : Link) (x : Object) (found : find (is_object o.number) r.objects ≡ Some x)
    (linked : x.link ≡ Some l) (waits : WaitsBehind l.pending l.waiting) where
  pub object_steps : (g : ℕ) (ss : List Step)
      → AsksInTurn (links_of r.objects)
      (links_of (put (is_object o.number) (record o { link = Some (stepped_link g l ss).link }) r.objects))
      (all_said (stepped_link g l ss).sent)
  object_steps g ss =
      let a : Object = record o { link = Some (stepped_link g l ss).link } in
      each_turns o.number (map (operation_of g) ss) l (links_of r.objects)
      (links_of (put (is_object o.number) a r.objects)) (steps_quiet g ss) (ap link_at found ∙ linked) waits
      (placed_here r.objects o.number x a found refl) (λ k ne. placed_there r.objects o.number k a refl ne)

-- Steps that don't take the frame: its grant moves or stays, which no link tells
module _ (r : Record) (n : ℕ) (o : Object) (l : Link) (s : Steady r) (found : find (is_object n) r.objects ≡ Some o)
    (linked : o.link ≡ Some l) where
  at : find (is_object o.number) r.objects ≡ Some o
  at = found_numbered n r.objects o found

  waits : WaitsBehind l.pending l.waiting
  waits = (found_held r n l o s found linked).steady.waits_behind

  abbrev taken_with : Record → List Step → Took
  taken_with v ss = record {
    rec = with_object v (record o { link = Some (stepped_link 0 l ss).link });
    answer = acts (sends (stepped_link 0 l ss).sent);
    counted = [];
  }

  turned_with : (frames : List Frame) (ss : List Step) → IsTurned r (taken_with (record r { frames = frames }) ss)
  turned_with frames ss =
      let ms = (stepped_link 0 l ss).sent in
      let a : Object = record o { link = Some (stepped_link 0 l ss).link } in (
        subst (AsksInTurn (links_of r.objects) (links_of (put (is_object o.number) a r.objects)))
            (sym (messages_sends ms)) (object_steps r o l o at linked waits 0 ss),
        record {
          last_act = refl;
          servers = refl;
          starts = λ session numbers. no_start_sent session numbers ms;
          ends = no_end_sent ms;
        },
      )

  pub leaving_turned : (frame : Frame) (ss : List Step) → IsTurned r (leaving_made r frame o l ss)
  leaving_turned frame ss =
      let claim = claim_of o l (grant_of frame.ui.state) in
      if_told (λ (v : Record). IsTurned r (taken_with v ss)) (gives_up ss)
      (with_frame r o.frame (moved frame (Ask claim))) r
      (λ e. turned_with (set_nth r.frames o.frame (moved frame (Ask claim))) ss) (λ e. turned_with r.frames ss)

  -- Steps that take it: the holder, which is another object, is asked before
  abbrev taken_after : Requested → List Step → Took
  taken_after v ss = record {
    rec = with_object v.rec (record o { link = Some (stepped_link (r.last_g + 1) l ss).link });
    answer = acts (sends (v.sent ++ (stepped_link (r.last_g + 1) l ss).sent));
    counted = [];
  }

  ends_there : (frame : Frame) (v : Requested) (ss : List Step)
      → AsksInTurn (links_of r.objects) (links_of v.rec.objects) (all_said v.sent)
      → KeepsRest (claimed r frame o l) v.rec → links_of v.rec.objects o.number ≡ Some l
      → IsTurned r (taken_after v ss)
  ends_there frame v ss asked rest here =
      let g = r.last_g + 1 in
      let ms = (stepped_link g l ss).sent in
      let a : Object = record o { link = Some (stepped_link g l ss).link } in
      let x = linked_object v.rec.objects o.number l here in
      let steps = object_steps v.rec o l x.0 x.1 x.2 waits g ss in (
        subst (AsksInTurn (links_of r.objects) (links_of (put (is_object o.number) a v.rec.objects)))
            (sym (messages_sends (v.sent ++ ms))) (turns_further (links_of r.objects) (links_of v.rec.objects)
            (links_of (put (is_object o.number) a v.rec.objects)) v.sent ms asked steps),
        record {
          last_act = rest.last_act;
          servers = ap length rest.servers;
          starts = λ session numbers. no_start_sent session numbers (v.sent ++ ms);
          ends = no_end_sent (v.sent ++ ms);
        },
      )

  with_holder : (frame : Frame) (ss : List Step) (holder : Option ℕ) → (holder ≡ Some o.number → ⊥)
      → IsTurned r (taken_after (revoked_at (claimed r frame o l) holder) ss)
  with_holder frame ss None ne = ends_there frame (revoked_at (claimed r frame o l) None) ss
      (asks_none (links_of r.objects) (links_of r.objects) [] (λ k. refl) refl) (rest_same (claimed r frame o l))
      (ap link_at at ∙ linked)
  with_holder frame ss (Some h) ne =
      let c = claimed r frame o l in
      let v = request c h UiDeactivate in
      let asked = request_asks c h UiDeactivate (steady_waits r s) ui_quiet in
      ends_there frame v ss (asks_first (links_of r.objects) (links_of v.rec.objects) (links_of v.rec.objects)
      (all_said v.sent) [] (all_said v.sent) asked
      (asks_none (links_of v.rec.objects) (links_of v.rec.objects) [] (λ k. refl) refl)
      (sym (append-nil (all_said v.sent))))
      (request_keeps c h UiDeactivate) (request_others c h UiDeactivate o.number (λ q. ne (ap Some (sym q)))
      ∙ (ap link_at at ∙ linked))

  taking_turned : (frame : Frame) (ss : List Step) → (holder_of frame.ui.state ≡ Some o.number → ⊥)
      → IsTurned r (taking_made r frame o l ss)
  taking_turned frame ss ne = with_holder frame (steps_now frame.ui.state ss) (holder_of frame.ui.state) ne

  -- the holder is active with its menus and border, and then no verb takes the frame
  no_steps : (v : Verb) (ss : List Step) → steps v UiActive ≡ Some ss → takes ss ≡ false
  no_steps verb.Primary ss e = (let q : [] ≡ ss = cc in ap takes (sym q))
  no_steps verb.Show ss e = (let q : [] ≡ ss = cc in ap takes (sym q))
  no_steps verb.UiActivate ss e = (let q : [] ≡ ss = cc in ap takes (sym q))
  no_steps verb.Open ss e = (let q : step.UiDeactivate ∷ step.InPlaceDeactivate ∷ step.OpenWindow ∷ [] ≡ ss = cc in
      ap takes (sym q))
  no_steps verb.Hide ss e = (let q : step.UiDeactivate ∷ step.InPlaceDeactivate ∷ [] ≡ ss = cc in ap takes (sym q))
  no_steps verb.InPlaceActivate ss e = (let q : step.UiDeactivate ∷ [] ≡ ss = cc in ap takes (sym q))

  shown_at : (state : GrantState) (object : ObjectState) → IsShown (role_in state o.number) object
      → holder_of state ≡ Some o.number → object ≡ UiActive
  shown_at Free object h e = cc
  shown_at (Granting claim) object h e = cc
  shown_at (Revoking holder next) object h e = cc
  shown_at (Held holder tools) object h e =
      let q : holder.object ≡ o.number = cc in
      subst (λ b. IsShown (if b then Holding holder.g tools else Other) object) (eq-eqb holder.object o.number q) h

  not_holder : (frame : Frame) (v : Verb) (ss : List Step) → nth r.frames o.frame ≡ Some frame
      → steps v l.states.object ≡ Some ss → takes ss ≡ true → holder_of frame.ui.state ≡ Some o.number → ⊥
  not_holder frame v ss framed e t h =
      let held = found_held r n l o s found linked in
      let same : Some held.object ≡ Some o = sym held.found ∙ found in
      let same_object : held.object ≡ o = cc in
      let same_frame : Some held.frame ≡ Some frame = sym held.framed
      ∙ (ap (λ (x : Object). nth r.frames x.frame) same_object ∙ framed) in
      let frame_is : held.frame ≡ frame = cc in
      let shown : IsShown (role_in frame.ui.state o.number) l.states.object =
      subst (λ (x : Object). IsShown (role_in frame.ui.state x.number) l.states.object) same_object
      (subst (λ (x : Frame). IsShown (role_in x.ui.state held.object.number) l.states.object) frame_is
      held.steady.shown) in
      let active : l.states.object ≡ UiActive = shown_at frame.ui.state l.states.object shown h in
      let none : takes ss ≡ false = no_steps v ss (ap (steps v) (sym active) ∙ e) in
      let z : true ≡ false = sym t ∙ none in
      cc

  pub claiming_turned : (frame : Frame) (ss : List Step) → nth r.frames o.frame ≡ Some frame
      → IsTaking r frame o l ss → IsTurned r (taking_made r frame o l ss)
  claiming_turned frame ss framed h = taking_turned frame ss (not_holder frame h.verb ss framed h.row h.taken)
