-- Verbs and closes keep a record steady.
use Rattle.std.proofs.Common.{◌≡◌, ℕ, Bool, true, false, List, [], ◌∷◌, map, Some, None, Result, Ok, refl, sym, ap, ◌∙◌}
use Rattle.std.proofs.Common.{arith, subst, if◌then◌else◌, eq-eqb}
use Rattle.std.specs.Prelude.{IsOkAnd, ◌&&◌}
use Rattle.std.specs.List.{AllByRecursion}
use Rattle.message_values.specs.Found.{find, nth, put}
use Rattle.object_state.specs.Laws.{goal_of}
use Rattle.object_state.specs.Verbs.{activates_ui, close_steps, steps}
use Rattle.object_state.specs.declared.both_states.States.{States}
use Rattle.object_state.specs.declared.faults.StateFault.{StateFault}
use Rattle.object_state.specs.declared.operations.CloseOption.{CloseOption}
use Rattle.object_state.specs.declared.object_states.ObjectState.{ObjectState}
use Rattle.object_state.specs.declared.object_states.ObjectState.TheVariants.{Passive, UiActive}
use Rattle.object_state.specs.declared.persist_states.PersistState.{PersistState}
use Rattle.object_state.specs.declared.persist_states.PersistState.TheVariants.{Normal}
use Rattle.object_state.specs.declared.verbs.Verb.{Verb}
use Rattle.object_state.specs.declared.verbs.Verb.TheVariants.{Primary, Show, Hide, InPlaceActivate}
use Rattle.object_state.specs.declared.verbs.Verb.TheVariants as verb
use Rattle.object_state.specs.declared.verbs.Step.{Step}
use Rattle.object_state.specs.declared.verbs.Step.TheVariants as step
use Rattle.object_state.specs.Frames.{after, kept}
use Rattle.object_state.specs.Grants.{Ask, table, waiting}
use Rattle.object_state.specs.declared.grant_states.Claim.{Claim}
use Rattle.object_state.specs.declared.grant_states.Tools.{Tools}
use Rattle.object_state.specs.declared.grant_states.GrantState.{GrantState}
use Rattle.object_state.specs.declared.grant_states.GrantState.TheVariants as state
use Rattle.container_model.specs.declared.record.Link.{Link}
use Rattle.container_model.specs.declared.record.Object.{Object}
use Rattle.container_model.specs.declared.record.Frame.{Frame}
use Rattle.container_model.specs.declared.record.Phase.{Phase}
use Rattle.container_model.specs.declared.record.Phase.TheVariants.{Idle}
use Rattle.container_model.specs.Grants.{grant_of, moved}
use Rattle.container_model.specs.Record.{Record, is_asked, is_claim, is_moving, is_object, with_frame, with_object}
use Rattle.container_model.specs.Verbs.{claim_of, gives_up, leaving_made, operation_of, stepped_link, takes}
use Rattle.container_model.specs.Verbs.{taking_made}
use Rattle.container_queues.specs.Roles.{IsClaim, IsPlain, IsShown, Other, Giving, Role, SteadyGrant, role_in}
use Rattle.container_queues.specs.Steady.{ended, EndsAs, EndsWell, SteadyLink, Steady}
use Rattle.container_steady.specs.Made.{IsRow, IsTaking, row_of_close, row_of_verb}
use Rattle.container_commands.proofs.SteadyAsks.{held_idle, free, linked_keeps, was}
use Rattle.container_queues.proofs.SteadyLinks.{asked_each, quiet_asked, quiet_ends, quiet_plays}
use Rattle.container_steady.proofs.SteadyMoves.{But, SteadyBut, all_steady, gives_it, has_it, move_but, moved_to}
use Rattle.container_steady.proofs.SteadyMoves.{parts_ended, put_but, set_object}
use Rattle.container_queues.proofs.SteadyRoles.{AtHeld, AtRest, holds, rests, at_rest, is_ui}
use Rattle.container_commands.proofs.SteadySteps.{LeavesFrom, TakesFrom, hidden, placed, leaves_nothing, leaves_frame}
use Rattle.container_commands.proofs.SteadySteps.{leaves_plain, closing_from, close_runs, leaving_from, steps_timely}
use Rattle.container_commands.proofs.SteadySteps.{taking_from, verb_runs}
use Rattle.container_commands.proofs.SteadyTaking.{still_at, taking_keeps}

-- where an object's own claim is, its activation has it
pub claim_act : (r : Record) (f : ℕ) (c : Claim) (x : Object) (l : Link) → IsClaim r f c → c.object ≡ x.number
    → find (is_object x.number) r.objects ≡ Some x → x.link ≡ Some l → l.act ≡ c.act
claim_act r f c x l h e found is =
    let both = sym (ap (λ (n : ℕ). find (is_object n) r.objects) e ∙ found) ∙ h.found in
    let same : x ≡ h.object = cc in
    let links : Some l ≡ Some h.link = sym is ∙ (ap (λ (z : Object). z.link) same ∙ h.linked) in
    let link : l ≡ h.link = cc in
    ap (λ (z : Link). z.act) link ∙ h.act

own_ask : (s : GrantState) (holder : Claim) (tools : Tools) (n act : ℕ) → s ≡ state.Held holder tools
    → act ≡ holder.act → kept s (table s (Ask (record { object = n; act = act; g = grant_of s })))
    ≡ state.Revoking holder None
own_ask s holder tools n act e a = rw (e, eq-eqb act holder.act a, eq-eqb holder.g holder.g refl) refl

-- who gives a frame up, and nobody waits
pub ended_grant : (r : Record) (f : ℕ) (s t : GrantState) (holder : Claim) (tools : Tools)
    → s ≡ state.Held holder tools → t ≡ state.Revoking holder None → SteadyGrant r f s → SteadyGrant r f t
ended_grant r f s t holder tools e q h =
    let was : SteadyGrant r f (state.Held holder tools) = subst (SteadyGrant r f) e h in
    subst (SteadyGrant r f) (sym q) (record { apart = tt; holder = was.holder; next = tt })

pub ended_parts : (s t : GrantState) (holder : Claim) (tools : Tools) (n : ℕ) → s ≡ state.Held holder tools
    → t ≡ state.Revoking holder None → holder.object ≡ n → (o : Object)
    → But (n ∷ []) (λ (x : Object). role_in t x.number ≡ role_in s x.number) o
ended_parts s t holder tools n e q named o =
    rw (e, q)
    (subst (λ (m : ℕ). But (m ∷ []) (λ (x : Object). role_in (state.Revoking holder None) x.number
    ≡ role_in (state.Held holder tools) x.number) o) named (parts_ended holder tools o))

module _ (r : Record) (o : Object) (frame : Frame) (l : Link) (s : Steady r)
    (found : find (is_object o.number) r.objects ≡ Some o) (at : nth r.frames o.frame ≡ Some frame)
    (idle : frame.phase ≡ Idle) (quiet : is_asked o.link ≡ false) (is : o.link ≡ Some l)
    (unclaimed : is_claim o.number (waiting frame.ui.state) ≡ false) where
  abbrev part : Role
  part = role_in frame.ui.state o.number

  held : SteadyLink r.servers r.last_act Idle frame.asked frame.k part l
  held = held_idle r o frame l s found at idle quiet is

  still : l.pending ≡ None
  still = free r o frame l s found at idle quiet is

  ends : EndsWell Idle frame.asked frame.k part l.states
  ends = quiet_ends r.servers r.last_act frame.asked frame.k part l held still

  rest : AtRest frame.ui.state o.number
  rest = at_rest frame.ui.state o.number unclaimed
      (quiet_plays r.servers r.last_act frame.asked frame.k part l held still)

  -- the frame is given up
  giving_steady : (ts : List Step) (w : States) (h : AtHeld frame.ui.state o.number)
      → ended (Ok l.states) (map (operation_of 0) (step.UiDeactivate ∷ ts)) ≡ Ok w
      → EndsWell Idle frame.asked frame.k Other w → l.states.object ≡ UiActive
      → AllByRecursion IsPlain (map (operation_of 0) ts)
      → Steady (leaving_made r frame o l (step.UiDeactivate ∷ ts)).rec
  giving_steady ts w h runs end shown plain =
      let ops = map (operation_of 0) (step.UiDeactivate ∷ ts) in
      let claims : SteadyGrant r o.frame (state.Held h.holder h.tools) =
      subst (SteadyGrant r o.frame) h.is (s.grants o.frame frame at) in
      let act = claim_act r o.frame h.holder o l claims.holder h.named found is in
      let ui = after frame.ui (Ask (claim_of o l (grant_of frame.ui.state))) in
      let to : ui.state ≡ state.Revoking h.holder None = own_ask frame.ui.state h.holder h.tools o.number l.act h.is
      act in
      let u = moved_to r o.frame frame ui r.last_g in
      let but : SteadyBut (o.number ∷ []) u = move_but r o.frame frame ui r.last_g (o.number ∷ []) s at (omega arith)
      (ended_grant r o.frame frame.ui.state ui.state h.holder h.tools h.is to (s.grants o.frame frame at))
      (ended_parts frame.ui.state ui.state h.holder h.tools o.number h.is to h.named) in
      let m = (stepped_link 0 l (step.UiDeactivate ∷ ts)).link in
      let asked = asked_each l ops held.waits_behind in
      let role : role_in ui.state o.number ≡ Giving h.holder.g = ap (λ (z : GrantState). role_in z o.number) to
      ∙ gives_it h.holder None o.number h.named in
      let link : SteadyLink r.servers r.last_act Idle frame.asked frame.k (Giving h.holder.g) m =
      quiet_asked r.servers r.last_act frame.asked frame.k part l held still Idle frame.asked frame.k
      (Giving h.holder.g) ops
      (subst (λ (z : Result States StateFault). IsOkAnd z (EndsWell Idle frame.asked frame.k (Giving h.holder.g)))
      (sym runs) (record {
        storage = end.storage;
        last_save = end.last_save;
        running = end.running;
        waits = tt;
      }))
      (steps_timely 0 l.saved (step.UiDeactivate ∷ ts)) held.saved_known shown plain in
      let x : Object = record o { link = Some m } in
      all_steady (record u { objects = put (is_object o.number) x u.objects })
      (put_but u [] o x but found
      (record {
        number = refl;
        frame = refl;
        link = λ n e. (let same : m ≡ n = cc in (l, is, sym (ap (λ (z : Link). z.act) same) ∙ asked.act));
      })
      (λ n e. (let both = sym is ∙ e in let same : l ≡ n = cc in (m, refl, asked.act ∙ ap (λ (z : Link). z.act) same)))
      (set_object r u o.frame frame (record frame { ui = ui }) o x at refl refl refl refl refl
      (was r o frame l s found at idle quiet is).within refl (was r o frame l s found at idle quiet is)
      (λ q. subst (λ (p : Phase). SteadyLink r.servers r.last_act p frame.asked frame.k (role_in ui.state o.number)
      m) (sym idle) (subst (λ (z : Role). SteadyLink r.servers r.last_act Idle frame.asked frame.k z m)
      (sym role) link))))

  -- other steps leave it to whoever has it
  plain_steady : (ts : List Step) (w : States) → ended (Ok l.states) (map (operation_of 0) ts) ≡ Ok w
      → EndsWell Idle frame.asked frame.k Other w → gives_up ts ≡ false → part ≡ Other
      → AllByRecursion IsPlain (map (operation_of 0) ts) → Steady (leaving_made r frame o l ts).rec
  plain_steady ts w runs end keeps other plain =
      let ops = map (operation_of 0) ts in
      let m = (stepped_link 0 l ts).link in
      let link : SteadyLink r.servers r.last_act Idle frame.asked frame.k Other m =
      quiet_asked r.servers r.last_act frame.asked frame.k part l held still Idle frame.asked frame.k Other ops
      (subst (λ (z : Result States StateFault). IsOkAnd z (EndsWell Idle frame.asked frame.k Other)) (sym runs) end)
      (steps_timely 0 l.saved ts) held.saved_known
      (subst (λ (z : Role). IsShown z l.states.object) other held.shown) plain in
      let here : Steady (with_object r (record o { link = Some m })) =
      linked_keeps r o frame l s found at idle quiet is m (asked_each l ops held.waits_behind).act
      (subst (λ (z : Role). SteadyLink r.servers r.last_act Idle frame.asked frame.k z m) (sym other) link) in
      subst
      (λ (b : Bool). Steady
      (with_object (if b then with_frame r o.frame (moved frame (Ask (claim_of o l (grant_of frame.ui.state))))
      else r) (record o { link = Some m }))) (sym keeps) here

  shown_other : part ≡ Other → l.states.object ≡ UiActive → ⊥
  shown_other e = subst (λ (z : Role). IsShown z l.states.object) e held.shown

  shown_holds : AtHeld frame.ui.state o.number → l.states.object ≡ UiActive
  shown_holds h = subst (λ (z : Role). IsShown z l.states.object)
      (ap (λ (z : GrantState). role_in z o.number) h.is ∙ has_it h.holder h.tools o.number h.named) held.shown

  nothing_steady : Steady (leaving_made r frame o l []).rec
  nothing_steady = linked_keeps r o frame l s found at idle quiet is l refl held

  leaving_at : (v : ObjectState) (ts : List Step) (w : States) → l.states.object ≡ v → LeavesFrom v ts
      → ended (Ok l.states) (map (operation_of 0) ts) ≡ Ok w → EndsWell Idle frame.asked frame.k Other w
      → Steady (leaving_made r frame o l ts).rec
  leaving_at v ts w e leaves_nothing runs end = nothing_steady
  leaving_at v ts w e (leaves_frame plain) runs end = elim rest [
    | holds h ↦ giving_steady _ w h runs end e plain
    | rests other ↦ absurd (shown_other other e)
  ]
  leaving_at v ts w e (leaves_plain unshown keeps each) runs end = elim rest [
    | holds h ↦ absurd (let no : true ≡ false = sym (ap is_ui (sym e ∙ shown_holds h)) ∙ unshown in cc)
    | rests other ↦ plain_steady ts w runs end keeps other each
  ]

  -- the states are those of the tables' rows
  rows : l.states ≡ record {
    persist = record { state = Normal; last_save = l.states.persist.last_save };
    object = l.states.object;
  }
  rows = ap (λ (p : PersistState). record {
    persist = record { state = p; last_save = l.states.persist.last_save };
    object = l.states.object;
  }) ends.storage

  closing_keeps : (option : CloseOption) (ts : List Step) → close_steps option l.states.object ≡ Some ts
      → Steady (leaving_made r frame o l ts).rec
  closing_keeps option ts e = leaving_at l.states.object ts
      (record { persist = record { state = Normal; last_save = l.states.persist.last_save }; object = Passive })
      refl (closing_from option l.states.object ts e)
      (ap (λ (v : States). ended (Ok v) (map (operation_of 0) ts)) rows
      ∙ close_runs option 0 l.states.object ts l.states.persist.last_save e)
      (record { storage = refl; last_save = ends.last_save; running = tt; waits = tt })

  goal_running : (v : Verb) → EndsAs Idle (goal_of v)
  goal_running Primary = tt
  goal_running Show = tt
  goal_running verb.Open = tt
  goal_running Hide = tt
  goal_running verb.UiActivate = tt
  goal_running InPlaceActivate = tt

  leaving_keeps : (v : Verb) (ts : List Step) → steps v l.states.object ≡ Some ts → takes ts ≡ false
      → Steady (leaving_made r frame o l ts).rec
  leaving_keeps v ts e n = leaving_at l.states.object ts
      (record { persist = record { state = Normal; last_save = l.states.persist.last_save }; object = goal_of v })
      refl (leaving_from v l.states.object ts e n)
      (ap (λ (v : States). ended (Ok v) (map (operation_of 0) ts)) rows
      ∙ verb_runs v 0 l.states.object ts l.states.persist.last_save e)
      (record { storage = refl; last_save = ends.last_save; running = goal_running v; waits = tt })

  -- what a row makes: of steps that leave the frame, and of steps that take it
  pub row_keeps : (ts : List Step) → IsRow l.states.object ts → Steady (leaving_made r frame o l ts).rec
  row_keeps ts (row_of_verb v row leaves) = leaving_keeps v ts row leaves
  row_keeps ts (row_of_close option row) = closing_keeps option ts row

  takes_ui : (v : Verb) (a : ObjectState) (ts : List Step) → TakesFrom v a ts → activates_ui v ≡ true
  takes_ui v a ts (hidden e) = e
  takes_ui v a ts (placed e) = e

  pub claiming_keeps : (ts : List Step) → IsTaking r frame o l ts → Steady (taking_made r frame o l ts).rec
  claiming_keeps ts h =
      let from = taking_from h.verb l.states.object ts h.row h.taken in
      let rest : is_moving frame.ui.state ≡ false = subst (λ (z : Bool). (z && is_moving frame.ui.state) ≡ false)
      (takes_ui h.verb l.states.object ts from) h.still in
      taking_keeps r o frame l s found at idle quiet is unclaimed h.verb l.states.object ts refl from
      (still_at frame.ui.state rest)
