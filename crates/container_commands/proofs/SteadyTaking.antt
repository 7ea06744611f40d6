-- Verbs that take the frame keep a record steady.
use Rattle.std.proofs.Common.{◌≡◌, ℕ, ◌+◌, Bool, false, List, [], ◌∷◌, map, Option, Some, None, Result, Ok, refl, sym}
use Rattle.std.proofs.Common.{ap, ◌∙◌, arith, subst}
use Rattle.std.proofs.lemmas.Bool.{eqb-true, ne_eqb}
use Rattle.std.specs.Prelude.{IfSome, IsOkAnd}
use Rattle.std.specs.List.{AllByRecursion}
use Rattle.message_values.specs.Found.{find, nth, put, set_nth}
use Rattle.message_values.specs.declared.operation.Operation.{Operation}
use Rattle.message_values.specs.declared.operation.Operation.TheVariants.{UiActivate, UiDeactivate, InPlace}
use Rattle.object_state.specs.declared.both_states.States.{States}
use Rattle.object_state.specs.declared.faults.StateFault.{StateFault}
use Rattle.object_state.specs.declared.object_states.ObjectState.{ObjectState}
use Rattle.object_state.specs.declared.object_states.ObjectState.TheVariants.{Running, InPlaceActive, UiActive}
use Rattle.object_state.specs.declared.persist_states.PersistState.{PersistState}
use Rattle.object_state.specs.declared.persist_states.PersistState.TheVariants.{Normal}
use Rattle.object_state.specs.declared.verbs.Verb.{Verb}
use Rattle.object_state.specs.declared.verbs.Step.{Step}
use Rattle.object_state.specs.declared.verbs.Step.TheVariants as step
use Rattle.object_state.specs.Frames.{Ui, after, kept}
use Rattle.object_state.specs.Grants.{Ask, table, waiting}
use Rattle.object_state.specs.declared.grant_states.Claim.{Claim}
use Rattle.object_state.specs.declared.grant_states.Tools.{Tools}
use Rattle.object_state.specs.declared.grant_states.GrantState.{GrantState}
use Rattle.object_state.specs.declared.grant_states.GrantState.TheVariants as state
use Rattle.container_model.specs.declared.record.Link.{Link}
use Rattle.container_model.specs.declared.record.Object.{Object}
use Rattle.container_model.specs.declared.record.Frame.{Frame}
use Rattle.container_model.specs.declared.record.Phase.{Phase}
use Rattle.container_model.specs.declared.record.Phase.TheVariants.{Idle}
use Rattle.container_model.specs.Grants.{requested}
use Rattle.container_model.specs.Record.{Record, ask, ask_each, asked_link, is_asked, is_claim, is_moving, is_object}
use Rattle.container_model.specs.Record.{with_object}
use Rattle.container_model.specs.Verbs.{before_taking, claim_of, claimed, holder_of, operation_of, revoked_at}
use Rattle.container_model.specs.Verbs.{stepped_link, steps_now, taking_made}
use Rattle.container_queues.specs.Roles.{IsClaim, IsPlain, IsShown, Getting, Giving, Holding, Plays, Role, SteadyGrant}
use Rattle.container_queues.specs.Roles.{Waiting, role_in}
use Rattle.container_queues.specs.Steady.{ended, EndsWell, IsTimely, SteadyLink, SteadyObject, Steady}
use Rattle.container_commands.proofs.SteadyAsks.{held_idle, free, was}
use Rattle.container_steady.proofs.SteadyFinds.{acts_differ, find-put_other}
use Rattle.container_queues.proofs.SteadyLinks.{asked_each, end_asked, quiet_asked, quiet_ends}
use Rattle.container_queues.proofs.SteadyLookups.{each_found}
use Rattle.container_steady.proofs.SteadyMoves.{But, SteadyBut, all_steady, gets_it, gives_it, has_it, move_but}
use Rattle.container_steady.proofs.SteadyMoves.{moved_to, parts_asked, parts_waited, put_but, set_object, waits_for_it}
use Rattle.container_queues.proofs.SteadyRoles.{AtHeld}
use Rattle.container_commands.proofs.SteadySteps.{TakesFrom, hidden, placed, steps_timely}
use Rattle.container_steady.proofs.SteadyTests.{asked_follows, find_passes, found_numbered, link_asked}

-- an object that is asked, and has another part then
pub asked_part : (servers : List Bool) (last_act : ℕ) (phase : Phase) (asked : Option (List ℕ)) (k : ℕ)
    (one two : Role) (op : Operation) (link : Option Link)
    → ((l : Link) → SteadyLink servers last_act phase asked k one l
    → SteadyLink servers last_act phase asked k two (ask l op).link)
    → IfSome link (SteadyLink servers last_act phase asked k one)
    → IfSome (asked_link op link) (SteadyLink servers last_act phase asked k two)
asked_part servers last_act phase asked k one two op None h g = tt
asked_part servers last_act phase asked k one two op (Some l) h g = h l g

pub asked_object_steady : (r u : Record) (f : ℕ) (frame frame' : Frame) (y : Object) (one two : Role)
    (op : Operation) → nth r.frames f ≡ Some frame → u.frames ≡ set_nth r.frames f frame' → y.frame ≡ f
    → u.last_object ≡ r.last_object → u.servers ≡ r.servers → u.last_act ≡ r.last_act
    → frame'.phase ≡ frame.phase → frame'.asked ≡ frame.asked → frame'.k ≡ frame.k
    → role_in frame.ui.state y.number ≡ one → role_in frame'.ui.state y.number ≡ two
    → ((l : Link) → SteadyLink r.servers r.last_act frame.phase frame.asked frame.k one l
    → SteadyLink r.servers r.last_act frame.phase frame.asked frame.k two (ask l op).link)
    → SteadyObject r y → SteadyObject u (record y { link = asked_link op y.link })
asked_object_steady r u f frame frame' y one two op at changed here last servers act phase named k was now asks h =
    set_object r u f frame frame' y (record y { link = asked_link op y.link }) at changed here refl refl last
    h.within refl h
    (λ held. rw (servers, act, phase, named, k, now)
    (asked_part r.servers r.last_act frame.phase frame.asked frame.k one two op y.link asks
    (subst (λ (z : Role). IfSome y.link (SteadyLink r.servers r.last_act frame.phase frame.asked frame.k z)) was
    held)))

-- what a claim makes of a frame
free_ask : (s : GrantState) (c : Claim) → s ≡ state.Free → kept s (table s (Ask c)) ≡ state.Granting c
free_ask s c e = rw e refl

held_ask : (s : GrantState) (holder : Claim) (tools : Tools) (c : Claim) → s ≡ state.Held holder tools
    → (c.object ≡ holder.object → ⊥) → (c.act ≡ holder.act → ⊥) → kept s (table s (Ask c))
    ≡ state.Revoking holder (Some c)
held_ask s holder tools c e other act = rw (e, ne_eqb c.act holder.act act, ne_eqb c.object holder.object other) refl

free_parts : (s t : GrantState) (c : Claim) → s ≡ state.Free → t ≡ state.Granting c → (o : Object)
    → But (c.object ∷ []) (λ (x : Object). role_in t x.number ≡ role_in s x.number) o
free_parts s t c e q o = rw (e, q) (parts_asked c o)

held_parts : (s t : GrantState) (holder c : Claim) (tools : Tools) (n : ℕ) → s ≡ state.Held holder tools
    → t ≡ state.Revoking holder (Some c) → holder.object ≡ n → (o : Object)
    → But (n ∷ c.object ∷ []) (λ (x : Object). role_in t x.number ≡ role_in s x.number) o
held_parts s t holder c tools n e q named o =
    rw (e, q)
    (subst (λ (m : ℕ). But (m ∷ c.object ∷ []) (λ (x : Object). role_in (state.Revoking holder (Some c)) x.number
    ≡ role_in (state.Held holder tools) x.number) o) named (parts_waited holder c tools o))

-- a frame that isn't moving is free or held
pub data IsStill (s : GrantState) : Type 0 where
  is_free : s ≡ state.Free → IsStill s
  is_held : (holder : Claim) (tools : Tools) → s ≡ state.Held holder tools → IsStill s

pub still_at : (s : GrantState) → is_moving s ≡ false → IsStill s
still_at state.Free e = is_free refl
still_at (state.Held holder tools) e = is_held holder tools refl
still_at (state.Granting c) e = cc
still_at (state.Revoking c next) e = cc

module _ (r : Record) (o : Object) (frame : Frame) (l : Link) (s : Steady r)
    (found : find (is_object o.number) r.objects ≡ Some o) (at : nth r.frames o.frame ≡ Some frame)
    (idle : frame.phase ≡ Idle) (quiet : is_asked o.link ≡ false) (is : o.link ≡ Some l)
    (unclaimed : is_claim o.number (waiting frame.ui.state) ≡ false) (hides : l.states.object ≡ UiActive → ⊥) where
  abbrev part : Role
  part = role_in frame.ui.state o.number

  abbrev g : ℕ
  g = r.last_g + 1

  held : SteadyLink r.servers r.last_act Idle frame.asked frame.k part l
  held = held_idle r o frame l s found at idle quiet is

  no_holder : (h : AtHeld frame.ui.state o.number) → ⊥
  no_holder h = hides (subst (λ (z : Role). IsShown z l.states.object)
      (ap (λ (z : GrantState). role_in z o.number) h.is ∙ has_it h.holder h.tools o.number h.named) held.shown)

  still : l.pending ≡ None
  still = free r o frame l s found at idle quiet is

  ends : EndsWell Idle frame.asked frame.k part l.states
  ends = quiet_ends r.servers r.last_act frame.asked frame.k part l held still

  abbrev own : Claim
  own = claim_of o l g

  own_claim : IsClaim (record r { last_g = g }) o.frame own
  own_claim = record {
    object = o;
    link = l;
    found = found;
    inside = refl;
    linked = is;
    act = refl;
    drawn = omega arith;
  }

  -- where the object takes its place, with these operations asked
  module _ (u : Record) (ui_state : GrantState) (two : Role) (ops : List Operation)
      (now : role_in ui_state o.number ≡ two) (w : States) (runs : ended (Ok l.states) ops ≡ Ok w)
      (end : EndsWell Idle frame.asked frame.k two w) (timely : AllByRecursion (IsTimely Idle l.saved) ops)
      (shown : IsShown two l.states.object) (plays : Plays two ops) where
    abbrev m : Link
    m = (ask_each l ops).link

    pub placed_link : SteadyLink r.servers r.last_act frame.phase frame.asked frame.k (role_in ui_state o.number) m
    placed_link =
        let link : SteadyLink r.servers r.last_act Idle frame.asked frame.k two m =
        quiet_asked r.servers r.last_act frame.asked frame.k part l held still Idle frame.asked frame.k two ops
        (subst (λ (z : Result States StateFault). IsOkAnd z (EndsWell Idle frame.asked frame.k two)) (sym runs) end)
        timely held.saved_known shown plays in
        rw (idle, now) link

  put_own : (v : Record) (ui : Ui) (ops : List Operation)
      → v.frames ≡ set_nth r.frames o.frame (record frame { ui = ui }) → v.last_object ≡ r.last_object
      → v.servers ≡ r.servers → v.last_act ≡ r.last_act → SteadyBut (o.number ∷ []) v
      → find (is_object o.number) v.objects ≡ Some o
      → SteadyLink r.servers r.last_act frame.phase frame.asked frame.k (role_in ui.state o.number)
      (ask_each l ops).link → Steady (with_object v (record o { link = Some (ask_each l ops).link }))
  put_own v ui ops changed last servers acts but there link =
      let m = (ask_each l ops).link in
      let asked = asked_each l ops held.waits_behind in
      let before = was r o frame l s found at idle quiet is in
      let x : Object = record o { link = Some m } in
      all_steady (record v { objects = put (is_object o.number) x v.objects })
      (put_but v [] o x but there
      (record {
        number = refl;
        frame = refl;
        link = λ n e. (let same : m ≡ n = cc in (l, is, sym (ap (λ (z : Link). z.act) same) ∙ asked.act));
      })
      (λ n e. (let both = sym is ∙ e in let same : l ≡ n = cc in (m, refl, asked.act ∙ ap (λ (z : Link). z.act) same)))
      (set_object r v o.frame frame (record frame { ui = ui }) o x at changed refl refl refl last before.within refl
      before
      (λ q. rw (servers, acts) link)))

  abbrev ui : Ui
  ui = after frame.ui (Ask own)

  -- a free frame is being granted
  free_keeps : (ts : List Step) (w : States) → frame.ui.state ≡ state.Free
      → ended (Ok l.states) (map (operation_of g) ts) ≡ Ok w → EndsWell Idle frame.asked frame.k (Getting g) w
      → Plays (Getting g) (map (operation_of g) ts) → Steady (taking_made r frame o l ts).rec
  free_keeps ts w e runs end plays =
      let to : ui.state ≡ state.Granting own = free_ask frame.ui.state own e in
      let grant : SteadyGrant (record r { last_g = g }) o.frame ui.state =
      subst (SteadyGrant (record r { last_g = g }) o.frame) (sym to)
      (record { apart = tt; holder = own_claim; next = tt }) in
      let u = moved_to r o.frame frame ui g in
      let but : SteadyBut (o.number ∷ []) u = move_but r o.frame frame ui g (o.number ∷ []) s at (omega arith) grant
      (free_parts frame.ui.state ui.state own e to) in
      let now : role_in ui.state o.number ≡ Getting g = ap (λ (z : GrantState). role_in z o.number) to
      ∙ gets_it own o.number refl in
      let link = placed_link u ui.state (Getting g) (map (operation_of g) ts) now w runs end
      (steps_timely g l.saved ts) hides plays in
      subst (λ (z : GrantState). Steady (with_object (revoked_at (claimed r frame o l) (holder_of z)).rec
      (record o { link = Some (stepped_link g l (steps_now z ts)).link }))) (sym e)
      (put_own u ui (map (operation_of g) ts) refl refl refl refl but found link)

  -- one that another object holds is given up first
  held_keeps : (holder : Claim) (tools : Tools) (ts : List Step) (w : States)
      → frame.ui.state ≡ state.Held holder tools → ended (Ok l.states) (map (operation_of g) (before_taking ts))
      ≡ Ok w → EndsWell Idle frame.asked frame.k (Waiting g) w
      → AllByRecursion IsPlain (map (operation_of g) (before_taking ts)) → Steady (taking_made r frame o l ts).rec
  held_keeps holder tools ts w e runs end plays =
      let h : IsClaim r o.frame holder = (subst (SteadyGrant r o.frame) e (s.grants o.frame frame at)).holder in
      let apart : o.number ≡ holder.object → ⊥ =
      λ q. no_holder (record { holder = holder; tools = tools; is = e; named = sym q }) in
      let acts : l.act ≡ holder.act → ⊥ =
      λ q. apart (acts_differ r.objects o.number holder.object o h.object l h.link s.order found h.found is
      h.linked (q ∙ sym h.act)) in
      let to : ui.state ≡ state.Revoking holder (Some own) = held_ask frame.ui.state holder tools own e apart acts in
      let older : IsClaim (record r { last_g = g }) o.frame holder =
      record {
        object = h.object;
        link = h.link;
        found = h.found;
        inside = h.inside;
        linked = h.linked;
        act = h.act;
        drawn = (let d = h.drawn in omega arith);
      } in
      let grant : SteadyGrant (record r { last_g = g }) o.frame ui.state =
      subst (SteadyGrant (record r { last_g = g }) o.frame) (sym to)
      (record { apart = (apart, acts); holder = older; next = own_claim }) in
      let u = moved_to r o.frame frame ui g in
      let y = h.object in
      let named : holder.object ≡ y.number =
      sym (eqb-true y.number holder.object (find_passes (is_object holder.object) r.objects y h.found)) in
      let there = found_numbered holder.object r.objects y h.found in
      let but : SteadyBut (y.number ∷ o.number ∷ []) u = move_but r o.frame frame ui g (y.number ∷ o.number ∷ []) s
      at (omega arith) grant
      (held_parts frame.ui.state ui.state holder own tools y.number e to named) in
      let asked : Object = record y { link = asked_link UiDeactivate y.link } in
      let has : role_in frame.ui.state y.number ≡ Holding holder.g tools =
      ap (λ (z : GrantState). role_in z y.number) e ∙ has_it holder tools y.number named in
      let gives : role_in ui.state y.number ≡ Giving holder.g = ap (λ (z : GrantState). role_in z y.number) to
      ∙ gives_it holder (Some own) y.number named in
      let ends : SteadyObject u asked = asked_object_steady r u o.frame frame (record frame { ui = ui }) y
      (Holding holder.g tools) (Giving holder.g) UiDeactivate at refl h.inside refl refl refl refl refl refl has
      gives
      (end_asked r.servers r.last_act frame.phase frame.asked frame.k holder.g tools)
      (each_found (SteadyObject r) (is_object y.number) r.objects y s.objects there) in
      let told : SteadyBut (o.number ∷ []) (with_object u asked) =
      put_but u (o.number ∷ []) y asked but there
      (record { number = refl; frame = refl; link = asked_follows UiDeactivate y.link })
      (link_asked UiDeactivate y.link) ends in
      let other : y.number ≡ o.number → ⊥ = λ q. apart (sym (named ∙ q)) in
      let now : role_in ui.state o.number ≡ Waiting g = ap (λ (z : GrantState). role_in z o.number) to
      ∙ waits_for_it holder own o.number refl (λ q. apart (sym q)) in
      let link = placed_link u ui.state (Waiting g) (map (operation_of g) (before_taking ts)) now w runs end
      (steps_timely g l.saved (before_taking ts)) hides plays in
      let made : Steady (with_object (with_object u asked)
      (record o { link = Some (ask_each l (map (operation_of g) (before_taking ts))).link })) =
      put_own (with_object u asked) ui (map (operation_of g) (before_taking ts)) refl refl refl refl told
      (find-put_other y.number o.number asked r.objects refl other ∙ found) link in
      subst (λ (z : GrantState). Steady (with_object (revoked_at (claimed r frame o l) (holder_of z)).rec
      (record o { link = Some (stepped_link g l (steps_now z ts)).link }))) (sym e)
      (subst (λ (z : Option Object). Steady
      (with_object (requested u UiDeactivate z).rec
      (record o { link = Some (stepped_link g l (before_taking ts)).link }))) (sym h.found) made)

pub taking_keeps : (r : Record) (o : Object) (frame : Frame) (l : Link) (s : Steady r)
    (found : find (is_object o.number) r.objects ≡ Some o) (at : nth r.frames o.frame ≡ Some frame)
    (idle : frame.phase ≡ Idle) (quiet : is_asked o.link ≡ false) (is : o.link ≡ Some l)
    (unclaimed : is_claim o.number (waiting frame.ui.state) ≡ false)
    (v : Verb) (a : ObjectState) (ts : List Step) → l.states.object ≡ a → TakesFrom v a ts → IsStill frame.ui.state
    → Steady (taking_made r frame o l ts).rec
taking_keeps r o frame l s found at idle quiet is unclaimed v a ts e (hidden ui) moves =
    let hides : l.states.object ≡ UiActive → ⊥ = λ q. (let no = sym e ∙ q in cc) in
    let g = r.last_g + 1 in
    let last = l.states.persist.last_save in
    let held = held_idle r o frame l s found at idle quiet is in
    let ends = quiet_ends r.servers r.last_act frame.asked frame.k (role_in frame.ui.state o.number) l held
    (free r o frame l s found at idle quiet is) in
    let rows : l.states ≡ record { persist = record { state = Normal; last_save = last }; object = Running } =
    ap (λ (p : PersistState). record {
      persist = record { state = p; last_save = last };
      object = l.states.object;
    }) ends.storage
    ∙ ap (λ (z : ObjectState). record { persist = record { state = Normal; last_save = last }; object = z })
    e in
    elim moves [
      | is_free q ↦ free_keeps r o frame l s found at idle quiet is unclaimed hides
          (step.InPlace ∷ step.UiActivate ∷ [])
          (record { persist = record { state = Normal; last_save = last }; object = UiActive }) q
          (ap (λ (w : States). ended (Ok w) (InPlace ∷ UiActivate g ∷ [])) rows)
          (record { storage = refl; last_save = ends.last_save; running = tt; waits = tt }) (tt, (refl, tt))
      | is_held holder tools q ↦ held_keeps r o frame l s found at idle quiet is unclaimed hides holder tools
          (step.InPlace ∷ step.UiActivate ∷ [])
          (record { persist = record { state = Normal; last_save = last }; object = InPlaceActive }) q
          (ap (λ (w : States). ended (Ok w) (InPlace ∷ [])) rows)
          (record { storage = refl; last_save = ends.last_save; running = tt; waits = tt }) (tt, tt)
    ]
taking_keeps r o frame l s found at idle quiet is unclaimed v a ts e (placed ui) moves =
    let hides : l.states.object ≡ UiActive → ⊥ = λ q. (let no = sym e ∙ q in cc) in
    let g = r.last_g + 1 in
    let last = l.states.persist.last_save in
    let held = held_idle r o frame l s found at idle quiet is in
    let ends = quiet_ends r.servers r.last_act frame.asked frame.k (role_in frame.ui.state o.number) l held
    (free r o frame l s found at idle quiet is) in
    let rows : l.states ≡ record { persist = record { state = Normal; last_save = last }; object = InPlaceActive } =
    ap (λ (p : PersistState). record {
      persist = record { state = p; last_save = last };
      object = l.states.object;
    }) ends.storage
    ∙ ap (λ (z : ObjectState). record { persist = record { state = Normal; last_save = last }; object = z })
    e in
    elim moves [
      | is_free q ↦ free_keeps r o frame l s found at idle quiet is unclaimed hides (step.UiActivate ∷ [])
          (record { persist = record { state = Normal; last_save = last }; object = UiActive }) q
          (ap (λ (w : States). ended (Ok w) (UiActivate g ∷ [])) rows)
          (record { storage = refl; last_save = ends.last_save; running = tt; waits = tt }) (refl, tt)
      | is_held holder tools q ↦ held_keeps r o frame l s found at idle quiet is unclaimed hides holder tools
          (step.UiActivate ∷ []) (record {
            persist = record { state = Normal; last_save = last };
            object = InPlaceActive;
          }) q
          (ap (λ (w : States). ended (Ok w) []) rows)
          (record { storage = refl; last_save = ends.last_save; running = tt; waits = tt }) tt
    ]
