-- What an answer to the pending call makes of an activation, and of its part in the frame's grant.
use Rattle.std.proofs.Common.{◌≡◌, ◌≤◌, inl, inr, ℕ, Bool, true, List, [], ◌∷◌, Option, Some, None, Result, Ok, Err}
use Rattle.std.proofs.Common.{refl, sym, ap, ◌∙◌, subst}
use Rattle.std.specs.Prelude.{IsSomeAnd, IsOkAnd, IsOk, IfSome, is_ok}
use Rattle.std.specs.List.{AllByRecursion}
use Rattle.message_values.specs.Found.{nth}
use Rattle.message_values.specs.Operations.{op_of}
use Rattle.message_values.specs.declared.operation.Operation.{Operation}
use Rattle.message_values.specs.declared.operation.Operation.TheVariants.{InitNew, Load, InPlace, UiActivate}
use Rattle.message_values.specs.declared.operation.Operation.TheVariants.{UiDeactivate, InPlaceDeactivate, OpenWindow}
use Rattle.message_values.specs.declared.operation.Operation.TheVariants.{Edit, Save, HandsOff, SaveCompleted}
use Rattle.message_values.specs.declared.operation.Operation.TheVariants.{SaveDropped, Close}
use Rattle.message_values.specs.declared.answer.Answer.{Answer}
use Rattle.message_values.specs.declared.answer.Answer.TheVariants.{Done, Refused, Content}
use Rattle.message_values.specs.declared.answer.Answer.TheVariants as told
use Rattle.message_values.specs.declared.refusal.Refusal.{Refusal}
use Rattle.object_state.specs.Both as both
use Rattle.object_state.specs.Objects as object
use Rattle.object_state.specs.Persists as persist
use Rattle.object_state.specs.declared.both_states.States.{States}
use Rattle.object_state.specs.declared.faults.StateFault.{StateFault}
use Rattle.object_state.specs.declared.operations.CloseOption.{CloseOption}
use Rattle.object_state.specs.declared.operations.CloseOption.TheVariants.{SaveIfDirty, NoSave}
use Rattle.object_state.specs.declared.object_states.ObjectState.{ObjectState}
use Rattle.object_state.specs.declared.object_states.ObjectState.TheVariants.{InPlaceActive, UiActive}
use Rattle.object_state.specs.declared.persist_states.Persist.{Persist}
use Rattle.object_state.specs.declared.persist_states.PersistState.{PersistState}
use Rattle.object_state.specs.declared.persist_states.PersistState.TheVariants.{Unset, Normal}
use Rattle.tree_streams.specs.Limits.{is_within}
use Rattle.tree_streams.specs.declared.stored.Stored.{Stored}
use Rattle.object_state.specs.declared.grant_states.Tools.{Tools}
use Rattle.container_model.specs.declared.fault.ContainerFault.{ContainerFault}
use Rattle.container_model.specs.declared.grants.Tells.{Tells}
use Rattle.container_model.specs.declared.grants.Tells.TheVariants.{Gets, GivesUp}
use Rattle.container_model.specs.declared.record.Link.{Link}
use Rattle.container_model.specs.declared.record.Phase.{Phase}
use Rattle.container_model.specs.declared.record.Phase.TheVariants.{Idle, Saving}
use Rattle.container_model.specs.Record.{is_unreaped}
use Rattle.container_model.specs.Messages.{Replied, closed, closed_with, granted_link, is_fit, next_at, next_link}
use Rattle.container_model.specs.Messages.{next_s, done, saved_link, lost, noted, replied}
use Rattle.container_queues.specs.Roles.{Role, Other, Getting, Holding, Giving, IsPlain, IsShown, Plays}
use Rattle.container_queues.specs.Steady.{HasStorage, queue_of, ended, EndsWell, IsBeginning, PastFirstCall, IsTimely}
use Rattle.container_queues.specs.Steady.{IsSavedIn, MayBeStored, SteadyLink}
use Rattle.container_steps.specs.Steps.{Fits}
use Rattle.container_queues.proofs.SteadyEnding.{closing_other}
use Rattle.container_queues.proofs.SteadyQueues.{LeavesRunning, first_other, has_begun, joined_ok, taken, done_past}
use Rattle.container_queues.proofs.SteadyQueues.{edit_taken, none_asked_again, save_scribbles}
use Rattle.container_queues.proofs.SteadyRoles.{activated, deactivated, getting_role, giving_role, plain_shown}
use Rattle.container_queues.proofs.SteadyRoles.{plays_pop, shown_as}

-- the first operation that waits is sent
module _ (servers : List Bool) (last_act : ℕ) (phase : Phase) (asked : Option (List ℕ)) (k : ℕ) (role : Role) where
  pub next_steady : (l : Link) (w : States) (s : ℕ) (saved : Option Stored) (ws : List Operation) → l.act ≤ last_act
      → is_unreaped (nth servers l.inc) ≡ true → PastFirstCall w
      → IsOkAnd (ended (Ok w) ws) (EndsWell phase asked k role) → AllByRecursion (IsTimely phase saved) ws
      → IsSavedIn phase saved → MayBeStored saved → IsShown role w.object → Plays role ws
      → SteadyLink servers last_act phase asked k role
      (next_at (record l { pending = None; states = w; s = s; saved = saved; waiting = ws }) ws).link
  next_steady l w s saved [] a u past r t v b x p =
      record {
        acts_drawn = a;
        servers_told = u;
        first_call = inr past;
        waits_behind = refl;
        queue_runs = r;
        save_in_queue = t;
        saved_known = v;
        saved_within = b;
        shown = x;
        plays = p;
      }
  next_steady l w s saved (op ∷ ops) a u past r t v b x p =
      record {
        acts_drawn = a;
        servers_told = u;
        first_call = inr past;
        waits_behind = tt;
        queue_runs = r;
        save_in_queue = t;
        saved_known = v;
        saved_within = b;
        shown = x;
        plays = p;
      }

-- the part that an object has once it told of the grant, and the one that it had before
abbrev pub role_after : Option Tells → Role → Role
role_after None role = role
role_after (Some (Gets g tools)) role = Holding g tools
role_after (Some (GivesUp act)) role = Other

abbrev pub IsToldBy : Option Tells → Role → Type 0
IsToldBy None role = Unit {0}
IsToldBy (Some (Gets g tools)) role = role ≡ Getting g
IsToldBy (Some (GivesUp act)) role = (g : ℕ) × (role ≡ Giving g)

-- what is there of an activation after an answer: whoever is lost had no part in the grant
abbrev pub EndsOther : Option Link → Role → Type 0
EndsOther None role = role ≡ Other
EndsOther (Some l) role = Unit {0}

pub record Stays (servers : List Bool) (last_act : ℕ) (phase : Phase) (asked : Option (List ℕ)) (k : ℕ)
    (role : Role) (re : Replied) : Type 0 where
  pub held : IfSome (next_link re.link) (SteadyLink servers last_act phase asked k (role_after re.grant role))
  pub within : MayBeStored re.taken
  pub tells : IsToldBy re.grant role
  pub lost : EndsOther re.link role

ends_otherwise : (P : States → Type 0) (Q : States → Type 0) (r : Result States StateFault)
    → ((w : States) → P w → Q w) → IsOkAnd r P → IsOkAnd r Q
ends_otherwise P Q (Ok w) k h = k w h
ends_otherwise P Q (Err refusal) k h = absurd h

-- an object that has a storage isn't given one
begins_once : (op : Operation) (s : PersistState) (last : Option ℕ) (q : Persist) → IsBeginning op → HasStorage s
    → persist.step (record { state = s; last_save = last }) (op_of op) ≡ Ok q → ⊥
begins_once op Unset last q b h e = h
begins_once (InitNew class) Normal last q b h e = cc
begins_once (InitNew class) _ last q b h e = cc
begins_once (Load class content) Normal last q b h e = cc
begins_once (Load class content) _ last q b h e = cc
begins_once _ s last q b h e = b

-- an answer to the pending call
module _ (servers : List Bool) (last_act : ℕ) (phase : Phase) (asked : Option (List ℕ)) (k : ℕ) (role : Role)
    (l : Link) (h : SteadyLink servers last_act phase asked k role l) where
  abbrev StaysSteady : Replied → Type 0
  StaysSteady re = Stays servers last_act phase asked k role re

  done_is : (op : Operation) (w : States) → both.step l.states (op_of op) ≡ Ok w
      → done l op ≡ Ok (record {
        link = Some (record l { pending = None; states = w; s = next_s op l.s });
        taken = None;
        refused = None;
        grant = None;
      })
  done_is op w e = rw e refl

  runs : (op : Operation) → l.pending ≡ Some op → IsOkAnd (ended (Ok l.states) (op ∷ l.waiting))
      (EndsWell phase asked k role)
  runs op e = subst (λ (p : Option Operation). IsOkAnd (ended (Ok l.states) (queue_of p l.waiting))
      (EndsWell phase asked k role)) e h.queue_runs

  timely : (op : Operation) → l.pending ≡ Some op → AllByRecursion (IsTimely phase l.saved) (op ∷ l.waiting)
  timely op e = subst (λ (p : Option Operation). AllByRecursion (IsTimely phase l.saved) (queue_of p l.waiting)) e
      h.save_in_queue

  plays_as : (op : Operation) → l.pending ≡ Some op → Plays role (op ∷ l.waiting)
  plays_as op e = subst (λ (p : Option Operation). Plays role (queue_of p l.waiting)) e h.plays

  window : (op : Operation) (w : States) → both.step l.states (op_of op) ≡ Ok w
      → object.table (op_of op) l.states.object ≡ Ok w.object
  window op w e = (joined_ok (persist.step l.states.persist (op_of op)) (object.step l.states.object (op_of op)) w e).1

  goes : (op : Operation) (w : States) (later : Role) → LeavesRunning op → l.pending ≡ Some op
      → both.step l.states (op_of op) ≡ Ok w → IsOkAnd (ended (Ok w) l.waiting) (EndsWell phase asked k later)
      → IsShown later w.object → Plays later l.waiting
      → SteadyLink servers last_act phase asked k later
      (next_at (record l { pending = None; states = w; s = next_s op l.s }) l.waiting).link
  goes op w later leaves e step r x p = next_steady servers last_act phase asked k later l w (next_s op l.s) l.saved
      l.waiting h.acts_drawn h.servers_told
      (done_past op l.states w leaves (has_begun servers last_act phase asked k role l h) step) r (timely op e).1
      h.saved_known h.saved_within x p

  done_goes : (op : Operation) (re : Replied) → LeavesRunning op → IsPlain op → l.pending ≡ Some op
      → done l op ≡ Ok re → StaysSteady re
  done_goes op re leaves plain e g =
      let t = taken (EndsWell phase asked k role) l.states op l.waiting (runs op e) in
      let is = sym (done_is op t.0 t.1) ∙ g in
      let at : record {
        link = Some (record l { pending = None; states = t.0; s = next_s op l.s });
        taken = None;
        refused = None;
        grant = None;
      } ≡ re = cc in
      subst StaysSteady at (record {
        held = goes op t.0 role leaves e t.1 t.2
            (shown_as role l.states.object t.0.object
            (plain_shown op l.states.object t.0.object plain (window op t.0 t.1)) h.shown)
            (plays_pop role op l.waiting plain (plays_as op e));
        within = tt;
        tells = tt;
        lost = tt;
      })

  -- the object has its frame, or has given it up
  gets_goes : (g : ℕ) (tools : Tools) (re : Replied) → l.pending ≡ Some (UiActivate g)
      → granted_link (Gets g tools) (done l (UiActivate g)) ≡ Ok re → StaysSteady re
  gets_goes g tools re e q =
      let t = taken (EndsWell phase asked k role) l.states (UiActivate g) l.waiting (runs (UiActivate g) e) in
      let is = sym (ap (granted_link (Gets g tools)) (done_is (UiActivate g) t.0 t.1)) ∙ q in
      let at : record {
        link = Some (record l { pending = None; states = t.0; s = l.s });
        taken = None;
        refused = None;
        grant = Some (Gets g tools);
      } ≡ re = cc in
      let part = getting_role role g l.waiting (plays_as (UiActivate g) e) in
      subst StaysSteady at (record {
        held = goes (UiActivate g) t.0 (Holding g tools) tt e t.1
            (ends_otherwise (EndsWell phase asked k role) (EndsWell phase asked k (Holding g tools))
            (ended (Ok t.0) l.waiting) (λ w x. record {
              storage = x.storage;
              last_save = x.last_save;
              running = x.running;
              waits = tt;
            }) t.2)
            (activated g l.states.object t.0.object (window (UiActivate g) t.0 t.1)) part.1;
        within = tt;
        tells = part.0;
        lost = tt;
      })

  not_ui : (s : ObjectState) → s ≡ InPlaceActive → s ≡ UiActive → ⊥
  not_ui s e q = cc

  gives_goes : (re : Replied) → l.pending ≡ Some UiDeactivate → granted_link (GivesUp l.act) (done l UiDeactivate)
      ≡ Ok re → StaysSteady re
  gives_goes re e q =
      let t = taken (EndsWell phase asked k role) l.states UiDeactivate l.waiting (runs UiDeactivate e) in
      let is = sym (ap (granted_link (GivesUp l.act)) (done_is UiDeactivate t.0 t.1)) ∙ q in
      let at : record {
        link = Some (record l { pending = None; states = t.0; s = l.s });
        taken = None;
        refused = None;
        grant = Some (GivesUp l.act);
      } ≡ re = cc in
      let part = giving_role role l.waiting (plays_as UiDeactivate e) in
      subst StaysSteady at (record {
        held = goes UiDeactivate t.0 Other tt e t.1
            (ends_otherwise (EndsWell phase asked k role) (EndsWell phase asked k Other) (ended (Ok t.0) l.waiting)
            (λ w x. record { storage = x.storage; last_save = x.last_save; running = x.running; waits = tt })
            t.2)
            (not_ui t.0.object (deactivated l.states.object t.0.object (window UiDeactivate t.0 t.1)).1) part.2;
        within = tt;
        tells = (part.0, part.1);
        lost = tt;
      })

  -- past its first call it is, where an edit is pending
  edit_past : (op : Operation) → l.pending ≡ Some op → (IsBeginning op → ⊥) → PastFirstCall l.states
  edit_past op e unless = elim h.first_call [
    | inl first ↦ absurd (unless (subst (λ (p : Option Operation). IsSomeAnd p IsBeginning) e first.pending))
    | inr done ↦ done
  ]

  save_goes : (j : ℕ) (content : Stored) (re : Replied) → is_within content ≡ true → l.pending ≡ Some (Save j)
      → saved_link content (done l (Save j)) ≡ Ok re → StaysSteady re
  save_goes j content re within e g =
      let t = taken (EndsWell phase asked k role) l.states (Save j) l.waiting (runs (Save j) e) in
      let ops = timely (Save j) e in
      let is = sym (ap (saved_link content) (done_is (Save j) t.0 t.1)) ∙ g in
      let at : record {
        link = Some (record l { pending = None; states = t.0; s = l.s; saved = Some content });
        taken = None;
        refused = None;
        grant = None;
      } ≡ re = cc in
      let rest : AllByRecursion (IsTimely Saving None) l.waiting =
      subst (λ (p : Phase). AllByRecursion (IsTimely p None) l.waiting) ops.0.0
      (subst (λ (z : Option Stored). AllByRecursion (IsTimely phase z) l.waiting) ops.0.1 ops.1) in
      let again = none_asked_again j content (EndsWell phase asked k role) l.waiting t.0
      (save_scribbles l.states t.0 j t.1) t.2 rest in
      subst StaysSteady at (record {
        held = next_steady servers last_act phase asked k role l t.0 l.s (Some content) l.waiting h.acts_drawn
            h.servers_told (done_past (Save j) l.states t.0 tt (has_begun servers last_act phase asked k role l h)
            t.1) t.2
            (subst (λ (p : Phase). AllByRecursion (IsTimely p (Some content)) l.waiting) (sym ops.0.0) again)
            (subst (λ (p : Phase). IsSavedIn p (Some content)) (sym ops.0.0) tt) within
            (shown_as role l.states.object t.0.object
            (plain_shown (Save j) l.states.object t.0.object tt (window (Save j) t.0 t.1)) h.shown)
            (plays_pop role (Save j) l.waiting tt (plays_as (Save j) e));
        within = tt;
        tells = tt;
        lost = tt;
      })

  begins_other : (op : Operation) → l.pending ≡ Some op → IsBeginning op → role ≡ Other
  begins_other op e b = elim h.first_call [
    | inl first ↦ first_other servers last_act phase asked k role l h first
    | inr past ↦ (let t = taken (EndsWell phase asked k role) l.states op l.waiting (runs op e) in
        absurd (begins_once op l.states.persist.state l.states.persist.last_save t.0.persist b past.storage
        (joined_ok (persist.step l.states.persist (op_of op)) (object.step l.states.object (op_of op)) t.0
        t.1).0))
  ]

  lost_goes : (op : Operation) (why : Refusal) (re : Replied) → IsBeginning op → l.pending ≡ Some op
      → lost why ≡ Ok re → StaysSteady re
  lost_goes op why re b e g = (let at : record { link = None; taken = None; refused = Some why; grant = None }
      ≡ re = cc in subst StaysSteady at (record { held = tt; within = tt; tells = tt; lost = begins_other op e b }))

  noted_goes : (bytes : List ℕ) (why : Refusal) (re : Replied) → l.pending ≡ Some (Edit bytes) → noted l why ≡ Ok re
      → StaysSteady re
  noted_goes bytes why re e g =
      let t = taken (EndsWell phase asked k role) l.states (Edit bytes) l.waiting (runs (Edit bytes) e) in
      let past = edit_past (Edit bytes) e (λ b. b) in
      let same = sym (edit_taken l.states past.storage past.running) ∙ t.1 in
      let v : l.states ≡ t.0 = cc in
      let at : record { link = Some (record l { pending = None }); taken = None; refused = Some why; grant = None }
      ≡ re = cc in
      subst StaysSteady at (record {
        held = next_steady servers last_act phase asked k role l l.states l.s l.saved l.waiting h.acts_drawn
            h.servers_told past
            (subst (λ (z : States). IsOkAnd (ended (Ok z) l.waiting) (EndsWell phase asked k role)) (sym v) t.2)
            (timely (Edit bytes) e).1 h.saved_known h.saved_within h.shown
            (plays_pop role (Edit bytes) l.waiting tt (plays_as (Edit bytes) e));
        within = tt;
        tells = tt;
        lost = tt;
      })

  close_other : (option : CloseOption) → l.pending ≡ Some (Close option) → role ≡ Other
  close_other option e =
      let idle : phase ≡ Idle = (timely (Close option) e).0 in
      closing_other servers last_act asked k role l
      (subst (λ (p : Phase). SteadyLink servers last_act p asked k role l) idle h) option e

  closed_goes_at : (option : CloseOption) (content : Option Stored) (r : Result States StateFault) (re : Replied)
      → MayBeStored content → l.pending ≡ Some (Close option) → closed_with content r ≡ Ok re → StaysSteady re
  closed_goes_at option content (Err refusal) re m e g = cc
  closed_goes_at option content (Ok v) re m e g =
      (let at : record { link = None; taken = content; refused = None; grant = None } ≡ re = cc in
      subst StaysSteady at (record { held = tt; within = m; tells = tt; lost = close_other option e }))

  closed_goes : (option : CloseOption) (content : Option Stored) (re : Replied) → MayBeStored content
      → l.pending ≡ Some (Close option) → closed l option content ≡ Ok re → StaysSteady re
  closed_goes option content re m e g = closed_goes_at option content (both.step l.states (op_of (Close option))) re
      m e g

  -- what an answer makes of it
  pub replied_goes : (op : Operation) (answer : Answer) (re : Replied) → l.pending ≡ Some op → is_fit answer ≡ true
      → replied l op answer ≡ Ok re → StaysSteady re
  replied_goes (InitNew class) Done re e f g = done_goes (InitNew class) re tt tt e g
  replied_goes (InitNew class) (Refused why) re e f g = lost_goes (InitNew class) why re tt e g
  replied_goes (InitNew class) _ re e f g = cc
  replied_goes (Load class content) Done re e f g = done_goes (Load class content) re tt tt e g
  replied_goes (Load class content) (Refused why) re e f g = lost_goes (Load class content) why re tt e g
  replied_goes (Load class content) _ re e f g = cc
  replied_goes InPlace Done re e f g = done_goes InPlace re tt tt e g
  replied_goes InPlace _ re e f g = cc
  replied_goes (UiActivate n) (told.Tools menus border) re e f g =
      gets_goes n (record { menus = menus; border = border }) re e g
  replied_goes (UiActivate n) _ re e f g = cc
  replied_goes UiDeactivate Done re e f g = gives_goes re e g
  replied_goes UiDeactivate _ re e f g = cc
  replied_goes InPlaceDeactivate Done re e f g = done_goes InPlaceDeactivate re tt tt e g
  replied_goes InPlaceDeactivate _ re e f g = cc
  replied_goes OpenWindow Done re e f g = done_goes OpenWindow re tt tt e g
  replied_goes OpenWindow _ re e f g = cc
  replied_goes (Edit bytes) Done re e f g = done_goes (Edit bytes) re tt tt e g
  replied_goes (Edit bytes) (Refused why) re e f g = noted_goes bytes why re e g
  replied_goes (Edit bytes) _ re e f g = cc
  replied_goes (Save j) (Content content) re e f g = save_goes j content re f e g
  replied_goes (Save j) _ re e f g = cc
  replied_goes HandsOff Done re e f g = done_goes HandsOff re tt tt e g
  replied_goes HandsOff _ re e f g = cc
  replied_goes (SaveCompleted j storage) Done re e f g = done_goes (SaveCompleted j storage) re tt tt e g
  replied_goes (SaveDropped j) Done re e f g = done_goes (SaveDropped j) re tt tt e g
  replied_goes (SaveCompleted j storage) _ re e f g = cc
  replied_goes (SaveDropped j) _ re e f g = cc
  replied_goes (Close SaveIfDirty) (Content content) re e f g = closed_goes SaveIfDirty (Some content) re f e g
  replied_goes (Close SaveIfDirty) _ re e f g = cc
  replied_goes (Close NoSave) Done re e f g = closed_goes NoSave None re tt e g
  replied_goes (Close NoSave) _ re e f g = cc

  -- no answer that fits is refused
  done_taken : (op : Operation) → l.pending ≡ Some op → IsOk (done l op)
  done_taken op e = (let t = taken (EndsWell phase asked k role) l.states op l.waiting (runs op e) in
      ap (λ (o : Result Replied ContainerFault). is_ok o) (done_is op t.0 t.1))

  saved_taken : (content : Stored) (r : Result Replied ContainerFault) → IsOk r → IsOk (saved_link content r)
  saved_taken content (Ok re) o = refl
  saved_taken content (Err refusal) o = o

  granted_taken : (tells : Tells) (r : Result Replied ContainerFault) → IsOk r → IsOk (granted_link tells r)
  granted_taken tells (Ok re) o = refl
  granted_taken tells (Err refusal) o = o

  closed_taken_at : (content : Option Stored) (r : Result States StateFault) (w : States) → r ≡ Ok w
      → IsOk (closed_with content r)
  closed_taken_at content (Ok v) w e = refl
  closed_taken_at content (Err refusal) w e = cc

  closed_taken : (option : CloseOption) (content : Option Stored) → l.pending ≡ Some (Close option)
      → IsOk (closed l option content)
  closed_taken option content e =
      let t = taken (EndsWell phase asked k role) l.states (Close option) l.waiting (runs (Close option) e) in
      closed_taken_at content (both.step l.states (op_of (Close option))) t.0 t.1

  pub fitting_taken : (op : Operation) (answer : Answer) → l.pending ≡ Some op → Fits op answer
      → IsOk (replied l op answer)
  fitting_taken (InitNew class) Done e f = done_taken (InitNew class) e
  fitting_taken (InitNew class) (Refused why) e f = refl
  fitting_taken (InitNew class) _ e f = absurd f
  fitting_taken (Load class content) Done e f = done_taken (Load class content) e
  fitting_taken (Load class content) (Refused why) e f = refl
  fitting_taken (Load class content) _ e f = absurd f
  fitting_taken InPlace Done e f = done_taken InPlace e
  fitting_taken InPlace _ e f = absurd f
  fitting_taken (UiActivate g) (told.Tools menus border) e f =
      granted_taken (Gets g (record { menus = menus; border = border })) (done l (UiActivate g))
      (done_taken (UiActivate g) e)
  fitting_taken (UiActivate g) _ e f = absurd f
  fitting_taken UiDeactivate Done e f = granted_taken (GivesUp l.act) (done l UiDeactivate) (done_taken UiDeactivate e)
  fitting_taken UiDeactivate _ e f = absurd f
  fitting_taken InPlaceDeactivate Done e f = done_taken InPlaceDeactivate e
  fitting_taken InPlaceDeactivate _ e f = absurd f
  fitting_taken OpenWindow Done e f = done_taken OpenWindow e
  fitting_taken OpenWindow _ e f = absurd f
  fitting_taken (Edit bytes) Done e f = done_taken (Edit bytes) e
  fitting_taken (Edit bytes) (Refused why) e f = refl
  fitting_taken (Edit bytes) _ e f = absurd f
  fitting_taken (Save j) (Content content) e f = saved_taken content (done l (Save j)) (done_taken (Save j) e)
  fitting_taken (Save j) _ e f = absurd f
  fitting_taken HandsOff Done e f = done_taken HandsOff e
  fitting_taken HandsOff _ e f = absurd f
  fitting_taken (SaveCompleted j storage) Done e f = done_taken (SaveCompleted j storage) e
  fitting_taken (SaveDropped j) Done e f = done_taken (SaveDropped j) e
  fitting_taken (SaveCompleted j storage) _ e f = absurd f
  fitting_taken (SaveDropped j) _ e f = absurd f
  fitting_taken (Close SaveIfDirty) (Content content) e f = closed_taken SaveIfDirty (Some content) e
  fitting_taken (Close SaveIfDirty) _ e f = absurd f
  fitting_taken (Close NoSave) Done e f = closed_taken NoSave None e
  fitting_taken (Close NoSave) _ e f = absurd f

-- an answer that fits has a content that may be stored, if any
pub fits_is_fit : (op : Operation) (answer : Answer) → Fits op answer → is_fit answer ≡ true
fits_is_fit op Done f = refl
fits_is_fit op (Refused why) f = refl
fits_is_fit (Save k) (Content content) f = f
fits_is_fit (Close SaveIfDirty) (Content content) f = f
fits_is_fit (Close NoSave) (Content content) f = absurd f
fits_is_fit _ (Content content) f = absurd f
fits_is_fit op (told.Tools menus border) f = refl
