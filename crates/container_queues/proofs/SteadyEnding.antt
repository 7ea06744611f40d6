-- A close is the last operation of its queue, and of an activation that has no part in its frame's grant.
use Rattle.std.proofs.Common.{◌≡◌, ℕ, Bool, false, List, [], ◌∷◌, Option, Some, Result, Ok, Err, refl, sym, ap, ◌∙◌}
use Rattle.std.proofs.Common.{subst}
use Rattle.std.specs.Prelude.{◌||◌, IsOkAnd}
use Rattle.std.specs.List.{AllByRecursion}
use Rattle.message_values.specs.Operations.{op_of}
use Rattle.message_values.specs.declared.operation.Operation.{Operation}
use Rattle.message_values.specs.declared.operation.Operation.TheVariants.{InitNew, Load, InPlace, UiActivate}
use Rattle.message_values.specs.declared.operation.Operation.TheVariants.{UiDeactivate, InPlaceDeactivate, OpenWindow}
use Rattle.message_values.specs.declared.operation.Operation.TheVariants.{Edit, Save, HandsOff, SaveCompleted}
use Rattle.message_values.specs.declared.operation.Operation.TheVariants.{SaveDropped, Close}
use Rattle.object_state.specs.Both as both
use Rattle.object_state.specs.Persists as persist
use Rattle.object_state.specs.Persists.{may_write}
use Rattle.object_state.specs.Objects as object
use Rattle.object_state.specs.declared.both_states.States.{States}
use Rattle.object_state.specs.declared.faults.StateFault.{StateFault}
use Rattle.object_state.specs.declared.faults.StateFault.TheVariants.{WrongState}
use Rattle.object_state.specs.declared.operations.CloseOption.{CloseOption}
use Rattle.object_state.specs.declared.operations.Op.TheVariants as op
use Rattle.object_state.specs.declared.object_states.ObjectState.{ObjectState}
use Rattle.object_state.specs.declared.object_states.ObjectState.TheVariants.{Passive, Running}
use Rattle.object_state.specs.declared.persist_states.Persist.{Persist}
use Rattle.object_state.specs.declared.persist_states.PersistState.{PersistState}
use Rattle.object_state.specs.declared.persist_states.PersistState.TheVariants.{Unset, Normal, NoScribble}
use Rattle.object_state.specs.declared.persist_states.PersistState.TheVariants as state
use Rattle.tree_streams.specs.declared.stored.Stored.{Stored}
use Rattle.container_model.specs.declared.record.Link.{Link}
use Rattle.container_model.specs.declared.record.Phase.TheVariants.{Idle}
use Rattle.container_model.specs.Messages.{has_save, is_save_pending}
use Rattle.container_queues.specs.Roles.{Role, Other, Getting, Holding, Giving, Waiting, IsShown, Plays}
use Rattle.container_queues.specs.Steady.{queue_of, ended, IsRunning, EndsFor, EndsWell, IsTimely, SteadyLink}
use Rattle.container_queues.specs.Steady.{IsOpenWhileClosing}
use Rattle.container_queues.proofs.SteadyQueues.{joined_ok, taken}

-- a passive object takes no operation that may stand in a queue
passive_refuses : (saved : Option Stored) (x : Operation) → IsTimely Idle saved x
    → object.table (op_of x) Passive ≡ Err WrongState
passive_refuses saved (InitNew class) t = refl
passive_refuses saved (Load class content) t = refl
passive_refuses saved InPlace t = refl
passive_refuses saved (UiActivate g) t = refl
passive_refuses saved UiDeactivate t = refl
passive_refuses saved InPlaceDeactivate t = refl
passive_refuses saved OpenWindow t = refl
passive_refuses saved (Edit bytes) t = refl
passive_refuses saved (Save k) t = refl
passive_refuses saved HandsOff t = refl
passive_refuses saved (SaveCompleted k storage) t = refl
passive_refuses saved (SaveDropped k) t = refl
passive_refuses saved (Close option) t = refl

nothing_more : (saved : Option Stored) (P : States → Type 0) (ops : List Operation) (w : States)
    → w.object ≡ Passive → AllByRecursion (IsTimely Idle saved) ops → IsOkAnd (ended (Ok w) ops) P → ops ≡ []
nothing_more saved P [] w passive t h = refl
nothing_more saved P (x ∷ ops) w passive t h =
    let step = taken P w x ops h in
    let at = (joined_ok (persist.step w.persist (op_of x)) (object.step w.object (op_of x)) step.0 step.1).1 in
    let refused : object.table (op_of x) w.object ≡ Err WrongState = ap (object.table (op_of x)) passive
    ∙ passive_refuses saved x t.0 in
    absurd (let no : ◌≡◌ {A = Result ObjectState StateFault} (Err WrongState) (Ok step.0.object) =
    sym refused ∙ at in cc)

-- what a close is taken in, and leads to
closes_running : (option : CloseOption) (s t : ObjectState) → object.table (op.Close option) s ≡ Ok t
    → (s ≡ Running) × (t ≡ Passive)
closes_running option Running t e = (refl, (let same : Passive ≡ t = cc in sym same))
closes_running option _ t e = absurd (cc)

closes_normal_at : (option : CloseOption) (s : PersistState) (last : Option ℕ) (q : Persist)
    → persist.step (record { state = s; last_save = last }) (op.Close option) ≡ Ok q → q.state ≡ Normal → s ≡ Normal
closes_normal_at option Unset last q e n = cc
closes_normal_at option Normal last q e n = refl
closes_normal_at option NoScribble last q e n =
    let at : record { state = NoScribble; last_save = last } ≡ q = cc in
    ap (λ (z : Persist). z.state) at ∙ n
closes_normal_at option state.HandsOff last q e n =
    let at : record { state = state.HandsOff; last_save = last } ≡ q = cc in
    ap (λ (z : Persist). z.state) at ∙ n

closes_normal : (option : CloseOption) (p q : Persist) → persist.step p (op.Close option) ≡ Ok q → q.state ≡ Normal
    → p.state ≡ Normal
closes_normal option p q e n = closes_normal_at option p.state p.last_save q e n

-- so whoever ends has no part in its frame's grant
ending_other : (role : Role) (option : CloseOption) → IsShown role Running → Plays role (Close option ∷ [])
    → EndsFor role Passive → role ≡ Other
ending_other Other option s p f = refl
ending_other (Getting g) option s p f = absurd p.1
ending_other (Holding g tools) option s p f = cc
ending_other (Giving g) option s p f = absurd p.1
ending_other (Waiting g) option s p f = absurd f

module _ (servers : List Bool) (last_act : ℕ) (asked : Option (List ℕ)) (k : ℕ) (role : Role) (l : Link)
    (h : SteadyLink servers last_act Idle asked k role l) (option : CloseOption)
    (pending : l.pending ≡ Some (Close option)) where
  runs : IsOkAnd (ended (Ok l.states) (Close option ∷ l.waiting)) (EndsWell Idle asked k role)
  runs = subst (λ (p : Option Operation). IsOkAnd (ended (Ok l.states) (queue_of p l.waiting))
      (EndsWell Idle asked k role)) pending h.queue_runs

  timely : AllByRecursion (IsTimely Idle l.saved) (Close option ∷ l.waiting)
  timely = subst (λ (p : Option Operation). AllByRecursion (IsTimely Idle l.saved) (queue_of p l.waiting)) pending
      h.save_in_queue

  closes_by : (w : States) × (both.step l.states (op_of (Close option)) ≡ Ok w)
      × IsOkAnd (ended (Ok w) l.waiting) (EndsWell Idle asked k role)
  closes_by = taken (EndsWell Idle asked k role) l.states (Close option) l.waiting runs

  closes_from : (l.states.object ≡ Running) × (closes_by.0.object ≡ Passive)
  closes_from = closes_running option l.states.object closes_by.0.object
      (joined_ok (persist.step l.states.persist (op.Close option)) (object.step l.states.object (op.Close option))
      closes_by.0 closes_by.1).1

  none : l.waiting ≡ []
  none = nothing_more l.saved (EndsWell Idle asked k role) l.waiting closes_by.0 closes_from.1 timely.1 closes_by.2

  ends : EndsWell Idle asked k role closes_by.0
  ends = subst (λ (ws : List Operation). IsOkAnd (ended (Ok closes_by.0) ws) (EndsWell Idle asked k role)) none
      closes_by.2

  pub closing_open : IsOpenWhileClosing l
  closing_open =
      let at = joined_ok (persist.step l.states.persist (op.Close option))
      (object.step l.states.object (op.Close option)) closes_by.0 closes_by.1 in
      record {
        storage = ap may_write (closes_normal option l.states.persist closes_by.0.persist at.0 ends.storage);
        running = subst IsRunning (sym closes_from.0) tt;
        last = none;
        unasked = ap (λ (p : Option Operation). is_save_pending p || has_save l.waiting) pending
            ∙ ap (λ (ws : List Operation). false || has_save ws) none;
        unsaved = h.saved_known;
      }

  pub closing_other : role ≡ Other
  closing_other = ending_other role option (subst (IsShown role) closes_from.0 h.shown)
      (subst (λ (ws : List Operation). Plays role (Close option ∷ ws)) none
      (subst (λ (p : Option Operation). Plays role (queue_of p l.waiting)) pending h.plays))
      (subst (EndsFor role) closes_from.1 ends.waits)
