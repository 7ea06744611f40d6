-- Queues of operations: what both tables make of them, and activations whose queue goes on.
use Rattle.std.proofs.Common.{arith, ◌≡◌, inl, inr, ℕ, Bool, true, false, List, [], ◌∷◌, ◌++◌, Option, Some, None}
use Rattle.std.proofs.Common.{Result, Ok, Err, refl, sym, ap, ◌∙◌, subst, if◌then◌else◌, eq-eqb}
use Rattle.std.specs.Prelude.{IsSomeAnd, IsOkAnd}
use Rattle.std.specs.List.{AllByRecursion}
use Rattle.message_values.specs.Operations.{op_of}
use Rattle.message_values.specs.declared.operation.Operation.{Operation}
use Rattle.message_values.specs.declared.operation.Operation.TheVariants.{InitNew, Load, InPlace, UiActivate}
use Rattle.message_values.specs.declared.operation.Operation.TheVariants.{UiDeactivate, InPlaceDeactivate, OpenWindow}
use Rattle.message_values.specs.declared.operation.Operation.TheVariants.{Edit, Save, HandsOff, SaveCompleted}
use Rattle.message_values.specs.declared.operation.Operation.TheVariants.{SaveDropped, Close}
use Rattle.object_state.specs.Both as both
use Rattle.object_state.specs.Persists as persist
use Rattle.object_state.specs.Objects as object
use Rattle.object_state.specs.declared.both_states.States.{States}
use Rattle.object_state.specs.declared.operations.Op.{Op}
use Rattle.object_state.specs.declared.operations.Op.TheVariants as op
use Rattle.object_state.specs.declared.faults.StateFault.{StateFault}
use Rattle.object_state.specs.declared.faults.StateFault.TheVariants as fault
use Rattle.object_state.specs.declared.persist_states.Persist.{Persist}
use Rattle.object_state.specs.declared.persist_states.PersistState.{PersistState}
use Rattle.object_state.specs.declared.persist_states.PersistState.TheVariants.{Unset, Normal, NoScribble}
use Rattle.object_state.specs.declared.persist_states.PersistState.TheVariants as state
use Rattle.object_state.specs.declared.object_states.ObjectState.{ObjectState}
use Rattle.object_state.specs.declared.object_states.ObjectState.TheVariants.{Passive, Loaded, Running, InPlaceActive}
use Rattle.object_state.specs.declared.object_states.ObjectState.TheVariants.{UiActive}
use Rattle.tree_streams.specs.declared.stored.Stored.{Stored}
use Rattle.container_model.specs.declared.record.Link.{Link}
use Rattle.container_model.specs.declared.record.Phase.{Phase}
use Rattle.container_model.specs.Saves.{is_some_name}
use Rattle.container_model.specs.declared.record.Phase.TheVariants.{Idle, Saving, HandingOff, Committing}
use Rattle.container_queues.specs.Roles.{Role, Other, Getting, Holding, Giving, Waiting, IsPlain, IsShown, Plays}
use Rattle.container_queues.specs.Steady.{queue_of, stepped, ended, IsRunning, HasStorage, storage_by, storage_in}
use Rattle.container_queues.specs.Steady.{IsOfSave, EndsAs, EndsFor, EndsWell, IsBeginning, AtFirstCall, PastFirstCall}
use Rattle.container_queues.specs.Steady.{IsTimely, SteadyLink}
use Rattle.container_queues.proofs.SteadyRoles.{is_ui, plain_shown}

-- runs of a queue
pub ended_append : (r : Result States StateFault) (ops : List Operation) (op : Operation)
    → ended r (ops ++ op ∷ []) ≡ stepped (ended r ops) op
ended_append r [] op = refl
ended_append r (x ∷ xs) op = ended_append (stepped r x) xs op

pub ended_join : (r : Result States StateFault) (ops more : List Operation)
    → ended r (ops ++ more) ≡ ended (ended r ops) more
ended_join r [] more = refl
ended_join r (x ∷ xs) more = ended_join (stepped r x) xs more

ended_refused : (refusal : StateFault) (ops : List Operation) → ended (Err refusal) ops ≡ Err refusal
ended_refused refusal [] = refl
ended_refused refusal (op ∷ ops) = ended_refused refusal ops

taken_at : (P : States → Type 0) (r : Result States StateFault) (ops : List Operation) → IsOkAnd (ended r ops) P
    → (w : States) × (r ≡ Ok w) × IsOkAnd (ended (Ok w) ops) P
taken_at P (Ok w) ops h = (w, refl, h)
taken_at P (Err refusal) ops h =
    absurd (subst (λ (z : Result States StateFault). IsOkAnd z P) (ended_refused refusal ops) h)

-- the first operation of a queue that runs is taken
pub taken : (P : States → Type 0) (v : States) (op : Operation) (ops : List Operation)
    → IsOkAnd (ended (Ok v) (op ∷ ops)) P → (w : States) × (both.step v (op_of op) ≡ Ok w)
    × IsOkAnd (ended (Ok w) ops) P
taken P v op ops h = taken_at P (both.step v (op_of op)) ops h

-- what the tables lead to
pub joined_ok : (p : Result Persist StateFault) (o : Result ObjectState StateFault) (w : States)
    → both.joined p o ≡ Ok w → (p ≡ Ok w.persist) × (o ≡ Ok w.object)
joined_ok (Err refusal) o w e = cc
joined_ok (Ok p) (Err refusal) w e = cc
joined_ok (Ok p) (Ok o) w e =
    let at : record { persist = p; object = o } ≡ w = cc in
    (ap (λ (v : States). Ok v.persist) at, ap (λ (v : States). Ok v.object) at)

abbrev IsSet : Result PersistState StateFault → Type 0
IsSet (Ok s) = HasStorage s
IsSet (Err refusal) = Unit {0}

numbered_set : (p q : Persist) (op : Op) (r : Result PersistState StateFault) → IsSet r
    → persist.numbered p op r ≡ Ok q → HasStorage q.state
numbered_set p q op (Err refusal) h e = cc
numbered_set p q op (Ok s) h e =
    elim (persist.ends_last (persist.ended_save op) p.last_save) as (λ b. ◌≡◌ {A = Result Persist StateFault}
    (if b then Ok (record { state = s; last_save = persist.save_after p.last_save op }) else Err fault.WrongState)
    (Ok q) → HasStorage q.state) [
      | true ↦ (λ g. let at : record { state = s; last_save = persist.save_after p.last_save op } ≡ q = cc in
          subst HasStorage (ap (λ (z : Persist). z.state) at) h)
      | false ↦ (λ g. cc)
    ] e

-- operations that leave an object running
abbrev pub LeavesRunning : Operation → Type 0
LeavesRunning (InitNew class) = Unit {0}
LeavesRunning (Load class content) = Unit {0}
LeavesRunning InPlace = Unit {0}
LeavesRunning (UiActivate g) = Unit {0}
LeavesRunning UiDeactivate = Unit {0}
LeavesRunning InPlaceDeactivate = Unit {0}
LeavesRunning OpenWindow = Unit {0}
LeavesRunning (Edit bytes) = Unit {0}
LeavesRunning (Save k) = Unit {0}
LeavesRunning HandsOff = Unit {0}
LeavesRunning (SaveCompleted k storage) = Unit {0}
LeavesRunning (SaveDropped k) = Unit {0}
LeavesRunning op = ⊥

row_set : (op : Operation) (s : PersistState) → LeavesRunning op → IsSet (persist.table (op_of op) s)
row_set (InitNew class) Unset t = tt
row_set (InitNew class) _ t = tt
row_set (Load class content) Unset t = tt
row_set (Load class content) _ t = tt
row_set InPlace Unset t = tt
row_set InPlace _ t = tt
row_set (UiActivate g) Unset t = tt
row_set (UiActivate g) _ t = tt
row_set UiDeactivate Unset t = tt
row_set UiDeactivate _ t = tt
row_set InPlaceDeactivate Unset t = tt
row_set InPlaceDeactivate _ t = tt
row_set OpenWindow Unset t = tt
row_set OpenWindow _ t = tt
row_set (Edit bytes) Unset t = tt
row_set (Edit bytes) _ t = tt
row_set (Save k) Unset t = tt
row_set (Save k) _ t = tt
row_set HandsOff Unset t = tt
row_set HandsOff _ t = tt
row_set (SaveCompleted k true) Unset t = tt
row_set (SaveCompleted k true) _ t = tt
row_set (SaveCompleted k false) Unset t = tt
row_set (SaveCompleted k false) _ t = tt
row_set (SaveDropped k) Unset t = tt
row_set (SaveDropped k) _ t = tt
row_set _ s t = absurd t

abbrev IsUp : Result ObjectState StateFault → Type 0
IsUp (Ok s) = IsRunning s
IsUp (Err refusal) = Unit {0}

-- states of an object before its first call is done, and after it
abbrev pub HasBegun : ObjectState → Type 0
HasBegun Loaded = Unit {0}
HasBegun state = IsRunning state

begun_if_running : (s : ObjectState) → IsRunning s → HasBegun s
begun_if_running Passive r = absurd r
begun_if_running Loaded r = absurd r
begun_if_running _ r = r

pub has_begun : (servers : List Bool) (last_act : ℕ) (phase : Phase) (asked : Option (List ℕ)) (k : ℕ) (role : Role)
    (l : Link) → SteadyLink servers last_act phase asked k role l → HasBegun l.states.object
has_begun servers last_act phase asked k role l h = elim h.first_call [
  | inl first ↦ subst (λ (v : States). HasBegun v.object) (sym first.states) tt
  | inr past ↦ begun_if_running l.states.object past.running
]

same_up : (s : ObjectState) → HasBegun s → IsUp (object.same_if_running s)
same_up Passive h = absurd h
same_up Loaded h = tt
same_up _ h = tt

row_up : (op : Operation) (s : ObjectState) → LeavesRunning op → HasBegun s → IsUp (object.table (op_of op) s)
row_up (InitNew class) Loaded t h = tt
row_up (InitNew class) _ t h = tt
row_up (Load class content) Loaded t h = tt
row_up (Load class content) _ t h = tt
row_up InPlace Running t h = tt
row_up InPlace _ t h = tt
row_up (UiActivate g) InPlaceActive t h = tt
row_up (UiActivate g) _ t h = tt
row_up UiDeactivate UiActive t h = tt
row_up UiDeactivate _ t h = tt
row_up InPlaceDeactivate InPlaceActive t h = tt
row_up InPlaceDeactivate _ t h = tt
row_up OpenWindow Running t h = tt
row_up OpenWindow _ t h = tt
row_up (Edit bytes) s t h = same_up s h
row_up (Save k) s t h = same_up s h
row_up HandsOff s t h = same_up s h
row_up (SaveCompleted k storage) s t h = same_up s h
row_up (SaveDropped k) s t h = same_up s h
row_up _ s t h = absurd t

-- once such an operation was done, an object has its storage and runs
pub done_past : (op : Operation) (v w : States) → LeavesRunning op → HasBegun v.object
    → both.step v (op_of op) ≡ Ok w → PastFirstCall w
done_past op v w t b e =
    let j = joined_ok (persist.step v.persist (op_of op)) (object.step v.object (op_of op)) w e in
    record {
      storage = numbered_set v.persist w.persist (op_of op) (persist.table (op_of op) v.persist.state)
          (row_set op v.persist.state t) j.0;
      running = subst IsUp j.1 (row_up op v.object t b);
    }

-- an edit leaves the states
edit_taken_at : (s : PersistState) (last : Option ℕ) (o : ObjectState) → HasStorage s → IsRunning o
    → both.step (record { persist = record { state = s; last_save = last }; object = o }) op.Edit
    ≡ Ok (record { persist = record { state = s; last_save = last }; object = o })
edit_taken_at Unset last o h r = absurd h
edit_taken_at s last Passive h r = absurd r
edit_taken_at s last Loaded h r = absurd r
edit_taken_at Normal last Running h r = refl
edit_taken_at _ last _ h r = refl

pub edit_taken : (v : States) → HasStorage v.persist.state → IsRunning v.object → both.step v op.Edit ≡ Ok v
edit_taken v h r = edit_taken_at v.persist.state v.persist.last_save v.object h r

-- a running object may go on
ends_as : (phase : Phase) (s : ObjectState) → IsRunning s → EndsAs phase s
ends_as Idle Passive h = tt
ends_as Idle _ h = h
ends_as _ s h = h

pub ends_well : (phase : Phase) (asked : Option (List ℕ)) (k : ℕ) (role later : Role) (v w : States)
    → EndsWell phase asked k role v → w.persist ≡ v.persist → IsRunning w.object → EndsFor later w.object
    → EndsWell phase asked k later w
ends_well phase asked k role later v w h e r f = record {
  storage = ap (λ (p : Persist). p.state) e ∙ h.storage;
  last_save = subst (λ (p : Persist). IsOfSave phase k p.last_save) (sym e) h.last_save;
  running = ends_as phase w.object r;
  waits = f;
}

-- a save begins: the storage is not to be written into
save_begins_at : (s : PersistState) (last : Option ℕ) (o : ObjectState) (asked : Option (List ℕ)) (k : ℕ)
    (role : Role) → s ≡ Normal → IsRunning o → EndsFor role o
    → IsOkAnd (both.step (record { persist = record { state = s; last_save = last }; object = o }) (op.Save k))
    (EndsWell Saving asked k role)
save_begins_at Unset last o asked k role e r f = cc
save_begins_at NoScribble last o asked k role e r f = cc
save_begins_at state.HandsOff last o asked k role e r f = cc
save_begins_at Normal last Passive asked k role e r f = absurd r
save_begins_at Normal last Loaded asked k role e r f = absurd r
save_begins_at Normal last _ asked k role e r f = record { storage = refl; last_save = refl; running = tt; waits = f }

pub save_begins : (v : States) (asked : Option (List ℕ)) (k : ℕ) (role : Role) → v.persist.state ≡ Normal
    → IsRunning v.object → EndsFor role v.object → IsOkAnd (both.step v (op.Save k)) (EndsWell Saving asked k role)
save_begins v asked k role e r f = save_begins_at v.persist.state v.persist.last_save v.object asked k role e r f

-- under another name it goes on: the storage is given away
hand_off_ends_at : (s : PersistState) (last : Option ℕ) (o : ObjectState) (asked : Option (List ℕ)) (k : ℕ)
    (role : Role) → s ≡ NoScribble → last ≡ Some k → IsRunning o → EndsFor role o
    → IsOkAnd (both.step (record { persist = record { state = s; last_save = last }; object = o }) op.HandsOff)
    (EndsWell HandingOff asked k role)
hand_off_ends_at Unset last o asked k role e l r f = cc
hand_off_ends_at Normal last o asked k role e l r f = cc
hand_off_ends_at state.HandsOff last o asked k role e l r f = cc
hand_off_ends_at NoScribble last Passive asked k role e l r f = absurd r
hand_off_ends_at NoScribble last Loaded asked k role e l r f = absurd r
hand_off_ends_at NoScribble last _ asked k role e l r f =
    record { storage = refl; last_save = l; running = tt; waits = f }

pub hand_off_ends : (v : States) (asked : Option (List ℕ)) (k : ℕ) (role : Role) → v.persist.state ≡ NoScribble
    → v.persist.last_save ≡ Some k → IsRunning v.object → EndsFor role v.object
    → IsOkAnd (both.step v op.HandsOff) (EndsWell HandingOff asked k role)
hand_off_ends v asked k role e l r f = hand_off_ends_at v.persist.state v.persist.last_save v.object asked k role e
    l r f

-- a save ends: the storage is to be written into again; where it was given away, another one comes with that
save_ends_at : (s : PersistState) (last : Option ℕ) (o : ObjectState) (k : ℕ) (role : Role) (storage : Bool)
    → s ≡ NoScribble → last ≡ Some k → IsRunning o → EndsFor role o
    → IsOkAnd (both.step (record { persist = record { state = s; last_save = last }; object = o })
    (op.SaveCompleted k storage)) (EndsWell Idle None k role)
save_ends_at Unset last o k role storage e l r f = cc
save_ends_at Normal last o k role storage e l r f = cc
save_ends_at state.HandsOff last o k role storage e l r f = cc
save_ends_at NoScribble None o k role storage e l r f = cc
save_ends_at NoScribble last Passive k role storage e l r f = absurd r
save_ends_at NoScribble last Loaded k role storage e l r f = absurd r
save_ends_at NoScribble (Some n) _ k role true e l r f =
    (let nk : n ≡ k = cc in rw (eq-eqb k n (sym nk))
    (record { storage = refl; last_save = omega arith; running = tt; waits = f }))
save_ends_at NoScribble (Some n) _ k role false e l r f =
    (let nk : n ≡ k = cc in rw (eq-eqb k n (sym nk))
    (record { storage = refl; last_save = omega arith; running = tt; waits = f }))

away_ends_at : (s : PersistState) (last : Option ℕ) (o : ObjectState) (k : ℕ) (role : Role) → s ≡ state.HandsOff
    → last ≡ Some k → IsRunning o → EndsFor role o
    → IsOkAnd (both.step (record { persist = record { state = s; last_save = last }; object = o })
    (op.SaveCompleted k true)) (EndsWell Idle None k role)
away_ends_at Unset last o k role e l r f = cc
away_ends_at Normal last o k role e l r f = cc
away_ends_at NoScribble last o k role e l r f = cc
away_ends_at state.HandsOff None o k role e l r f = cc
away_ends_at state.HandsOff last Passive k role e l r f = absurd r
away_ends_at state.HandsOff last Loaded k role e l r f = absurd r
away_ends_at state.HandsOff (Some n) _ k role e l r f =
    (let nk : n ≡ k = cc in rw (eq-eqb k n (sym nk))
    (record { storage = refl; last_save = omega arith; running = tt; waits = f }))

pub save_ends : (v : States) (asked : Option (List ℕ)) (k : ℕ) (role : Role) → v.persist.state ≡ storage_by asked
    → v.persist.last_save ≡ Some k → IsRunning v.object → EndsFor role v.object
    → IsOkAnd (both.step v (op.SaveCompleted k (is_some_name asked))) (EndsWell Idle None k role)
save_ends v None k role e l r f = save_ends_at v.persist.state v.persist.last_save v.object k role false e l r f
save_ends v (Some name) k role e l r f = away_ends_at v.persist.state v.persist.last_save v.object k role e l r f

-- so it is where the save is dropped
drop_ends_at : (s : PersistState) (last : Option ℕ) (o : ObjectState) (k : ℕ) (role : Role) → s ≡ NoScribble
    → last ≡ Some k → IsRunning o → EndsFor role o
    → IsOkAnd (both.step (record { persist = record { state = s; last_save = last }; object = o })
    (op.SaveDropped k)) (EndsWell Idle None k role)
drop_ends_at Unset last o k role e l r f = cc
drop_ends_at Normal last o k role e l r f = cc
drop_ends_at state.HandsOff last o k role e l r f = cc
drop_ends_at NoScribble None o k role e l r f = cc
drop_ends_at NoScribble last Passive k role e l r f = absurd r
drop_ends_at NoScribble last Loaded k role e l r f = absurd r
drop_ends_at NoScribble (Some n) _ k role e l r f =
    (let nk : n ≡ k = cc in rw (eq-eqb k n (sym nk))
    (record { storage = refl; last_save = omega arith; running = tt; waits = f }))

drop_away_at : (s : PersistState) (last : Option ℕ) (o : ObjectState) (k : ℕ) (role : Role) → s ≡ state.HandsOff
    → last ≡ Some k → IsRunning o → EndsFor role o
    → IsOkAnd (both.step (record { persist = record { state = s; last_save = last }; object = o })
    (op.SaveDropped k)) (EndsWell Idle None k role)
drop_away_at Unset last o k role e l r f = cc
drop_away_at Normal last o k role e l r f = cc
drop_away_at NoScribble last o k role e l r f = cc
drop_away_at state.HandsOff None o k role e l r f = cc
drop_away_at state.HandsOff last Passive k role e l r f = absurd r
drop_away_at state.HandsOff last Loaded k role e l r f = absurd r
drop_away_at state.HandsOff (Some n) _ k role e l r f =
    (let nk : n ≡ k = cc in rw (eq-eqb k n (sym nk))
    (record { storage = refl; last_save = omega arith; running = tt; waits = f }))

pub drop_ends : (v : States) (asked : Option (List ℕ)) (k : ℕ) (role : Role) → v.persist.state ≡ storage_by asked
    → v.persist.last_save ≡ Some k → IsRunning v.object → EndsFor role v.object
    → IsOkAnd (both.step v (op.SaveDropped k)) (EndsWell Idle None k role)
drop_ends v None k role e l r f = drop_ends_at v.persist.state v.persist.last_save v.object k role e l r f
drop_ends v (Some name) k role e l r f = drop_away_at v.persist.state v.persist.last_save v.object k role e l r f

-- operations that leave the storage as it is
abbrev pub KeepsStorage : Operation → Type 0
KeepsStorage InPlace = Unit {0}
KeepsStorage (UiActivate g) = Unit {0}
KeepsStorage UiDeactivate = Unit {0}
KeepsStorage InPlaceDeactivate = Unit {0}
KeepsStorage OpenWindow = Unit {0}
KeepsStorage (Edit bytes) = Unit {0}
KeepsStorage (Close option) = Unit {0}
KeepsStorage op = ⊥

storage_kept_at : (op : Operation) (s : PersistState) (last : Option ℕ) → KeepsStorage op → HasStorage s
    → persist.step (record { state = s; last_save = last }) (op_of op) ≡ Ok (record { state = s; last_save = last })
storage_kept_at op Unset last k h = absurd h
storage_kept_at InPlace Normal last k h = refl
storage_kept_at InPlace _ last k h = refl
storage_kept_at (UiActivate g) Normal last k h = refl
storage_kept_at (UiActivate g) _ last k h = refl
storage_kept_at UiDeactivate Normal last k h = refl
storage_kept_at UiDeactivate _ last k h = refl
storage_kept_at InPlaceDeactivate Normal last k h = refl
storage_kept_at InPlaceDeactivate _ last k h = refl
storage_kept_at OpenWindow Normal last k h = refl
storage_kept_at OpenWindow _ last k h = refl
storage_kept_at (Edit bytes) Normal last k h = refl
storage_kept_at (Edit bytes) _ last k h = refl
storage_kept_at (Close option) Normal last k h = refl
storage_kept_at (Close option) _ last k h = refl
storage_kept_at _ s last k h = absurd k

pub storage_kept : (op : Operation) (p : Persist) → KeepsStorage op → HasStorage p.state
    → persist.step p (op_of op) ≡ Ok p
storage_kept op p k h = storage_kept_at op p.state p.last_save k h

-- the state of the window, where the storage stays
pub window_step : (op : Operation) (v : States) (t : ObjectState) → KeepsStorage op → HasStorage v.persist.state
    → object.table (op_of op) v.object ≡ Ok t → both.step v (op_of op)
    ≡ Ok (record { persist = v.persist; object = t })
window_step op v t k h e = ap (λ (p : Result Persist StateFault). both.joined p (object.step v.object (op_of op)))
    (storage_kept op v.persist k h) ∙ ap (both.joined (Ok v.persist)) e

-- queues of plain operations leave menus and border as they are
pub plain_ended : (P : States → Type 0) (ops : List Operation) (v : States) → AllByRecursion IsPlain ops
    → IsOkAnd (ended (Ok v) ops) P → (w : States) × (ended (Ok v) ops ≡ Ok w) × P w
    × (is_ui w.object ≡ is_ui v.object)
plain_ended P [] v k h = (v, refl, h, refl)
plain_ended P (x ∷ ops) v k h =
    let t = taken P v x ops h in
    let r = plain_ended P ops t.0 k.1 t.2 in
    let j = joined_ok (persist.step v.persist (op_of x)) (object.step v.object (op_of x)) t.0 t.1 in (
      r.0,
      ap (λ (z : Result States StateFault). ended z ops) t.1 ∙ r.1,
      r.2,
      r.3
          ∙ plain_shown x v.object t.0.object k.0 j.1,
    )

-- states at a queue's end have a storage
set_by : (asked : Option (List ℕ)) → HasStorage (storage_by asked)
set_by None = tt
set_by (Some name) = tt

set_in : (phase : Phase) (asked : Option (List ℕ)) → HasStorage (storage_in phase asked)
set_in Idle asked = tt
set_in Saving asked = tt
set_in HandingOff asked = tt
set_in _ asked = set_by asked

pub ends_set : (phase : Phase) (asked : Option (List ℕ)) (k : ℕ) (role : Role) (v : States)
    → EndsWell phase asked k role v → HasStorage v.persist.state
ends_set phase asked k role v h = subst HasStorage (sym h.storage) (set_in phase asked)

-- an activation at its first call is of a frame that is idle
not_by : (asked : Option (List ℕ)) → Normal ≡ storage_by asked → ⊥
not_by None e = cc
not_by (Some name) e = cc

idle_by : (phase : Phase) (asked : Option (List ℕ)) → Normal ≡ storage_in phase asked → phase ≡ Idle
idle_by Idle asked e = refl
idle_by Saving asked e = absurd (cc)
idle_by HandingOff asked e = absurd (cc)
idle_by _ asked e = absurd (not_by asked e)

record AtBeginning (phase : Phase) (role : Role) : Type 0 where
  idle : phase ≡ Idle
  other : EndsFor role Running

first_idle : (phase : Phase) (asked : Option (List ℕ)) (k : ℕ) (role : Role) (p : Option Operation)
    (ws : List Operation) (v : States) → IsSomeAnd p IsBeginning → ws ≡ [] → v ≡ both.loaded
    → IsOkAnd (ended (Ok v) (queue_of p ws)) (EndsWell phase asked k role) → AtBeginning phase role
first_idle phase asked k role None ws v b w e h = absurd b
first_idle phase asked k role (Some (InitNew class)) ws v b w e h =
    let at : IsOkAnd (ended (Ok both.loaded) (InitNew class ∷ [])) (EndsWell phase asked k role) =
    subst (λ (z : States). IsOkAnd (ended (Ok z) (InitNew class ∷ [])) (EndsWell phase asked k role)) e
    (subst (λ (z : List Operation). IsOkAnd (ended (Ok v) (InitNew class ∷ z)) (EndsWell phase asked k role)) w
    h) in
    record { idle = idle_by phase asked at.storage; other = at.waits }
first_idle phase asked k role (Some (Load class content)) ws v b w e h =
    let at : IsOkAnd (ended (Ok both.loaded) (Load class content ∷ [])) (EndsWell phase asked k role) =
    subst (λ (z : States). IsOkAnd (ended (Ok z) (Load class content ∷ [])) (EndsWell phase asked k role)) e
    (subst (λ (z : List Operation). IsOkAnd (ended (Ok v) (Load class content ∷ z))
    (EndsWell phase asked k role)) w h) in
    record { idle = idle_by phase asked at.storage; other = at.waits }
first_idle phase asked k role (Some _) ws v b w e h = absurd b

-- so where a save is under way, or nothing is pending, the first call is over
pub past_if_saving : (servers : List Bool) (last_act : ℕ) (phase : Phase) (asked : Option (List ℕ)) (k : ℕ)
    (role : Role) (l : Link) → SteadyLink servers last_act phase asked k role l → (phase ≡ Idle → ⊥)
    → PastFirstCall l.states
past_if_saving servers last_act phase asked k role l h ne = elim h.first_call [
  | inl first ↦
      absurd (ne (first_idle phase asked k role l.pending l.waiting l.states first.pending first.alone first.states
      h.queue_runs).idle)
  | inr past ↦ past
]

pub past_if_quiet : (servers : List Bool) (last_act : ℕ) (phase : Phase) (asked : Option (List ℕ)) (k : ℕ)
    (role : Role) (l : Link) → SteadyLink servers last_act phase asked k role l → l.pending ≡ None
    → PastFirstCall l.states
past_if_quiet servers last_act phase asked k role l h e = elim h.first_call [
  | inl first ↦ absurd (subst (λ (p : Option Operation). IsSomeAnd p IsBeginning) e first.pending)
  | inr past ↦ past
]

-- and so it is of whoever has a part in the frame's grant
beginning_other : (role : Role) (op : Operation) → IsBeginning op → IsShown role Loaded → Plays role (op ∷ [])
    → EndsFor role Running → role ≡ Other
beginning_other Other op b s p f = refl
beginning_other (Getting g) (InitNew class) b s p f = absurd p.1
beginning_other (Getting g) (Load class content) b s p f = absurd p.1
beginning_other (Getting g) _ b s p f = absurd b
beginning_other (Holding g tools) op b s p f = cc
beginning_other (Giving g) op b s p f = cc
beginning_other (Waiting g) op b s p f = absurd f

first_other_at : (role : Role) (p : Option Operation) (ws : List Operation) → IsSomeAnd p IsBeginning → ws ≡ []
    → IsShown role Loaded → Plays role (queue_of p ws) → EndsFor role Running → role ≡ Other
first_other_at role None ws b w s k f = absurd b
first_other_at role (Some op) ws b w s k f = beginning_other role op b s
    (subst (λ (z : List Operation). Plays role (op ∷ z)) w k) f

pub first_other : (servers : List Bool) (last_act : ℕ) (phase : Phase) (asked : Option (List ℕ)) (k : ℕ)
    (role : Role) (l : Link) → SteadyLink servers last_act phase asked k role l → AtFirstCall l → role ≡ Other
first_other servers last_act phase asked k role l h first =
    first_other_at role l.pending l.waiting first.pending first.alone
    (subst (λ (v : States). IsShown role v.object) first.states h.shown) h.plays
    (first_idle phase asked k role l.pending l.waiting l.states first.pending first.alone first.states
    h.queue_runs).other

pub past_if_part : (servers : List Bool) (last_act : ℕ) (phase : Phase) (asked : Option (List ℕ)) (k : ℕ)
    (role : Role) (l : Link) → SteadyLink servers last_act phase asked k role l → (role ≡ Other → ⊥)
    → PastFirstCall l.states
past_if_part servers last_act phase asked k role l h ne = elim h.first_call [
  | inl first ↦ absurd (ne (first_other servers last_act phase asked k role l h first))
  | inr past ↦ past
]

-- once a content was answered, none is asked for in the rest of the queue
refused_in : (q : PersistState) (v w : States) (o : Op) (h : (s : PersistState) → s ≡ q → (refusal : StateFault)
    × (persist.table o s ≡ Err refusal)) → v.persist.state ≡ q → both.step v o ≡ Ok w → ⊥
refused_in q v w o h s e = (let r = h v.persist.state s in
    let g : both.joined (persist.numbered v.persist o (persist.table o v.persist.state)) (object.table o v.object)
    ≡ Ok w = e in let g' = rw r.1 at g in cc)

pub goes_on : (op : Operation) → KeepsStorage op → (P : States → Type 0) (v : States) (ops : List Operation)
    → HasStorage v.persist.state → IsOkAnd (ended (Ok v) (op ∷ ops)) P → (w : States) × (w.persist ≡ v.persist)
    × IsOkAnd (ended (Ok w) ops) P
goes_on op keeps P v ops s h =
    let r = taken P v op ops h in
    let j = (joined_ok (persist.step v.persist (op_of op)) (object.step v.object (op_of op)) r.0 r.1).0 in
    let same : ◌≡◌ {A = Result Persist StateFault} (Ok v.persist) (Ok r.0.persist) =
    sym (storage_kept op v.persist keeps s) ∙ j in
    let at : v.persist ≡ r.0.persist = cc in
    (r.0, sym at, r.2)

goes_scribbling : (op : Operation) → KeepsStorage op → (P : States → Type 0) (v : States) (ops : List Operation)
    → v.persist.state ≡ NoScribble → IsOkAnd (ended (Ok v) (op ∷ ops)) P → (w : States)
    × (w.persist.state ≡ NoScribble) × IsOkAnd (ended (Ok w) ops) P
goes_scribbling op keeps P v ops s h = (let g = goes_on op keeps P v ops (subst HasStorage (sym s) tt) h in
    (g.0, ap (λ (p : Persist). p.state) g.1 ∙ s, g.2))

pub none_asked_again : (k : ℕ) (content : Stored) (P : States → Type 0) (ops : List Operation) (v : States)
    → v.persist.state ≡ NoScribble → IsOkAnd (ended (Ok v) ops) P → AllByRecursion (IsTimely Saving None) ops
    → AllByRecursion (IsTimely Saving (Some content)) ops
none_asked_again k content P [] v s h t = tt
none_asked_again k content P (InitNew class ∷ ops) v s h t =
    (let r = taken P v (InitNew class) ops h in
    absurd (refused_in NoScribble v r.0 op.InitNew (λ z e. (fault.AlreadyInitialized, rw e refl)) s r.1))
none_asked_again k content P (Load class c ∷ ops) v s h t =
    (let r = taken P v (Load class c) ops h in
    absurd (refused_in NoScribble v r.0 op.Load (λ z e. (fault.AlreadyInitialized, rw e refl)) s r.1))
none_asked_again k content P (Save j ∷ ops) v s h t =
    (let r = taken P v (Save j) ops h in
    absurd (refused_in NoScribble v r.0 (op.Save j) (λ z e. (fault.Scribble, rw e refl)) s r.1))
none_asked_again k content P (SaveCompleted j storage ∷ ops) v s h t = absurd (let e = t.0 in cc)
none_asked_again k content P (SaveDropped j ∷ ops) v s h t = absurd (let e = t.0 in cc)
none_asked_again k content P (Close option ∷ ops) v s h t = absurd (let e = t.0 in cc)
none_asked_again k content P (InPlace ∷ ops) v s h t =
    (let g = goes_scribbling InPlace tt P v ops s h in (tt, none_asked_again k content P ops g.0 g.1 g.2 t.1))
none_asked_again k content P (UiActivate n ∷ ops) v s h t =
    (let g = goes_scribbling (UiActivate n) tt P v ops s h in
    (tt, none_asked_again k content P ops g.0 g.1 g.2 t.1))
none_asked_again k content P (UiDeactivate ∷ ops) v s h t =
    (let g = goes_scribbling UiDeactivate tt P v ops s h in (tt, none_asked_again k content P ops g.0 g.1 g.2 t.1))
none_asked_again k content P (InPlaceDeactivate ∷ ops) v s h t =
    (let g = goes_scribbling InPlaceDeactivate tt P v ops s h in
    (tt, none_asked_again k content P ops g.0 g.1 g.2 t.1))
none_asked_again k content P (OpenWindow ∷ ops) v s h t =
    (let g = goes_scribbling OpenWindow tt P v ops s h in (tt, none_asked_again k content P ops g.0 g.1 g.2 t.1))
none_asked_again k content P (Edit bytes ∷ ops) v s h t =
    (let g = goes_scribbling (Edit bytes) tt P v ops s h in (tt, none_asked_again k content P ops g.0 g.1 g.2 t.1))
none_asked_again k content P (HandsOff ∷ ops) v s h t = absurd (let e = t.0 in cc)

-- once a storage was given away, it isn't asked for in the rest of the queue
goes_away : (op : Operation) → KeepsStorage op → (P : States → Type 0) (v : States) (ops : List Operation)
    → v.persist.state ≡ state.HandsOff → IsOkAnd (ended (Ok v) (op ∷ ops)) P → (w : States)
    × (w.persist.state ≡ state.HandsOff) × IsOkAnd (ended (Ok w) ops) P
goes_away op keeps P v ops s h = (let g = goes_on op keeps P v ops (subst HasStorage (sym s) tt) h in
    (g.0, ap (λ (p : Persist). p.state) g.1 ∙ s, g.2))

pub all_away : (content : Stored) (P : States → Type 0) (ops : List Operation) (v : States)
    → v.persist.state ≡ state.HandsOff → IsOkAnd (ended (Ok v) ops) P
    → AllByRecursion (IsTimely HandingOff (Some content)) ops
    → AllByRecursion (IsTimely Committing (Some content)) ops
all_away content P [] v s h t = tt
all_away content P (InitNew class ∷ ops) v s h t =
    (let r = taken P v (InitNew class) ops h in
    absurd (refused_in state.HandsOff v r.0 op.InitNew (λ z e. (fault.AlreadyInitialized, rw e refl)) s r.1))
all_away content P (Load class c ∷ ops) v s h t =
    (let r = taken P v (Load class c) ops h in
    absurd (refused_in state.HandsOff v r.0 op.Load (λ z e. (fault.AlreadyInitialized, rw e refl)) s r.1))
all_away content P (Save j ∷ ops) v s h t = absurd (let e = t.0.0 in cc)
all_away content P (HandsOff ∷ ops) v s h t =
    (let r = taken P v HandsOff ops h in
    absurd (refused_in state.HandsOff v r.0 op.HandsOff (λ z e. (fault.HandsOff, rw e refl)) s r.1))
all_away content P (SaveCompleted j storage ∷ ops) v s h t = absurd (let e = t.0 in cc)
all_away content P (SaveDropped j ∷ ops) v s h t = absurd (let e = t.0 in cc)
all_away content P (Close option ∷ ops) v s h t = absurd (let e = t.0 in cc)
all_away content P (InPlace ∷ ops) v s h t = (let g = goes_away InPlace tt P v ops s h in
    (tt, all_away content P ops g.0 g.1 g.2 t.1))
all_away content P (UiActivate n ∷ ops) v s h t = (let g = goes_away (UiActivate n) tt P v ops s h in
    (tt, all_away content P ops g.0 g.1 g.2 t.1))
all_away content P (UiDeactivate ∷ ops) v s h t = (let g = goes_away UiDeactivate tt P v ops s h in
    (tt, all_away content P ops g.0 g.1 g.2 t.1))
all_away content P (InPlaceDeactivate ∷ ops) v s h t =
    (let g = goes_away InPlaceDeactivate tt P v ops s h in (tt, all_away content P ops g.0 g.1 g.2 t.1))
all_away content P (OpenWindow ∷ ops) v s h t = (let g = goes_away OpenWindow tt P v ops s h in
    (tt, all_away content P ops g.0 g.1 g.2 t.1))
all_away content P (Edit bytes ∷ ops) v s h t = (let g = goes_away (Edit bytes) tt P v ops s h in
    (tt, all_away content P ops g.0 g.1 g.2 t.1))

-- after a content was answered
save_scribbles_at : (s : PersistState) (last : Option ℕ) (o : ObjectState) (k : ℕ) (w : States)
    → both.step (record { persist = record { state = s; last_save = last }; object = o }) (op.Save k) ≡ Ok w
    → w.persist.state ≡ NoScribble
save_scribbles_at Normal last o k w e =
    (let j = joined_ok (persist.step (record { state = Normal; last_save = last }) (op.Save k))
    (object.step o (op.Save k)) w e in
    let j0 = j.0 in
    let at : record { state = NoScribble; last_save = Some k } ≡ w.persist = cc in
    sym (ap (λ (z : Persist). z.state) at))
save_scribbles_at _ last o k w e = cc

pub save_scribbles : (v w : States) (k : ℕ) → both.step v (op.Save k) ≡ Ok w → w.persist.state ≡ NoScribble
save_scribbles v w k e = save_scribbles_at v.persist.state v.persist.last_save v.object k w e
