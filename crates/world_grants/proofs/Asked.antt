-- In a steady record within its numbers, what is pending of a link is within them, as a call.
use Rattle.std.proofs.Common.{◌≡◌, ◌≤◌, ◌==◌, ℕ, Bool, true, false, List, [], ◌∷◌, length, Option, Some, None, Result}
use Rattle.std.proofs.Common.{Ok, Err, refl, sym, ap, ◌∙◌, arith, subst, if◌then◌else◌}
use Rattle.std.proofs.lemmas.Bool.{eqb-true}
use Rattle.std.specs.Prelude.{IfSome, IsOkAnd}
use Rattle.std.specs.List.{AllByRecursion}
use Rattle.message_values.specs.Found.{nth}
use Rattle.message_values.specs.declared.message.Said.TheVariants.{Call}
use Rattle.message_values.specs.declared.operation.Operation.{Operation}
use Rattle.message_values.specs.declared.operation.Operation.TheVariants.{InitNew, Load, InPlace, UiActivate}
use Rattle.message_values.specs.declared.operation.Operation.TheVariants.{UiDeactivate, InPlaceDeactivate, OpenWindow}
use Rattle.message_values.specs.declared.operation.Operation.TheVariants.{Edit, Save, HandsOff, SaveCompleted}
use Rattle.message_values.specs.declared.operation.Operation.TheVariants.{SaveDropped, Close}
use Rattle.object_state.specs.Both as both
use Rattle.object_state.specs.Persists as persist
use Rattle.object_state.specs.Objects as object
use Rattle.object_state.specs.declared.both_states.States.{States}
use Rattle.object_state.specs.declared.faults.StateFault.{StateFault}
use Rattle.object_state.specs.declared.faults.StateFault.TheVariants as fault
use Rattle.object_state.specs.declared.object_states.ObjectState.{ObjectState}
use Rattle.object_state.specs.declared.operations.Op.{Op}
use Rattle.object_state.specs.declared.operations.Op.TheVariants as op
use Rattle.object_state.specs.declared.persist_states.Persist.{Persist}
use Rattle.object_state.specs.declared.persist_states.PersistState.{PersistState}
use Rattle.object_state.specs.declared.persist_states.PersistState.TheVariants.{Unset, Normal, NoScribble}
use Rattle.object_state.specs.declared.persist_states.PersistState.TheVariants as away
use Rattle.tree_streams.specs.declared.stored.Stored.{Stored}
use Rattle.object_state.specs.declared.grant_states.Claim.{Claim}
use Rattle.object_state.specs.declared.grant_states.GrantState.{GrantState}
use Rattle.object_state.specs.declared.grant_states.GrantState.TheVariants as state
use Rattle.object_state.specs.Grants.{who}
use Rattle.container_model.specs.declared.record.Link.{Link}
use Rattle.container_model.specs.declared.record.Phase.{Phase}
use Rattle.container_model.specs.declared.record.Phase.TheVariants.{Idle, Saving}
use Rattle.container_model.specs.Record.{Record, is_object, is_unreaped}
use Rattle.container_model.specs.Room.{HasRoom, IfLinked, IsRoomy, debt_in}
use Rattle.container_queues.specs.Roles.{Role, Other, Getting, Holding, Giving, Waiting, IsClaim, Plays, queue_of}
use Rattle.container_queues.specs.Roles.{role_in, waits_as}
use Rattle.container_queues.specs.Steady.{ended, EndsWell, IsTimely, SteadyLink, Steady}
use Rattle.container_queues.proofs.SteadyLookups.{each_found, each_nth}
use Rattle.container_queues.proofs.SteadyQueues.{goes_on, joined_ok, taken}
use Rattle.container_steady.proofs.SteadyRecords.{if_at}
use Rattle.container_numbers.specs.Sound.{IsNumbered}
use Rattle.container_numbers.proofs.SoundRooms.{IsSaved, each_of}
use Rattle.world_model.specs.Safe.{CarriesWithin, IsSaidWithin}
use Rattle.world_facts.proofs.Lookups.{nth_bound}
use Rattle.world_steps.proofs.Objects.{IsHeld}

-- a save that is asked for has the number of its frame's last one: no other can be taken behind it
refused : (v w : States) (o : Op) (h : (s : PersistState) → s ≡ NoScribble → (refusal : StateFault)
    × (persist.table o s ≡ Err refusal)) → v.persist.state ≡ NoScribble → both.step v o ≡ Ok w → ⊥
refused v w o h s e = (let r = h v.persist.state s in
    let g : both.joined (persist.numbered v.persist o (persist.table o v.persist.state)) (object.table o v.object)
    ≡ Ok w = e in let g' = rw r.1 at g in cc)

abbrev SavesAs : ℕ → Persist → Type 0
SavesAs j p = p ≡ record { state = NoScribble; last_save = Some j }

scribbles : (j : ℕ) (p : Persist) → SavesAs j p → p.state ≡ NoScribble
scribbles j p e = ap (λ (x : Persist). x.state) e

module _ (name : Option (List ℕ)) (k j : ℕ) (role : Role) (saved : Option Stored) where
  abbrev Ends : States → Type 0
  Ends = EndsWell Saving name k role

  last_one : (ops : List Operation) (v : States) → SavesAs j v.persist → IsOkAnd (ended (Ok v) ops) Ends
      → AllByRecursion (IsTimely Saving saved) ops → j ≡ k
  last_one [] v s h t = (let last = h.last_save in let now : Some j ≡ Some k =
      sym (ap (λ (x : Persist). x.last_save) s) ∙ last in cc)
  last_one (InitNew class ∷ ops) v s h t = (let r = taken Ends v (InitNew class) ops h in
      absurd (refused v r.0 op.InitNew (λ z e. (fault.AlreadyInitialized, rw e refl)) (scribbles j v.persist s)
      r.1))
  last_one (Load class c ∷ ops) v s h t = (let r = taken Ends v (Load class c) ops h in
      absurd (refused v r.0 op.Load (λ z e. (fault.AlreadyInitialized, rw e refl)) (scribbles j v.persist s) r.1))
  last_one (Save n ∷ ops) v s h t = (let r = taken Ends v (Save n) ops h in
      absurd (refused v r.0 (op.Save n) (λ z e. (fault.Scribble, rw e refl)) (scribbles j v.persist s) r.1))
  last_one (SaveCompleted n storage ∷ ops) v s h t = absurd (let e = t.0 in cc)
  last_one (SaveDropped n ∷ ops) v s h t = absurd (let e = t.0 in cc)
  last_one (Close option ∷ ops) v s h t = absurd (let e = t.0 in cc)
  last_one (InPlace ∷ ops) v s h t = (let g = goes_on InPlace tt Ends v ops (rw s tt) h in
      last_one ops g.0 (g.1 ∙ s) g.2 t.1)
  last_one (UiActivate n ∷ ops) v s h t = (let g = goes_on (UiActivate n) tt Ends v ops (rw s tt) h in
      last_one ops g.0 (g.1 ∙ s) g.2 t.1)
  last_one (UiDeactivate ∷ ops) v s h t = (let g = goes_on UiDeactivate tt Ends v ops (rw s tt) h in
      last_one ops g.0 (g.1 ∙ s) g.2 t.1)
  last_one (InPlaceDeactivate ∷ ops) v s h t = (let g = goes_on InPlaceDeactivate tt Ends v ops (rw s tt) h in
      last_one ops g.0 (g.1 ∙ s) g.2 t.1)
  last_one (OpenWindow ∷ ops) v s h t = (let g = goes_on OpenWindow tt Ends v ops (rw s tt) h in
      last_one ops g.0 (g.1 ∙ s) g.2 t.1)
  last_one (Edit bytes ∷ ops) v s h t = (let g = goes_on (Edit bytes) tt Ends v ops (rw s tt) h in
      last_one ops g.0 (g.1 ∙ s) g.2 t.1)
  last_one (HandsOff ∷ ops) v s h t = absurd (let e = t.0 in cc)

saves_at : (s : PersistState) (last : Option ℕ) (o : ObjectState) (k : ℕ) (w : States)
    → both.step (record { persist = record { state = s; last_save = last }; object = o }) (op.Save k) ≡ Ok w
    → SavesAs k w.persist
saves_at Normal last o k w e =
    (let j = joined_ok (persist.step (record { state = Normal; last_save = last }) (op.Save k))
    (object.step o (op.Save k)) w e in
    let j0 = j.0 in
    let at : record { state = NoScribble; last_save = Some k } ≡ w.persist = cc in
    sym at)
saves_at _ last o k w e = cc

-- A save that is dropped has at most the number of its frame's last one: the frame is idle by then, what waits behind
-- it tells of no save, and so its number is the last one that the queue leaves.
refused_open : (v w : States) (o : Op) (h : (s : PersistState) → s ≡ Normal → (refusal : StateFault)
    × (persist.table o s ≡ Err refusal)) → v.persist.state ≡ Normal → both.step v o ≡ Ok w → ⊥
refused_open v w o h s e = (let r = h v.persist.state s in
    let g : both.joined (persist.numbered v.persist o (persist.table o v.persist.state)) (object.table o v.object)
    ≡ Ok w = e in let g' = rw r.1 at g in cc)

abbrev opened : ℕ → Persist
opened j = record { state = Normal; last_save = Some j }

drops_numbered : (last : Option ℕ) (k : ℕ) (q : Persist)
    → ◌≡◌ {A = Result Persist StateFault} (if persist.is_number k last
    then Ok (record { state = Normal; last_save = last }) else Err fault.WrongState) (Ok q) → q ≡ opened k
drops_numbered None k q e = cc
drops_numbered (Some n) k q e = elim (k == n) as (λ b. (k == n) ≡ b
    → ◌≡◌ {A = Result Persist StateFault} (if b then Ok (opened n) else Err fault.WrongState) (Ok q)
    → q ≡ opened k) [
      | true ↦ (λ t g. let is : opened n ≡ q = cc in sym is ∙ ap opened (sym (eqb-true k n t)))
      | false ↦ (λ t g. cc)
    ] refl e

drops_at : (s : PersistState) (last : Option ℕ) (o : ObjectState) (k : ℕ) (w : States)
    → both.step (record { persist = record { state = s; last_save = last }; object = o }) (op.SaveDropped k) ≡ Ok w
    → w.persist ≡ opened k
drops_at Unset last o k w e = cc
drops_at Normal last o k w e = cc
drops_at NoScribble last o k w e = drops_numbered last k w.persist
    (joined_ok (persist.step (record { state = NoScribble; last_save = last }) (op.SaveDropped k))
    (object.step o (op.SaveDropped k)) w e).0
drops_at away.HandsOff last o k w e = drops_numbered last k w.persist
    (joined_ok (persist.step (record { state = away.HandsOff; last_save = last }) (op.SaveDropped k))
    (object.step o (op.SaveDropped k)) w e).0

open_at : (j : ℕ) (p : Persist) → p ≡ opened j → p.state ≡ Normal
open_at j p e = ap (λ (x : Persist). x.state) e

module _ (name : Option (List ℕ)) (k j : ℕ) (role : Role) (saved : Option Stored) where
  abbrev EndsIdle : States → Type 0
  EndsIdle = EndsWell Idle name k role

  dropped_last : (ops : List Operation) (v : States) → v.persist ≡ opened j → IsOkAnd (ended (Ok v) ops) EndsIdle
      → AllByRecursion (IsTimely Idle saved) ops → j ≤ k
  dropped_last [] v s h t = subst (λ (p : Persist). IfSome p.last_save (λ (n : ℕ). n ≤ k)) s h.last_save
  dropped_last (InitNew class ∷ ops) v s h t = (let r = taken EndsIdle v (InitNew class) ops h in
      absurd (refused_open v r.0 op.InitNew (λ z e. (fault.AlreadyInitialized, rw e refl)) (open_at j v.persist s)
      r.1))
  dropped_last (Load class c ∷ ops) v s h t = (let r = taken EndsIdle v (Load class c) ops h in
      absurd (refused_open v r.0 op.Load (λ z e. (fault.AlreadyInitialized, rw e refl)) (open_at j v.persist s)
      r.1))
  dropped_last (Save n ∷ ops) v s h t = absurd (let e = t.0.0 in cc)
  dropped_last (SaveCompleted n true ∷ ops) v s h t =
      (let r = taken EndsIdle v (SaveCompleted n true) ops h in
      absurd (refused_open v r.0 (op.SaveCompleted n true) (λ z e. (fault.WrongState, rw e refl))
      (open_at j v.persist s) r.1))
  dropped_last (SaveCompleted n false ∷ ops) v s h t =
      (let r = taken EndsIdle v (SaveCompleted n false) ops h in
      absurd (refused_open v r.0 (op.SaveCompleted n false) (λ z e. (fault.WrongState, rw e refl))
      (open_at j v.persist s) r.1))
  dropped_last (SaveDropped n ∷ ops) v s h t = (let r = taken EndsIdle v (SaveDropped n) ops h in
      absurd (refused_open v r.0 (op.SaveDropped n) (λ z e. (fault.WrongState, rw e refl)) (open_at j v.persist s)
      r.1))
  dropped_last (Close option ∷ ops) v s h t = (let g = goes_on (Close option) tt EndsIdle v ops (rw s tt) h in
      dropped_last ops g.0 (g.1 ∙ s) g.2 t.1)
  dropped_last (InPlace ∷ ops) v s h t = (let g = goes_on InPlace tt EndsIdle v ops (rw s tt) h in
      dropped_last ops g.0 (g.1 ∙ s) g.2 t.1)
  dropped_last (UiActivate n ∷ ops) v s h t = (let g = goes_on (UiActivate n) tt EndsIdle v ops (rw s tt) h in
      dropped_last ops g.0 (g.1 ∙ s) g.2 t.1)
  dropped_last (UiDeactivate ∷ ops) v s h t = (let g = goes_on UiDeactivate tt EndsIdle v ops (rw s tt) h in
      dropped_last ops g.0 (g.1 ∙ s) g.2 t.1)
  dropped_last (InPlaceDeactivate ∷ ops) v s h t =
      (let g = goes_on InPlaceDeactivate tt EndsIdle v ops (rw s tt) h in dropped_last ops g.0 (g.1 ∙ s) g.2 t.1)
  dropped_last (OpenWindow ∷ ops) v s h t = (let g = goes_on OpenWindow tt EndsIdle v ops (rw s tt) h in
      dropped_last ops g.0 (g.1 ∙ s) g.2 t.1)
  dropped_last (Edit bytes ∷ ops) v s h t = (let g = goes_on (Edit bytes) tt EndsIdle v ops (rw s tt) h in
      dropped_last ops g.0 (g.1 ∙ s) g.2 t.1)
  dropped_last (HandsOff ∷ ops) v s h t = absurd (let e = t.0 in cc)

-- whoever is asked to take its frame is to get it
grant_named : (grant : GrantState) (n g : ℕ) (ops : List Operation) → Plays (role_in grant n) (UiActivate g ∷ ops)
    → (claim : Claim) × (who grant ≡ Some claim) × (g ≡ claim.g)
grant_named state.Free n g ops h = absurd h.0
grant_named (state.Granting claim) n g ops h = at (claim.object == n) h
  where
    at : (b : Bool) → Plays (if b then Getting claim.g else Other) (UiActivate g ∷ ops) → (c : Claim)
        × (◌≡◌ {A = Option Claim} (Some claim) (Some c)) × (g ≡ c.g)
    at true k = (claim, refl, k.0)
    at false k = absurd k.0
grant_named (state.Held holder tools) n g ops h = absurd (at (holder.object == n) h)
  where
    at : (b : Bool) → Plays (if b then Holding holder.g tools else Other) (UiActivate g ∷ ops) → ⊥
    at true k = k.0
    at false k = k.0
grant_named (state.Revoking holder next) n g ops h = absurd (at (holder.object == n) h)
  where
    waits : (x : Option Claim) → Plays (waits_as n x) (UiActivate g ∷ ops) → ⊥
    waits None k = k.0
    waits (Some x) k = waits_at (x.object == n) k
      where
        waits_at : (b : Bool) → Plays (if b then Waiting x.g else Other) (UiActivate g ∷ ops) → ⊥
        waits_at true q = q.0
        waits_at false q = q.0

    at : (b : Bool) → Plays (if b then Giving holder.g else waits_as n next) (UiActivate g ∷ ops) → ⊥
    at true k = k.0
    at false k = waits next k

unreaped_there : (servers : List Bool) (inc : ℕ) (s : Option Bool) → nth servers inc ≡ s → is_unreaped s ≡ true
    → inc ≤ length servers
unreaped_there servers inc None f e = cc
unreaped_there servers inc (Some b) f e = nth_bound servers inc b f

module _ (limit : ℕ) (r : Record) (steady : Steady r) (numbers : IsNumbered limit r) (n : ℕ) (l : Link)
    (asked : Operation) (held : IsHeld r n l) (pending : l.pending ≡ Some asked) where
  link : SteadyLink r.servers r.last_act held.frame.phase held.frame.asked held.frame.k
      (role_in held.frame.ui.state held.object.number) l
  link = held.steady

  same : r.numbers ≡ limit
  same = numbers.limit

  inc_within : l.inc ≤ limit
  inc_within = (let there = unreaped_there r.servers l.inc (nth r.servers l.inc) refl link.servers_told in
      let most = numbers.servers in let e = same in omega arith)

  act_within : l.act ≤ limit
  act_within = (let there = link.acts_drawn in let most = numbers.acts in let e = same in omega arith)

  roomy : IsRoomy r.numbers (debt_in held.object.number (nth r.frames held.object.frame)) l
  roomy = subst (IfLinked (IsRoomy r.numbers (debt_in held.object.number (nth r.frames held.object.frame)))) held.linked
      (each_found (HasRoom r.numbers r.frames) (is_object n) r.objects held.object
      (each_of (HasRoom r.numbers r.frames) r.objects numbers.room) held.found)

  last_within : l.last ≤ limit
  last_within = (let calls = roomy.calls in let e = same in omega arith)

  pub saved_within : held.frame.k ≤ limit
  saved_within = (let k = each_nth (IsSaved r.numbers) r.frames held.object.frame held.frame
      (each_of (IsSaved r.numbers) r.frames numbers.saves) held.framed in let e = same in omega arith)

  grant_within : (g : ℕ) → asked ≡ UiActivate g → g ≤ limit
  grant_within g is =
      let grant = held.frame.ui.state in
      let plays : Plays (role_in grant held.object.number) (UiActivate g ∷ l.waiting) =
      subst (λ (p : Option Operation). Plays (role_in grant held.object.number) (queue_of p l.waiting))
      (pending ∙ ap Some is) link.plays in
      let named = grant_named grant held.object.number g l.waiting plays in
      let drawn = (if_at (IsClaim r held.object.frame) (who grant) named.0 named.1
      (steady.grants held.object.frame held.frame held.framed).holder).drawn in
      let own : g ≡ named.0.g = named.2 in
      let most = numbers.grants in
      let e = same in
      omega arith

  queue_timely : AllByRecursion (IsTimely held.frame.phase l.saved) (asked ∷ l.waiting)
  queue_timely = subst (λ (p : Option Operation). AllByRecursion (IsTimely held.frame.phase l.saved)
      (queue_of p l.waiting)) pending link.save_in_queue

  save_is : (k : ℕ) → asked ≡ Save k → k ≡ held.frame.k
  save_is k is =
      let role = role_in held.frame.ui.state held.object.number in
      let timely : AllByRecursion (IsTimely held.frame.phase l.saved) (Save k ∷ l.waiting) =
      subst (λ (o : Operation). AllByRecursion (IsTimely held.frame.phase l.saved) (o ∷ l.waiting)) is
      queue_timely in
      let saving : held.frame.phase ≡ Saving = timely.0.0 in
      let runs : IsOkAnd (ended (Ok l.states) (Save k ∷ l.waiting))
      (EndsWell Saving held.frame.asked held.frame.k role) =
      subst (λ (p : Phase). IsOkAnd (ended (Ok l.states) (Save k ∷ l.waiting))
      (EndsWell p held.frame.asked held.frame.k role)) saving
      (subst (λ (p : Option Operation). IsOkAnd (ended (Ok l.states) (queue_of p l.waiting))
      (EndsWell held.frame.phase held.frame.asked held.frame.k role)) (pending ∙ ap Some is) link.queue_runs) in
      let t = taken (EndsWell Saving held.frame.asked held.frame.k role) l.states (Save k) l.waiting runs in
      last_one held.frame.asked held.frame.k k role l.saved l.waiting t.0
      (saves_at l.states.persist.state l.states.persist.last_save l.states.object k t.0 t.1) t.2
      (subst (λ (p : Phase). AllByRecursion (IsTimely p l.saved) l.waiting) saving timely.1)

  dropped_within : (k : ℕ) → asked ≡ SaveDropped k → k ≤ held.frame.k
  dropped_within k is =
      let role = role_in held.frame.ui.state held.object.number in
      let timely : AllByRecursion (IsTimely held.frame.phase l.saved) (SaveDropped k ∷ l.waiting) =
      subst (λ (o : Operation). AllByRecursion (IsTimely held.frame.phase l.saved) (o ∷ l.waiting)) is
      queue_timely in
      let idle : held.frame.phase ≡ Idle = timely.0 in
      let runs : IsOkAnd (ended (Ok l.states) (SaveDropped k ∷ l.waiting))
      (EndsWell Idle held.frame.asked held.frame.k role) =
      subst (λ (p : Phase). IsOkAnd (ended (Ok l.states) (SaveDropped k ∷ l.waiting))
      (EndsWell p held.frame.asked held.frame.k role)) idle
      (subst (λ (p : Option Operation). IsOkAnd (ended (Ok l.states) (queue_of p l.waiting))
      (EndsWell held.frame.phase held.frame.asked held.frame.k role)) (pending ∙ ap Some is) link.queue_runs) in
      let t = taken (EndsWell Idle held.frame.asked held.frame.k role) l.states (SaveDropped k) l.waiting runs in
      dropped_last held.frame.asked held.frame.k k role l.saved l.waiting t.0
      (drops_at l.states.persist.state l.states.persist.last_save l.states.object k t.0 t.1) t.2
      (subst (λ (p : Phase). AllByRecursion (IsTimely p l.saved) l.waiting) idle timely.1)

  carries : (op : Operation) → asked ≡ op → ((k : ℕ) (storage : Bool) → op ≡ SaveCompleted k storage → k ≤ limit)
      → CarriesWithin limit op
  carries (UiActivate g) is completed = grant_within g is
  carries (Save k) is completed = (let own = save_is k is in let most = saved_within in omega arith)
  carries (SaveCompleted k storage) is completed = completed k storage refl
  carries (SaveDropped k) is completed = (let own = dropped_within k is in let most = saved_within in omega arith)
  carries _ is completed = tt

  pub call_within : ((k : ℕ) (storage : Bool) → asked ≡ SaveCompleted k storage → k ≤ limit)
      → IsSaidWithin limit (Call l.inc l.act l.last asked)
  call_within completed = (inc_within, act_within, last_within, carries asked refl completed)
