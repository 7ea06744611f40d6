-- Activations that are asked for operations, and those whose frame's save goes on.
use Rattle.std.proofs.Common.{◌≡◌, ◌≤◌, inr, ℕ, Bool, true, List, [], ◌∷◌, ◌++◌, Option, Some, None, Result, Ok, Err}
use Rattle.std.proofs.Common.{refl, sym, ap, ◌∙◌, subst}
use Rattle.std.proofs.lemmas.List.{append_assoc}
use Rattle.std.specs.Prelude.{IsOkAnd, is_some}
use Rattle.std.specs.List.{AllByRecursion}
use Rattle.message_values.specs.Found.{nth}
use Rattle.message_values.specs.Operations.{op_of}
use Rattle.message_values.specs.declared.operation.Operation.{Operation}
use Rattle.message_values.specs.declared.operation.Operation.TheVariants.{InitNew, Load, InPlace, UiActivate}
use Rattle.message_values.specs.declared.operation.Operation.TheVariants.{UiDeactivate, InPlaceDeactivate, OpenWindow}
use Rattle.message_values.specs.declared.operation.Operation.TheVariants.{Edit, Save, HandsOff, SaveCompleted}
use Rattle.message_values.specs.declared.operation.Operation.TheVariants.{SaveDropped, Close}
use Rattle.object_state.specs.Both as both
use Rattle.object_state.specs.declared.both_states.States.{States}
use Rattle.object_state.specs.declared.faults.StateFault.{StateFault}
use Rattle.object_state.specs.declared.persist_states.PersistState.TheVariants as state
use Rattle.object_state.specs.declared.object_states.ObjectState.{ObjectState}
use Rattle.object_state.specs.declared.object_states.ObjectState.TheVariants.{InPlaceActive, UiActive}
use Rattle.tree_streams.specs.declared.stored.Stored.{Stored}
use Rattle.object_state.specs.declared.grant_states.Tools.{Tools}
use Rattle.container_model.specs.declared.record.Link.{Link}
use Rattle.container_model.specs.declared.record.Phase.{Phase}
use Rattle.container_model.specs.declared.record.Phase.TheVariants.{Idle, Saving, HandingOff, Committing, InDoubt}
use Rattle.container_model.specs.Record.{is_unreaped, ask_at, ask, ask_each}
use Rattle.container_model.specs.Saves.{is_some_name}
use Rattle.container_queues.specs.Roles.{Role, Getting, Holding, Giving, Waiting, IsShown, Plays}
use Rattle.container_queues.specs.Steady.{queue_of, queue, stepped, storage_by, ended, EndsFor, EndsWell, PastFirstCall}
use Rattle.container_queues.specs.Steady.{WaitsBehind, IsTimely, IsSavedIn, MayBeStored, SteadyLink}
use Rattle.container_queues.proofs.SteadyLookups.{each_weaker, each_append}
use Rattle.container_queues.proofs.SteadyQueues.{ended_join, all_away, edit_taken, ends_set, ends_well, hand_off_ends}
use Rattle.container_queues.proofs.SteadyQueues.{plain_ended, save_begins, drop_ends, save_ends, past_if_part}
use Rattle.container_queues.proofs.SteadyQueues.{past_if_saving, past_if_quiet, window_step}
use Rattle.container_queues.proofs.SteadyRoles.{getting_last, giving_last, is_ui, plays_append, ui_active}

-- in another record
pub link_moved : (servers servers' : List Bool) (last_act last_act' : ℕ) (phase : Phase) (asked : Option (List ℕ))
    (k : ℕ) (role : Role) (l : Link) → l.act ≤ last_act' → is_unreaped (nth servers' l.inc) ≡ true
    → SteadyLink servers last_act phase asked k role l → SteadyLink servers' last_act' phase asked k role l
link_moved servers servers' last_act last_act' phase asked k role l a s h = record {
  acts_drawn = a;
  servers_told = s;
  first_call = h.first_call;
  waits_behind = h.waits_behind;
  queue_runs = h.queue_runs;
  save_in_queue = h.save_in_queue;
  saved_known = h.saved_known;
  saved_within = h.saved_within;
  shown = h.shown;
  plays = h.plays;
}

-- an activation with these operations behind its queue
pub record AskedFor (l m : Link) (ops : List Operation) : Type 0 where
  pub act : m.act ≡ l.act
  pub inc : m.inc ≡ l.inc
  pub states : m.states ≡ l.states
  pub saved : m.saved ≡ l.saved
  pub queued : queue m ≡ queue l ++ ops
  pub behind : WaitsBehind m.pending m.waiting

asked_at : (l : Link) (op : Operation) (p : Option Operation) → l.pending ≡ p → WaitsBehind p l.waiting
    → AskedFor l (ask_at l op p).link (op ∷ [])
asked_at l op None e h =
    let none : queue l ≡ [] = ap (λ (p : Option Operation). queue_of p l.waiting) e ∙ h in
    record {
      act = refl;
      inc = refl;
      states = refl;
      saved = refl;
      queued = ap (λ (xs : List Operation). op ∷ xs) h ∙ sym (ap (λ (xs : List Operation). xs ++ op ∷ []) none);
      behind = tt;
    }
asked_at l op (Some before) e h = record {
  act = refl;
  inc = refl;
  states = refl;
  saved = refl;
  queued = ap (λ (p : Option Operation). queue_of p (l.waiting ++ op ∷ [])) e
      ∙ sym (ap (λ (p : Option Operation). queue_of p l.waiting ++ op ∷ []) e);
  behind = subst (λ (p : Option Operation). WaitsBehind p (l.waiting ++ op ∷ [])) (sym e) tt;
}

pub asked_once : (l : Link) (op : Operation) → WaitsBehind l.pending l.waiting → AskedFor l (ask l op).link (op ∷ [])
asked_once l op h = asked_at l op l.pending refl h

append_none : (xs : List Operation) → xs ≡ xs ++ []
append_none [] = refl
append_none (x ∷ xs) = ap (λ (ys : List Operation). x ∷ ys) (append_none xs)

pub asked_each : (l : Link) (ops : List Operation) → WaitsBehind l.pending l.waiting
    → AskedFor l (ask_each l ops).link ops
asked_each l [] h = record {
  act = refl;
  inc = refl;
  states = refl;
  saved = refl;
  queued = append_none (queue l);
  behind = h;
}
asked_each l (op ∷ ops) h =
    let a = asked_once l op h in
    let b = asked_each (ask l op).link ops a.behind in
    record {
      act = b.act ∙ a.act;
      inc = b.inc ∙ a.inc;
      states = b.states ∙ a.states;
      saved = b.saved ∙ a.saved;
      queued = b.queued ∙ (ap (λ (xs : List Operation). xs ++ ops) a.queued ∙ append_assoc (queue l) (op ∷ []) ops);
      behind = b.behind;
    }

pub asked_steady : (servers : List Bool) (last_act : ℕ) (phase : Phase) (asked : Option (List ℕ)) (k : ℕ)
    (role : Role) (l m : Link) (ops : List Operation) → AskedFor l m ops → l.act ≤ last_act
    → is_unreaped (nth servers l.inc) ≡ true → PastFirstCall l.states
    → IsOkAnd (ended (ended (Ok l.states) (queue l)) ops) (EndsWell phase asked k role)
    → AllByRecursion (IsTimely phase l.saved) (queue l ++ ops) → IsSavedIn phase l.saved → MayBeStored l.saved
    → IsShown role l.states.object → Plays role (queue l ++ ops)
    → SteadyLink servers last_act phase asked k role m
asked_steady servers last_act phase asked k role l m ops x a u past r t v b s p = record {
  acts_drawn = subst (λ (n : ℕ). n ≤ last_act) (sym x.act) a;
  servers_told = ap (λ (n : ℕ). is_unreaped (nth servers n)) x.inc ∙ u;
  first_call = inr (subst PastFirstCall (sym x.states) past);
  waits_behind = x.behind;
  queue_runs = subst (λ (z : States). IsOkAnd (ended (Ok z) (queue m)) (EndsWell phase asked k role)) (sym x.states)
      (subst (λ (z : List Operation). IsOkAnd (ended (Ok l.states) z) (EndsWell phase asked k role)) (sym x.queued)
      (subst (λ (z : Result States StateFault). IsOkAnd z (EndsWell phase asked k role))
      (sym (ended_join (Ok l.states) (queue l) ops)) r));
  save_in_queue = subst (λ (z : Option Stored). AllByRecursion (IsTimely phase z) (queue m)) (sym x.saved)
      (subst (λ (z : List Operation). AllByRecursion (IsTimely phase l.saved) z) (sym x.queued) t);
  saved_known = subst (IsSavedIn phase) (sym x.saved) v;
  saved_within = subst MayBeStored (sym x.saved) b;
  shown = subst (λ (z : States). IsShown role z.object) (sym x.states) s;
  plays = subst (Plays role) (sym x.queued) p;
}

-- the end of a queue
pub end_of : (r : Result States StateFault) (P : States → Type 0) → IsOkAnd r P → (w : States) × (r ≡ Ok w) × P w
end_of (Ok w) P h = (w, refl, h)
end_of (Err refusal) P h = absurd h

-- where nothing is pending, nothing is to be done
pub quiet_queue : (p : Option Operation) (ws : List Operation) → p ≡ None → WaitsBehind p ws → queue_of p ws ≡ []
quiet_queue None ws e h = h
quiet_queue (Some op) ws e h = cc

-- Operations are asked for where nothing is to be done: in a frame that is idle, or whose save begins.
module _ (servers : List Bool) (last_act : ℕ) (asked : Option (List ℕ)) (k : ℕ) (role : Role) (l : Link)
    (h : SteadyLink servers last_act Idle asked k role l) (quiet : l.pending ≡ None) where
  pub none : queue l ≡ []
  none = quiet_queue l.pending l.waiting quiet h.waits_behind

  pub quiet_past : PastFirstCall l.states
  quiet_past = past_if_quiet servers last_act Idle asked k role l h quiet

  still : ended (Ok l.states) (queue l) ≡ Ok l.states
  still = ap (λ (ops : List Operation). ended (Ok l.states) ops) none

  pub quiet_ends : EndsWell Idle asked k role l.states
  quiet_ends = subst (λ (o : Result States StateFault). IsOkAnd o (EndsWell Idle asked k role)) still h.queue_runs

  pub quiet_plays : Plays role []
  quiet_plays = subst (Plays role) none h.plays

  pub quiet_asked : (phase : Phase) (name : Option (List ℕ)) (j : ℕ) (other : Role) (ops : List Operation)
      → IsOkAnd (ended (Ok l.states) ops) (EndsWell phase name j other)
      → AllByRecursion (IsTimely phase l.saved) ops → IsSavedIn phase l.saved → IsShown other l.states.object
      → Plays other ops
      → SteadyLink servers last_act phase name j other (ask_each l ops).link
  quiet_asked phase name j other ops runs timely known shown plays =
      asked_steady servers last_act phase name j other l (ask_each l ops).link ops (asked_each l ops h.waits_behind)
      h.acts_drawn h.servers_told quiet_past
      (subst (λ (o : Result States StateFault). IsOkAnd (ended o ops) (EndsWell phase name j other)) (sym still) runs)
      (subst (λ (z : List Operation). AllByRecursion (IsTimely phase l.saved) (z ++ ops)) (sym none) timely) known
      h.saved_within shown
      (subst (λ (z : List Operation). Plays other (z ++ ops)) (sym none) plays)

  pub edit_asked : (bytes : List ℕ) → SteadyLink servers last_act Idle asked k role (ask l (Edit bytes)).link
  edit_asked bytes = quiet_asked Idle asked k role (Edit bytes ∷ [])
      (subst (λ (o : Result States StateFault). IsOkAnd o (EndsWell Idle asked k role))
      (sym (edit_taken l.states quiet_past.storage quiet_past.running)) quiet_ends)
      (tt, tt) h.saved_known h.shown (plays_append role [] (Edit bytes) tt quiet_plays)

  pub save_asked : (name : Option (List ℕ)) (j : ℕ) → SteadyLink servers last_act Saving name j role
      (ask l (Save j)).link
  save_asked name j = quiet_asked Saving name j role (Save j ∷ [])
      (save_begins l.states name j role quiet_ends.storage quiet_past.running quiet_ends.waits)
      ((refl, h.saved_known), tt) tt h.shown (plays_append role [] (Save j) tt quiet_plays)

-- a frame goes on to its commit once each activation has answered
committing_op : (content : Stored) (op : Operation) → IsTimely Saving (Some content) op
    → IsTimely Committing (Some content) op
committing_op content (InitNew class) t = tt
committing_op content (Load class c) t = tt
committing_op content InPlace t = tt
committing_op content (UiActivate g) t = tt
committing_op content UiDeactivate t = tt
committing_op content InPlaceDeactivate t = tt
committing_op content OpenWindow t = tt
committing_op content (Edit bytes) t = tt
committing_op content (Save k) t = absurd (let e = t.1 in cc)
committing_op content HandsOff t = absurd (cc)
committing_op content (SaveCompleted k storage) t = absurd (cc)
committing_op content (SaveDropped k) t = absurd (cc)
committing_op content (Close option) t = absurd (cc)

committing_ops : (saved : Option Stored) (ops : List Operation) → is_some saved ≡ true
    → AllByRecursion (IsTimely Saving saved) ops → AllByRecursion (IsTimely Committing saved) ops
committing_ops None ops e t = cc
committing_ops (Some content) ops e t = each_weaker (IsTimely Saving (Some content))
    (IsTimely Committing (Some content)) ops (committing_op content) t

committing_end : (k : ℕ) (role : Role) (r : Result States StateFault) → IsOkAnd r (EndsWell Saving None k role)
    → IsOkAnd r (EndsWell Committing None k role)
committing_end k role (Ok w) h = record {
  storage = h.storage;
  last_save = h.last_save;
  running = h.running;
  waits = h.waits;
}
committing_end k role (Err refusal) h = h

pub now_committing : (servers : List Bool) (last_act k : ℕ) (role : Role) (l : Link)
    → SteadyLink servers last_act Saving None k role l → is_some l.saved ≡ true
    → SteadyLink servers last_act Committing None k role l
now_committing servers last_act k role l h e = record {
  acts_drawn = h.acts_drawn;
  servers_told = h.servers_told;
  first_call = h.first_call;
  waits_behind = h.waits_behind;
  queue_runs = committing_end k role (ended (Ok l.states) (queue l)) h.queue_runs;
  save_in_queue = committing_ops l.saved (queue l) e h.save_in_queue;
  saved_known = e;
  saved_within = h.saved_within;
  shown = h.shown;
  plays = h.plays;
}

-- under another name its storage is asked for first
handing_op : (content : Stored) (op : Operation) → IsTimely Saving (Some content) op
    → IsTimely HandingOff (Some content) op
handing_op content (InitNew class) t = tt
handing_op content (Load class c) t = tt
handing_op content InPlace t = tt
handing_op content (UiActivate g) t = tt
handing_op content UiDeactivate t = tt
handing_op content InPlaceDeactivate t = tt
handing_op content OpenWindow t = tt
handing_op content (Edit bytes) t = tt
handing_op content (Save k) t = absurd (let e = t.1 in cc)
handing_op content HandsOff t = absurd (cc)
handing_op content (SaveCompleted k storage) t = absurd (cc)
handing_op content (SaveDropped k) t = absurd (cc)
handing_op content (Close option) t = absurd (cc)

handing_ops : (saved : Option Stored) (ops : List Operation) → is_some saved ≡ true
    → AllByRecursion (IsTimely Saving saved) ops → AllByRecursion (IsTimely HandingOff saved) ops
handing_ops None ops e t = cc
handing_ops (Some content) ops e t = each_weaker (IsTimely Saving (Some content))
    (IsTimely HandingOff (Some content)) ops (handing_op content) t

pub hand_off_asked : (servers : List Bool) (last_act : ℕ) (asked : Option (List ℕ)) (k : ℕ) (role : Role) (l : Link)
    → SteadyLink servers last_act Saving asked k role l → is_some l.saved ≡ true
    → SteadyLink servers last_act HandingOff asked k role (ask l HandsOff).link
hand_off_asked servers last_act asked k role l h known =
    let e = end_of (ended (Ok l.states) (queue l)) (EndsWell Saving asked k role) h.queue_runs in
    asked_steady servers last_act HandingOff asked k role l (ask l HandsOff).link (HandsOff ∷ [])
    (asked_once l HandsOff h.waits_behind) h.acts_drawn h.servers_told
    (past_if_saving servers last_act Saving asked k role l h (λ q. cc))
    (subst (λ (o : Result States StateFault). IsOkAnd (stepped o HandsOff) (EndsWell HandingOff asked k role))
    (sym e.1) (hand_off_ends e.0 asked k role e.2.storage e.2.last_save e.2.running e.2.waits))
    (each_append (IsTimely HandingOff l.saved) (queue l) HandsOff
    (handing_ops l.saved (queue l) known h.save_in_queue) refl)
    known h.saved_within h.shown (plays_append role (queue l) HandsOff tt h.plays)

-- and then the frame goes on to its commit, once each activation has given its storage away
away_storage : (asked : Option (List ℕ)) → is_some asked ≡ true → state.HandsOff ≡ storage_by asked
away_storage None e = cc
away_storage (Some name) e = refl

away_end : (asked : Option (List ℕ)) (k : ℕ) (role : Role) (r : Result States StateFault) → is_some asked ≡ true
    → IsOkAnd r (EndsWell HandingOff asked k role) → IsOkAnd r (EndsWell Committing asked k role)
away_end asked k role (Ok w) e h = record {
  storage = h.storage ∙ away_storage asked e;
  last_save = h.last_save;
  running = h.running;
  waits = h.waits;
}
away_end asked k role (Err refusal) e h = h

away_ops : (saved : Option Stored) (P : States → Type 0) (ops : List Operation) (v : States) → is_some saved ≡ true
    → v.persist.state ≡ state.HandsOff → IsOkAnd (ended (Ok v) ops) P
    → AllByRecursion (IsTimely HandingOff saved) ops → AllByRecursion (IsTimely Committing saved) ops
away_ops None P ops v e s h t = cc
away_ops (Some content) P ops v e s h t = all_away content P ops v s h t

pub now_away : (servers : List Bool) (last_act : ℕ) (asked : Option (List ℕ)) (k : ℕ) (role : Role) (l : Link)
    → SteadyLink servers last_act HandingOff asked k role l → is_some asked ≡ true
    → l.states.persist.state ≡ state.HandsOff → SteadyLink servers last_act Committing asked k role l
now_away servers last_act asked k role l h e away = record {
  acts_drawn = h.acts_drawn;
  servers_told = h.servers_told;
  first_call = h.first_call;
  waits_behind = h.waits_behind;
  queue_runs = away_end asked k role (ended (Ok l.states) (queue l)) e h.queue_runs;
  save_in_queue = away_ops l.saved (EndsWell HandingOff asked k role) (queue l) l.states h.saved_known away
      h.queue_runs h.save_in_queue;
  saved_known = h.saved_known;
  saved_within = h.saved_within;
  shown = h.shown;
  plays = h.plays;
}

-- a commit is done: the activation is told
counted_op : (saved : Option Stored) (op : Operation) → IsTimely Committing saved op → IsTimely Idle None op
counted_op saved (InitNew class) t = tt
counted_op saved (Load class c) t = tt
counted_op saved InPlace t = tt
counted_op saved (UiActivate g) t = tt
counted_op saved UiDeactivate t = tt
counted_op saved InPlaceDeactivate t = tt
counted_op saved OpenWindow t = tt
counted_op saved (Edit bytes) t = tt
counted_op saved (Save k) t = absurd (let e = t.0 in cc)
counted_op saved HandsOff t = absurd (cc)
counted_op saved (SaveCompleted k storage) t = refl
counted_op saved (SaveDropped k) t = refl
counted_op saved (Close option) t = refl

pub completion_asked : (servers : List Bool) (last_act : ℕ) (asked : Option (List ℕ)) (k : ℕ) (role : Role)
    (l : Link) → SteadyLink servers last_act Committing asked k role l
    → SteadyLink servers last_act Idle None k role
    (ask (record l { saved = None }) (SaveCompleted k (is_some_name asked))).link
completion_asked servers last_act asked k role l h =
    let e = end_of (ended (Ok l.states) (queue l)) (EndsWell Committing asked k role) h.queue_runs in
    let x : Link = record l { saved = None } in
    asked_steady servers last_act Idle None k role x (ask x (SaveCompleted k (is_some_name asked))).link
    (SaveCompleted k (is_some_name asked) ∷ [])
    (asked_once x (SaveCompleted k (is_some_name asked)) h.waits_behind) h.acts_drawn h.servers_told
    (past_if_saving servers last_act Committing asked k role l h (λ q. cc))
    (subst (λ (o : Result States StateFault). IsOkAnd (stepped o (SaveCompleted k (is_some_name asked)))
    (EndsWell Idle None k role)) (sym e.1) (save_ends e.0 asked k role e.2.storage e.2.last_save e.2.running
    e.2.waits))
    (each_append (IsTimely Idle None) (queue l) (SaveCompleted k (is_some_name asked))
    (each_weaker (IsTimely Committing l.saved) (IsTimely Idle None) (queue l) (counted_op l.saved)
    h.save_in_queue) refl)
    refl tt h.shown (plays_append role (queue l) (SaveCompleted k (is_some_name asked)) tt h.plays)

-- a commit that fails leaves its activations as they are; in doubt they are as while it is asked
doubtful_op : (saved : Option Stored) (op : Operation) → IsTimely Committing saved op → IsTimely InDoubt saved op
doubtful_op saved (InitNew class) t = tt
doubtful_op saved (Load class c) t = tt
doubtful_op saved InPlace t = tt
doubtful_op saved (UiActivate g) t = tt
doubtful_op saved UiDeactivate t = tt
doubtful_op saved InPlaceDeactivate t = tt
doubtful_op saved OpenWindow t = tt
doubtful_op saved (Edit bytes) t = tt
doubtful_op saved (Save k) t = absurd (let e = t.0 in cc)
doubtful_op saved HandsOff t = absurd (cc)
doubtful_op saved (SaveCompleted k storage) t = absurd (cc)
doubtful_op saved (SaveDropped k) t = absurd (cc)
doubtful_op saved (Close option) t = absurd (cc)

undoubted_op : (saved : Option Stored) (op : Operation) → IsTimely InDoubt saved op → IsTimely Committing saved op
undoubted_op saved (InitNew class) t = tt
undoubted_op saved (Load class c) t = tt
undoubted_op saved InPlace t = tt
undoubted_op saved (UiActivate g) t = tt
undoubted_op saved UiDeactivate t = tt
undoubted_op saved InPlaceDeactivate t = tt
undoubted_op saved OpenWindow t = tt
undoubted_op saved (Edit bytes) t = tt
undoubted_op saved (Save k) t = absurd (let e = t.0 in cc)
undoubted_op saved HandsOff t = absurd (cc)
undoubted_op saved (SaveCompleted k storage) t = absurd (cc)
undoubted_op saved (SaveDropped k) t = absurd (cc)
undoubted_op saved (Close option) t = absurd (cc)

doubtful_end : (asked : Option (List ℕ)) (k : ℕ) (role : Role) (r : Result States StateFault)
    → IsOkAnd r (EndsWell Committing asked k role) → IsOkAnd r (EndsWell InDoubt asked k role)
doubtful_end asked k role (Ok w) h = record {
  storage = h.storage;
  last_save = h.last_save;
  running = h.running;
  waits = h.waits;
}
doubtful_end asked k role (Err refusal) h = h

undoubted_end : (asked : Option (List ℕ)) (k : ℕ) (role : Role) (r : Result States StateFault)
    → IsOkAnd r (EndsWell InDoubt asked k role) → IsOkAnd r (EndsWell Committing asked k role)
undoubted_end asked k role (Ok w) h = record {
  storage = h.storage;
  last_save = h.last_save;
  running = h.running;
  waits = h.waits;
}
undoubted_end asked k role (Err refusal) h = h

pub now_doubtful : (servers : List Bool) (last_act : ℕ) (asked : Option (List ℕ)) (k : ℕ) (role : Role) (l : Link)
    → SteadyLink servers last_act Committing asked k role l → SteadyLink servers last_act InDoubt asked k role l
now_doubtful servers last_act asked k role l h = record {
  acts_drawn = h.acts_drawn;
  servers_told = h.servers_told;
  first_call = h.first_call;
  waits_behind = h.waits_behind;
  queue_runs = doubtful_end asked k role (ended (Ok l.states) (queue l)) h.queue_runs;
  save_in_queue = each_weaker (IsTimely Committing l.saved) (IsTimely InDoubt l.saved) (queue l)
      (doubtful_op l.saved) h.save_in_queue;
  saved_known = h.saved_known;
  saved_within = h.saved_within;
  shown = h.shown;
  plays = h.plays;
}

pub undoubted : (servers : List Bool) (last_act : ℕ) (asked : Option (List ℕ)) (k : ℕ) (role : Role) (l : Link)
    → SteadyLink servers last_act InDoubt asked k role l → SteadyLink servers last_act Committing asked k role l
undoubted servers last_act asked k role l h = record {
  acts_drawn = h.acts_drawn;
  servers_told = h.servers_told;
  first_call = h.first_call;
  waits_behind = h.waits_behind;
  queue_runs = undoubted_end asked k role (ended (Ok l.states) (queue l)) h.queue_runs;
  save_in_queue = each_weaker (IsTimely InDoubt l.saved) (IsTimely Committing l.saved) (queue l)
      (undoubted_op l.saved) h.save_in_queue;
  saved_known = h.saved_known;
  saved_within = h.saved_within;
  shown = h.shown;
  plays = h.plays;
}

-- a save is dropped: the activation is told
pub drop_asked : (servers : List Bool) (last_act : ℕ) (asked : Option (List ℕ)) (k : ℕ) (role : Role) (l : Link)
    → SteadyLink servers last_act InDoubt asked k role l
    → SteadyLink servers last_act Idle None k role (ask (record l { saved = None }) (SaveDropped k)).link
drop_asked servers last_act asked k role l doubtful =
    let h = undoubted servers last_act asked k role l doubtful in
    let e = end_of (ended (Ok l.states) (queue l)) (EndsWell Committing asked k role) h.queue_runs in
    let x : Link = record l { saved = None } in
    asked_steady servers last_act Idle None k role x (ask x (SaveDropped k)).link (SaveDropped k ∷ [])
    (asked_once x (SaveDropped k) h.waits_behind) h.acts_drawn h.servers_told
    (past_if_saving servers last_act Committing asked k role l h (λ q. cc))
    (subst (λ (o : Result States StateFault). IsOkAnd (stepped o (SaveDropped k)) (EndsWell Idle None k role))
    (sym e.1) (drop_ends e.0 asked k role e.2.storage e.2.last_save e.2.running e.2.waits))
    (each_append (IsTimely Idle None) (queue l) (SaveDropped k)
    (each_weaker (IsTimely Committing l.saved) (IsTimely Idle None) (queue l) (counted_op l.saved)
    h.save_in_queue) refl)
    refl tt h.shown (plays_append role (queue l) (SaveDropped k) tt h.plays)

-- whoever waited for the frame is told of its grant, and whoever has it, to give it up
waits_in_place : (g : ℕ) (s : ObjectState) → EndsFor (Waiting g) s → s ≡ InPlaceActive
waits_in_place g InPlaceActive h = refl
waits_in_place g _ h = absurd h

pub grant_asked : (servers : List Bool) (last_act : ℕ) (phase : Phase) (asked : Option (List ℕ)) (k g : ℕ)
    (l : Link) → SteadyLink servers last_act phase asked k (Waiting g) l
    → SteadyLink servers last_act phase asked k (Getting g) (ask l (UiActivate g)).link
grant_asked servers last_act phase asked k g l h =
    let e = end_of (ended (Ok l.states) (queue l)) (EndsWell phase asked k (Waiting g)) h.queue_runs in
    let at : e.0.object ≡ InPlaceActive = waits_in_place g e.0.object e.2.waits in
    let v : States = record { persist = e.0.persist; object = UiActive } in
    let step : both.step e.0 (op_of (UiActivate g)) ≡ Ok v = window_step (UiActivate g) e.0 UiActive tt
    (ends_set phase asked k (Waiting g) e.0 e.2) (rw at refl) in
    let ends : EndsWell phase asked k (Getting g) v = ends_well phase asked k (Waiting g) (Getting g) e.0 v e.2 refl
    tt tt in
    asked_steady servers last_act phase asked k (Getting g) l (ask l (UiActivate g)).link (UiActivate g ∷ [])
    (asked_once l (UiActivate g) h.waits_behind) h.acts_drawn h.servers_told
    (past_if_part servers last_act phase asked k (Waiting g) l h (λ q. cc))
    (subst (λ (o : Result States StateFault). IsOkAnd (stepped o (UiActivate g))
    (EndsWell phase asked k (Getting g))) (sym e.1)
    (subst (λ (o : Result States StateFault). IsOkAnd o (EndsWell phase asked k (Getting g))) (sym step) ends))
    (each_append (IsTimely phase l.saved) (queue l) (UiActivate g) h.save_in_queue tt)
    h.saved_known h.saved_within h.shown (getting_last g (queue l) h.plays)

pub end_asked : (servers : List Bool) (last_act : ℕ) (phase : Phase) (asked : Option (List ℕ)) (k g : ℕ)
    (tools : Tools) (l : Link) → SteadyLink servers last_act phase asked k (Holding g tools) l
    → SteadyLink servers last_act phase asked k (Giving g) (ask l UiDeactivate).link
end_asked servers last_act phase asked k g tools l h =
    let e = plain_ended (EndsWell phase asked k (Holding g tools)) (queue l) l.states h.plays h.queue_runs in
    let at : e.0.object ≡ UiActive = ui_active e.0.object (e.3 ∙ ap is_ui h.shown) in
    let v : States = record { persist = e.0.persist; object = InPlaceActive } in
    let step : both.step e.0 (op_of UiDeactivate) ≡ Ok v = window_step UiDeactivate e.0 InPlaceActive tt
    (ends_set phase asked k (Holding g tools) e.0 e.2) (rw at refl) in
    let ends : EndsWell phase asked k (Giving g) v = ends_well phase asked k (Holding g tools) (Giving g) e.0 v e.2
    refl tt tt in
    asked_steady servers last_act phase asked k (Giving g) l (ask l UiDeactivate).link (UiDeactivate ∷ [])
    (asked_once l UiDeactivate h.waits_behind) h.acts_drawn h.servers_told
    (past_if_part servers last_act phase asked k (Holding g tools) l h (λ q. cc))
    (subst (λ (o : Result States StateFault). IsOkAnd (stepped o UiDeactivate) (EndsWell phase asked k (Giving g)))
    (sym e.1) (subst (λ (o : Result States StateFault). IsOkAnd o (EndsWell phase asked k (Giving g)))
    (sym step) ends))
    (each_append (IsTimely phase l.saved) (queue l) UiDeactivate h.save_in_queue tt)
    h.saved_known h.saved_within h.shown (giving_last (queue l) h.plays)
