-- All of a world is in one session: its container's activations, its servers, and the messages between them. Before
-- there is one, none of them is there.
use Rattle.std.proofs.Common.{◌≡◌, ◌≢◌, ◌==◌, ◌&&◌, ℕ, Bool, true, false, zero, suc, List, [], ◌∷◌, ◌++◌, map, length}
use Rattle.std.proofs.Common.{Option, Some, None, Result, Ok, Err, refl, sym, ap, ◌∙◌, inl, inr, subst, nat_eq, nat_le}
use Rattle.std.proofs.Common.{slice_get}
use Rattle.std.specs.Prelude.{cond}
use Rattle.std.specs.List.{AllByRecursion}
use Rattle.std.proofs.lemmas.List.{map-append}
use Rattle.std.proofs.lemmas.Bool.Decides.{eqb_tells}
use Rattle.message_values.specs.Found.{find, nth, set_nth}
use Rattle.message_values.specs.declared.message.Message.{Message}
use Rattle.message_values.specs.declared.message.Said.{Said}
use Rattle.message_values.specs.declared.message.Said.TheVariants.{Call, Reply, Write, Ask}
use Rattle.message_values.specs.declared.operation.Operation.{Operation}
use Rattle.object_core.specs.Kinds.{Kind}
use Rattle.server_model.specs.Server.{Activation, Acted, Server, Served, Told, after_known, begun_class, begun_content}
use Rattle.server_model.specs.Server.{begins, after_begun, called as server_called, is_act, is_class, is_for}
use Rattle.server_model.specs.Server.{known_call, offered, on_call, unknown_call, wanted}
use Rattle.server_model.specs.Server as server
use Rattle.server_model.specs.declared.fault.ServerFault.{ServerFault}
use Rattle.server_model.specs.declared.fault.ServerFault.TheVariants.{NumbersSpent, WrongClass, WrongIncarnation}
use Rattle.container_model.specs.Record.{Took}
use Rattle.container_model.specs.Commands.{on_command}
use Rattle.container_model.specs.Inputs.{Input, on_input}
use Rattle.container_model.specs.Messages.{on_message, on_reap}
use Rattle.container_model.specs.Opens.{opened}
use Rattle.container_model.specs.Saves.{commit_done, commit_failed, image, resolve}
use Rattle.container_model.specs.declared.answer.Action.{Action}
use Rattle.container_model.specs.declared.answer.Action.TheVariants.{Send, Start, End, Commit}
use Rattle.container_model.specs.declared.answer.FrameDocument.{FrameDocument}
use Rattle.container_model.specs.declared.command.Command.{Command}
use Rattle.container_model.specs.declared.fault.ContainerFault.{ContainerFault}
use Rattle.container_model.specs.declared.record.Frame.{Frame}
use Rattle.container_numbers.specs.Sessions.{InSession, IsOf, SendsIn, StaysInSession}
use Rattle.container_numbers.proofs.SessionLinks.{each_after}
use Rattle.container_numbers.proofs.Sessions.{in_session_from_the_start, sessions_stay}
use Rattle.world_model.specs.declared.event.Event.{Event}
use Rattle.world_model.specs.declared.event.Event.TheVariants as event
use Rattle.world_model.specs.declared.event.Stop.{Stop}
use Rattle.world_model.specs.declared.life.Life.{Life}
use Rattle.world_model.specs.declared.life.Life.TheVariants.{Running, Ended, Reaped}
use Rattle.world_model.specs.declared.logs.Sent.{Sent}
use Rattle.world_model.specs.declared.logs.Taken.{Taken}
use Rattle.world_model.specs.World.{World, Instance, Choice, ask, called, called_in, called_wanting, commanded, crash}
use Rattle.world_model.specs.World.{crashed, deliver, delivered, delivered_said}
use Rattle.world_model.specs.World.{empty_world, end_of, ended, ended_at, ended_by, forge, forged, forged_on}
use Rattle.world_model.specs.World.{happened, in_session, is_of, joined, link_of, link_to, messages_of, of_container}
use Rattle.world_model.specs.World.{only_taken, reap, resolved, scribble, served, spoken, spoken_by, started_by}
use Rattle.world_model.specs.World.{stocked, taken_at, took, view_in, with_taken, done_with}
use Rattle.world_model.specs.Safe.{Among, WasSent, messages}
use Rattle.world_facts.proofs.Lookups.{among_join, among_mapped, nth_one, nth_old}
use Rattle.world_steps.proofs.Instances.{nth_same, nth_other}
use Rattle.world_safety.specs.Holding.{InOneSession}
use Rattle.world_safety.proofs.Events.{sent_place}
use Rattle.world_safety.proofs.Speaking.{IsTelling, asking_is, writing_is}
use Rattle.world_model.proofs.InRun.{in_run_ok}

ok_is : (x y : World) → ◌≡◌ {A = Result World Stop} (Ok x) (Ok y) → x ≡ y
ok_is x y e = cc

abbrev message_in : Sent → Message
message_in x = x.message

-- each server of these is in a session, and so is each message
abbrev RunsIn : ℕ → Instance → Type 0
RunsIn s i = IsOf s i.core.session

abbrev AreIn : ℕ → List Instance → Type 0
AreIn s is = (inc : ℕ) (i : Instance) → nth is inc ≡ Some i → RunsIn s i

abbrev AllOf : ℕ → List Sent → Type 0
AllOf s xs = (m : Message) → Among (messages xs) m → IsOf s m.session

-- what bears another's session
same_of : (s a b : ℕ) → b ≡ a → IsOf s a → IsOf s b
same_of s a b e h = (e ∙ h.0, h.1)

-- ---- servers
set_in : (s : ℕ) (is : List Instance) (inc : ℕ) (i j : Instance) → nth is inc ≡ Some i → RunsIn s j → AreIn s is
    → AreIn s (set_nth is inc j)
set_in s is inc i j at own h x y e = elim (eqb_tells x inc) [
  | inl q ↦ (let same : Some j ≡ Some y = sym (nth_same is inc i j at)
      ∙ (ap (nth (set_nth is inc j)) (sym q.1) ∙ e) in let is_j : j ≡ y = cc in subst (RunsIn s) is_j own)
  | inr q ↦ h x y (sym (nth_other is inc x j q.1) ∙ e)
]

life_in : (s : ℕ) (is : List Instance) (inc : ℕ) (i : Instance) (life : Life) → nth is inc ≡ Some i → AreIn s is
    → AreIn s (set_nth is inc (record i { life = life }))
life_in s is inc i life at h = set_in s is inc i (record i { life = life }) at (h inc i at) h

ended_in : (s : ℕ) (is : List Instance) (inc : ℕ) (x : Option Instance) → nth is inc ≡ x → AreIn s is
    → AreIn s (ended_at inc is x)
ended_in s is inc None at h = h
ended_in s is inc (Some i) at h = life_in s is inc i (end_of i.life) at h

all_ended_in : (s : ℕ) (actions : List Action) (is : List Instance) → AreIn s is → AreIn s (ended_by actions is)
all_ended_in s [] is h = h
all_ended_in s (Send m ∷ rest) is h = all_ended_in s rest is h
all_ended_in s (Start inc ∷ rest) is h = all_ended_in s rest is h
all_ended_in s (End inc ∷ rest) is h = all_ended_in s rest (ended_at inc is (nth is inc))
    (ended_in s is inc (nth is inc) refl h)
all_ended_in s (Commit f ∷ rest) is h = all_ended_in s rest is h

-- those that are started by a container with a session s, once it is n
started_all : (s n numbers : ℕ) (actions : List Action) → (s ≢ 0 → n ≢ 0) → AllByRecursion (SendsIn s) actions
    → AllByRecursion (RunsIn n) (started_by n numbers actions)
started_all s n numbers [] there h = tt
started_all s n numbers (Send m ∷ rest) there h = started_all s n numbers rest there h.1
started_all s n numbers (Start inc ∷ rest) there h = ((refl, there h.0), started_all s n numbers rest there h.1)
started_all s n numbers (End inc ∷ rest) there h = started_all s n numbers rest there h.1
started_all s n numbers (Commit f ∷ rest) there h = started_all s n numbers rest there h.1

all_in : (s : ℕ) (is : List Instance) → AllByRecursion (RunsIn s) is → AreIn s is
all_in s is h zero i e = cc
all_in s is h (suc k) i e = at is k h e
  where
    at : (xs : List Instance) (k : ℕ) → AllByRecursion (RunsIn s) xs → slice_get xs k ≡ Some i → RunsIn s i
    at [] k g f = cc
    at (x ∷ xs) zero g f = (let q : x ≡ i = cc in subst (RunsIn s) q g.0)
    at (x ∷ xs) (suc k) g f = at xs k g.1 f

in_all : (s : ℕ) (is : List Instance) → AreIn s is → AllByRecursion (RunsIn s) is
in_all s [] h = tt
in_all s (x ∷ xs) h = (h 1 x refl, in_all s xs (λ inc i e. later inc i e))
  where
    later : (inc : ℕ) (i : Instance) → nth xs inc ≡ Some i → RunsIn s i
    later zero i e = cc
    later (suc k) i e = h (suc (suc k)) i e

more_in : (s : ℕ) (xs ys : List Instance) → AreIn s xs → AllByRecursion (RunsIn s) ys → AreIn s (xs ++ ys)
more_in s xs ys h g = all_in s (xs ++ ys) (each_after (RunsIn s) xs ys (in_all s xs h) g)

-- ---- messages
sends_all : (s : ℕ) (actions : List Action) → AllByRecursion (SendsIn s) actions → (m : Message)
    → Among (messages_of actions) m → IsOf s m.session
sends_all s [] h m g = absurd g
sends_all s (Send x ∷ rest) h m (inl e) = same_of s x.session m.session (ap (λ (y : Message). y.session) e) h.0
sends_all s (Send x ∷ rest) h m (inr g) = sends_all s rest h.1 m g
sends_all s (Start inc ∷ rest) h m g = sends_all s rest h.1 m g
sends_all s (End inc ∷ rest) h m g = sends_all s rest h.1 m g
sends_all s (Commit f ∷ rest) h m g = sends_all s rest h.1 m g

told_again : (ms : List Message) → messages (map of_container ms) ≡ ms
told_again [] = refl
told_again (m ∷ ms) = ap (λ xs. m ∷ xs) (told_again ms)

more_sent : (s : ℕ) (xs ys : List Sent) → AllOf s xs → AllOf s ys → AllOf s (xs ++ ys)
more_sent s xs ys h g m a =
    elim (among_join (messages xs) (messages ys) m (subst (λ ms. Among ms m) (map-append message_in xs ys) a)) [
      | inl
          old ↦ h m old
      | inr new ↦ g m new
    ]

one_sent : (s : ℕ) (x : Sent) → IsOf s x.message.session → AllOf s (x ∷ [])
one_sent s x h m (inl q) = same_of s x.message.session m.session (ap (λ (y : Message). y.session) q) h
one_sent s x h m (inr z) = absurd z

-- ---- the container's steps: a session that there is stays, and where there is none, nothing is of it
module _ (w : World) (x : Input) (t : Took) (k : StaysInSession w.rec x t) where
  still_there : w.rec.session ≢ 0 → t.rec.session ≢ 0
  still_there raised z = raised (sym (k.stays raised) ∙ z)

  still_of : (session : ℕ) → IsOf w.rec.session session → IsOf t.rec.session session
  still_of session h = (h.0 ∙ sym (k.stays h.1), still_there h.1)

  took_in : InOneSession w → InOneSession (joined w t)
  took_in h =
      let s = w.rec.session in
      let actions = t.answer.actions in
      record {
        holds = k.holds;
        sent = λ m g. still_of m.session (more_sent s w.sent (map of_container (messages_of actions)) h.sent
            (λ y a. sends_all s actions k.sends y (subst (λ ms. Among ms y) (told_again (messages_of actions)) a)) m g);
        servers = more_in t.rec.session (ended_by actions w.instances) (started_by t.rec.session t.rec.numbers actions)
            (λ inc i e. still_of i.core.session (all_ended_in s actions w.instances h.servers inc i e))
            (started_all s t.rec.session t.rec.numbers actions still_there k.sends);
      }

told_in : (w : World) (x : Input) (told : Result Took ContainerFault) → InOneSession w → on_input w.rec x ≡ told
    → InOneSession (took w told)
told_in w x (Err fault) h e = record { holds = h.holds; sent = h.sent; servers = h.servers }
told_in w x (Ok t) h e = took_in w x t (sessions_stay w.rec x t h.holds e) h

only_in : (w : World) (x : Input) (told : Result Took ContainerFault) (v : World) → InOneSession w
    → on_input w.rec x ≡ told → only_taken w told ≡ Ok v → InOneSession v
only_in w x (Err fault) v h q e = cc
only_in w x (Ok t) v h q e = subst InOneSession (ok_is _ v e) (took_in w x t (sessions_stay w.rec x t h.holds q) h)

commanded_in : (w : World) (c : Command) (told : Result Took ContainerFault) → InOneSession w
    → on_command w.rec c ≡ told → InOneSession (commanded w c told)
commanded_in w c (Err fault) h e = record { holds = h.holds; sent = h.sent; servers = h.servers }
commanded_in w c (Ok t) h e =
    (let k = took_in w (Input.Ordered c) t (sessions_stay w.rec (Input.Ordered c) t h.holds e) h in
    record { holds = k.holds; sent = k.sent; servers = k.servers })

-- ---- what a server does
known_session : (v : Server) (act : ℕ) (r : Result Acted ServerFault) (told : Served)
    → after_known v act r ≡ Ok told → told.server.session ≡ v.session
known_session v act (Err fault) told e = cc
known_session v act (Ok b) told e =
    ap (λ (x : Result Served ServerFault). elim x [ Ok y ↦ y.server.session | Err fault ↦ v.session ]) (sym e)

begun_session : (v : Server) (b : Acted) (told : Served) → after_begun v b ≡ Ok told → told.server.session ≡ v.session
begun_session v b told e =
    ap (λ (x : Result Served ServerFault). elim x [ Ok y ↦ y.server.session | Err fault ↦ v.session ]) (sym e)

offered_session : (v : Server) (act : ℕ) (class : List ℕ) (op : Operation) (box : Option Kind) (told : Served)
    → offered v act class op box ≡ Ok told → told.server.session ≡ v.session
offered_session v act class op None told e = cc
offered_session v act class op (Some kind) told e = at (is_class kind class) e
  where
    at : (b : Bool) → cond b (after_begun v (begins act class op (begun_content kind op))) (Err WrongClass)
        ≡ Ok told → told.server.session ≡ v.session
    at true g = begun_session v (begins act class op (begun_content kind op)) told g
    at false g = cc

unknown_session : (v : Server) (act : ℕ) (op : Operation) (box : Option Kind) (class : Option (List ℕ))
    (told : Served) → unknown_call v act op box class ≡ Ok told → told.server.session ≡ v.session
unknown_session v act op box None told e = cc
unknown_session v act op box (Some class) told e = at (nat_le v.numbers (length v.acts)) e
  where
    at : (b : Bool) → cond b (Err NumbersSpent) (offered v act class op box) ≡ Ok told → told.server.session ≡ v.session
    at true g = cc
    at false g = offered_session v act class op box told g

called_session : (v : Server) (act n : ℕ) (op : Operation) (box : Option Kind) (a : Option Activation)
    (told : Served) → server_called v act n op box a ≡ Ok told → told.server.session ≡ v.session
called_session v act n op box None told e = unknown_session v act op box (begun_class n op) told e
called_session v act n op box (Some a) told e = known_session v act (known_call a n op) told e

-- a call that is taken is of the server's session, and leaves it
pub taken_session : (v : Server) (s inc act n : ℕ) (op : Operation) (box : Option Kind) (told : Served)
    → on_call v (in_session s (Call inc act n op)) box ≡ Ok told → told.server.session ≡ v.session
taken_session v s inc act n op box told e = at (is_for v s inc) e
  where
    at : (b : Bool) → cond b (server_called v act n op box (find (is_act act) v.acts)) (Err WrongIncarnation)
        ≡ Ok told → told.server.session ≡ v.session
    at true g = called_session v act n op box (find (is_act act) v.acts) told g
    at false g = cc

module _ (w : World) (h : InOneSession w) (s inc act n : ℕ) (op : Operation) (own : IsOf w.rec.session s) where
  same_but : (v : World) → v.rec ≡ w.rec → v.sent ≡ w.sent → v.instances ≡ w.instances → InOneSession v
  same_but v r x i = record {
    holds = subst InSession (sym r) h.holds;
    sent = subst (λ (q : _). AllOf q.session v.sent) (sym r) (subst (AllOf w.rec.session) (sym x) h.sent);
    servers = subst (λ (q : _). AreIn q.session v.instances) (sym r) (subst (AreIn w.rec.session) (sym i) h.servers);
  }

  served_in : (i : Instance) (stock : List Kind) (box : Option Kind) (told : Result Served ServerFault)
      → nth w.instances inc ≡ Some i → on_call i.core (in_session s (Call inc act n op)) box ≡ told
      → InOneSession (served w s inc act n i stock told)
  served_in i stock box (Err fault) at e = same_but _ refl refl refl
  served_in i stock box (Ok v) at e = record {
    holds = h.holds;
    sent = more_sent w.rec.session w.sent
        (record { message = in_session s (Reply inc act n v.answer); view = view_in i.core act } ∷ []) h.sent
        (one_sent w.rec.session (record {
          message = in_session s (Reply inc act n v.answer);
          view = view_in i.core act;
        }) own);
    servers = set_in w.rec.session w.instances inc i (record i { core = v.server }) at
        (same_of w.rec.session i.core.session v.server.session (taken_session i.core s inc act n op box v e)
        (h.servers inc i at)) h.servers;
  }

  stocked_in : (i : Instance) (class : List ℕ) (kind : Option Kind) (v : World) → nth w.instances inc ≡ Some i
      → stocked w s inc act n op i class kind ≡ Ok v → InOneSession v
  stocked_in i class None v at e = cc
  stocked_in i class (Some kind) v at e = subst InOneSession (ok_is _ v e)
      (served_in i _ (Some kind) (on_call i.core (in_session s (Call inc act n op)) (Some kind)) at refl)

  wanting_in : (i : Instance) (class : Option (List ℕ)) (v : World) → nth w.instances inc ≡ Some i
      → called_wanting w s inc act n op i class ≡ Ok v → InOneSession v
  wanting_in i None v at e = subst InOneSession (ok_is _ v e)
      (served_in i w.stock None (on_call i.core (in_session s (Call inc act n op)) None) at refl)
  wanting_in i (Some class) v at e = stocked_in i class (find (is_of class) w.stock) v at e

  called_in_in : (i : Instance) (life : Life) (v : World) → nth w.instances inc ≡ Some i
      → called_in w s inc act n op i life ≡ Ok v → InOneSession v
  called_in_in i Running v at e = wanting_in i (wanted i.core (in_session s (Call inc act n op))) v at e
  called_in_in i Ended v at e = subst InOneSession (ok_is _ v e) (same_but _ refl refl refl)
  called_in_in i Reaped v at e = subst InOneSession (ok_is _ v e) (same_but _ refl refl refl)

  called_at : (i : Option Instance) (v : World) → nth w.instances inc ≡ i → called w s inc act n op i ≡ Ok v
      → InOneSession v
  called_at None v at e = subst InOneSession (ok_is _ v e) (same_but _ refl refl refl)
  called_at (Some i) v at e = called_in_in i i.life v at e

-- ---- events
delivered_in : (w : World) (m : Message) (x : Said) (v : World) → InOneSession w → WasSent w m
    → delivered_said w m x ≡ Ok v → InOneSession v
delivered_in w m (Call inc act n op) v h g e = called_at w h m.session inc act n op (h.sent m g)
    (nth w.instances inc) v refl e
delivered_in w m (Reply inc act n answer) v h g e = subst InOneSession (ok_is _ v e)
    (told_in w (Input.Told (link_of m) m) (on_message w.rec (link_of m) m) h refl)
delivered_in w m (Write inc act s n content) v h g e = subst InOneSession (ok_is _ v e)
    (told_in w (Input.Told (link_of m) m) (on_message w.rec (link_of m) m) h refl)
delivered_in w m (Ask inc act j) v h g e = subst InOneSession (ok_is _ v e)
    (told_in w (Input.Told (link_of m) m) (on_message w.rec (link_of m) m) h refl)

logged_in : (w : World) (more : List Taken) (told : Result World Stop) (v : World)
    → ((u : World) → told ≡ Ok u → InOneSession u) → with_taken w more told ≡ Ok v → InOneSession v
logged_in w more (Err stop) v g e = cc
logged_in w more (Ok u) v g e =
    (let k = g u refl in subst InOneSession (ok_is _ v e)
    (record { holds = k.holds; sent = k.sent; servers = k.servers }))

deliver_in : (w : World) (p : ℕ) (x : Option Sent) (v : World) → InOneSession w → nth w.sent p ≡ x
    → deliver w p x ≡ Ok v → InOneSession v
deliver_in w p None v h at e = cc
deliver_in w p (Some x) v h at e = logged_in w (taken_at w.rec (Some p) (link_of x.message) x.message)
    (delivered w x.message) v (λ u g. delivered_in w x.message x.message.said u h (sent_place w.sent p x at) g) e

forged_on_in : (w : World) (inc : ℕ) (m : Message) → InOneSession w → InOneSession (forged_on w inc m)
forged_on_in w inc m h = (let k = told_in w (Input.Told (link_to w inc) m) (on_message w.rec (link_to w inc) m) h
    refl in record { holds = k.holds; sent = k.sent; servers = k.servers })

forged_in : (w : World) (inc : ℕ) (m : Message) (life : Life) (v : World) → InOneSession w
    → forged w inc m life ≡ Ok v → InOneSession v
forged_in w inc m Running v h e = subst InOneSession (ok_is _ v e) (forged_on_in w inc m h)
forged_in w inc m Ended v h e = subst InOneSession (ok_is _ v e) (forged_on_in w inc m h)
forged_in w inc m Reaped v h e = cc

forge_in : (w : World) (inc : ℕ) (m : Message) (i : Option Instance) (v : World) → InOneSession w
    → forge w inc m i ≡ Ok v → InOneSession v
forge_in w inc m None v h e = cc
forge_in w inc m (Some i) v h e = forged_in w inc m i.life v h e

crashed_in : (w : World) (inc : ℕ) (i : Instance) (life : Life) (v : World) → InOneSession w
    → nth w.instances inc ≡ Some i → crashed w inc i life ≡ Ok v → InOneSession v
crashed_in w inc i Running v h at e = subst InOneSession (ok_is _ v e)
    (record {
      holds = h.holds;
      sent = h.sent;
      servers = life_in w.rec.session w.instances inc i Ended at
          h.servers;
    })
crashed_in w inc i Ended v h at e = cc
crashed_in w inc i Reaped v h at e = cc

crash_in : (w : World) (inc : ℕ) (i : Option Instance) (v : World) → InOneSession w → nth w.instances inc ≡ i
    → crash w inc i ≡ Ok v → InOneSession v
crash_in w inc None v h at e = cc
crash_in w inc (Some i) v h at e = crashed_in w inc i i.life v h at e

reaped_in : (w : World) (inc : ℕ) (i : Instance) (life : Life) (v : World) → InOneSession w
    → nth w.instances inc ≡ Some i → ended w inc i life ≡ Ok v → InOneSession v
reaped_in w inc i Running v h at e = cc
reaped_in w inc i Ended v h at e =
    let u : World = record w { instances = set_nth w.instances inc (record i { life = Reaped }) } in
    let k : InOneSession u = record {
      holds = h.holds;
      sent = h.sent;
      servers = life_in w.rec.session w.instances inc i Reaped at h.servers;
    } in
    subst InOneSession (ok_is _ v e) (told_in u (Input.Reaped inc) (on_reap w.rec inc) k refl)
reaped_in w inc i Reaped v h at e = cc

reap_in : (w : World) (inc : ℕ) (i : Option Instance) (v : World) → InOneSession w → nth w.instances inc ≡ i
    → reap w inc i ≡ Ok v → InOneSession v
reap_in w inc None v h at e = cc
reap_in w inc (Some i) v h at e = reaped_in w inc i i.life v h at e

spoken_by_in : (w : World) (inc act : ℕ) (i : Instance) (told : Result Told ServerFault) → InOneSession w
    → nth w.instances inc ≡ Some i → ((t : Told) → told ≡ Ok t → IsTelling i.core act t)
    → InOneSession (spoken_by w inc act i told)
spoken_by_in w inc act i (Err fault) h at g = record { holds = h.holds; sent = h.sent; servers = h.servers }
spoken_by_in w inc act i (Ok t) h at g =
    let k = g t refl in
    let own = h.servers inc i at in
    record {
      holds = h.holds;
      sent = more_sent w.rec.session w.sent (record { message = t.message; view = view_in i.core act } ∷ []) h.sent
          (one_sent w.rec.session (record { message = t.message; view = view_in i.core act })
          (same_of w.rec.session i.core.session t.message.session k.session own));
      servers = set_in w.rec.session w.instances inc i (record i { core = t.server }) at
          (same_of w.rec.session i.core.session t.server.session k.same own) h.servers;
    }

spoken_in : (w : World) (inc act : ℕ) (i : Instance) (life : Life) (told : Result Told ServerFault) (v : World)
    → InOneSession w → nth w.instances inc ≡ Some i → ((t : Told) → told ≡ Ok t → IsTelling i.core act t)
    → spoken w inc act i life told ≡ Ok v → InOneSession v
spoken_in w inc act i Running told v h at g e = subst InOneSession (ok_is _ v e) (spoken_by_in w inc act i told h at g)
spoken_in w inc act i Ended told v h at g e = cc
spoken_in w inc act i Reaped told v h at g e = cc

scribble_in : (w : World) (inc act : ℕ) (i : Option Instance) (v : World) → InOneSession w → nth w.instances inc ≡ i
    → scribble w inc act i ≡ Ok v → InOneSession v
scribble_in w inc act None v h at e = cc
scribble_in w inc act (Some i) v h at e = spoken_in w inc act i i.life (server.scribble i.core act) v h at
    (λ t. writing_is i.core act t) e

ask_in : (w : World) (inc act : ℕ) (i : Option Instance) (v : World) → InOneSession w → nth w.instances inc ≡ i
    → ask w inc act i ≡ Ok v → InOneSession v
ask_in w inc act None v h at e = cc
ask_in w inc act (Some i) v h at e = spoken_in w inc act i i.life (server.ask_deactivate i.core act) v h at
    (λ t. asking_is i.core act t) e

module _ (w : World) (f : ℕ) (bytes : List ℕ) (h : InOneSession w) (x : Input) where
  done_at : (frame : Option Frame) (saved : Result FrameDocument ContainerFault) (told : Result Took ContainerFault)
      (v : World) → on_input w.rec x ≡ told → done_with w f bytes frame saved told ≡ Ok v → InOneSession v
  done_at None saved told v q e = cc
  done_at (Some frame) (Err fault) told v q e = cc
  done_at (Some frame) (Ok saved) (Err fault) v q e = cc
  done_at (Some frame) (Ok saved) (Ok t) v q e = (let k = took_in w x t (sessions_stay w.rec x t h.holds q) h in
      subst InOneSession (ok_is _ v e) (record { holds = k.holds; sent = k.sent; servers = k.servers }))

resolved_in : (w : World) (f : ℕ) (is_kept : Bool) (bytes : List ℕ) (v : World) → InOneSession w
    → resolved w f is_kept bytes ≡ Ok v → InOneSession v
resolved_in w f true bytes v h e = done_at w f bytes h (Input.Resolved f true) (nth w.rec.frames f) (image w.rec f)
    (resolve w.rec f true) v refl e
resolved_in w f false bytes v h e = only_in w (Input.Resolved f false) (resolve w.rec f false) v h refl e

pub session_happened : (w : World) (choice : Choice) (e : Event) (v : World) → InOneSession w
    → happened w choice e ≡ Ok v → InOneSession v
session_happened w choice (event.Command c) v h e = subst InOneSession (ok_is _ v e)
    (commanded_in w c (on_command w.rec c) h refl)
session_happened w choice (event.Deliver p) v h e = deliver_in w p (nth w.sent p) v h refl e
session_happened w choice (event.Forge inc m) v h e = forge_in w inc m (nth w.instances inc) v h e
session_happened w choice (event.Crash s inc) v h e = crash_in w inc (nth w.instances inc) v h refl
    (in_run_ok w s (crash w inc (nth w.instances inc)) v e)
session_happened w choice (event.Reap inc) v h e = reap_in w inc (nth w.instances inc) v h refl e
session_happened w choice (event.Scribble s inc act) v h e = scribble_in w inc act (nth w.instances inc) v h refl
    (in_run_ok w s (scribble w inc act (nth w.instances inc)) v e)
session_happened w choice (event.Ask s inc act) v h e = ask_in w inc act (nth w.instances inc) v h refl
    (in_run_ok w s (ask w inc act (nth w.instances inc)) v e)
session_happened w choice (event.Done f) v h e = done_at w f choice.file h (Input.Committed f)
    (nth w.rec.frames f) (image w.rec f) (commit_done w.rec f) v refl e
session_happened w choice (event.Fail f) v h e = only_in w (Input.Failed f) (commit_failed w.rec f) v h refl e
session_happened w choice (event.Resolve f is_kept) v h e = resolved_in w f is_kept choice.file v h e
session_happened w choice (event.Open name x y) v h e = subst InOneSession (ok_is _ v e)
    (told_in w (Input.Opened name x y choice.given) (opened w.rec name x y choice.given) h refl)

-- the world in which nothing has happened
pub empty_session : (numbers : ℕ) (stock : List Kind) → InOneSession (empty_world numbers stock)
empty_session numbers stock = record {
  holds = in_session_from_the_start numbers;
  sent = λ m g. absurd g;
  servers = none;
}
  where
    none : (inc : ℕ) (i : Instance) → nth [] inc ≡ Some i → IsOf 0 i.core.session
    none zero i e = cc
    none (suc k) i e = cc
