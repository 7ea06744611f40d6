-- Each event leaves the numbers of a world within its limit.
use Rattle.std.proofs.Common.{◌≡◌, ◌≤◌, ◌+◌, ℕ, List, [], ◌∷◌, ◌++◌, length, Option, Some, None, Result, Ok, Err, refl}
use Rattle.std.proofs.Common.{sym, ap, ◌∙◌, arith, subst}
use Rattle.std.proofs.lemmas.List.{length-append}
use Rattle.std.specs.List.{AllByRecursion}
use Rattle.std.specs.Prelude.{Bool, true, false}
use Rattle.message_values.specs.Found.{find, nth, set_nth}
use Rattle.message_values.specs.declared.message.Message.{Message}
use Rattle.message_values.specs.declared.message.Said.TheVariants.{Call, Reply, Write, Ask}
use Rattle.message_values.specs.declared.operation.Operation.{Operation}
use Rattle.message_values.specs.declared.operation.Operation.TheVariants.{SaveCompleted}
use Rattle.object_core.specs.Kinds.{Kind}
use Rattle.server_model.specs.Server.{Served, Told, on_call, wanted}
use Rattle.server_model.specs.Server as server
use Rattle.server_model.specs.declared.fault.ServerFault.{ServerFault}
use Rattle.container_model.specs.Record.{Took, is_object}
use Rattle.container_model.specs.Room.{HasRoom}
use Rattle.container_model.specs.Saves.{image, commit_done, commit_failed, commit_made, resolve}
use Rattle.container_model.specs.Messages.{on_message, on_reap}
use Rattle.container_model.specs.Commands.{on_command, start_made}
use Rattle.container_model.specs.declared.command.Command.{Command}
use Rattle.container_model.specs.declared.record.Frame.{Frame}
use Rattle.container_model.specs.declared.answer.FrameDocument.{FrameDocument}
use Rattle.container_model.specs.declared.fault.ContainerFault.{ContainerFault}
use Rattle.container_steady.proofs.Settling.{IsCommitOf, done_commits, kept_commits}
use Rattle.container_steady.specs.Made.{run_by}
use Rattle.container_numbers.specs.Sound.{IsNumbered}
use Rattle.container_model.specs.Inputs.{Input}
use Rattle.container_model.specs.Opens.{Given, opened}
use Rattle.container_numbers.proofs.SoundInputs.{numbers_after}
use Rattle.container_numbers.proofs.SoundRooms.{IsSaved, all_of}
use Rattle.world_model.specs.declared.event.Event.{Event}
use Rattle.world_model.specs.declared.event.Event.TheVariants as event
use Rattle.world_model.specs.declared.event.Stop.{Stop}
use Rattle.world_model.specs.declared.life.Life.{Life}
use Rattle.world_model.specs.declared.life.Life.TheVariants.{Running, Ended, Reaped}
use Rattle.world_model.specs.declared.logs.Sent.{Sent}
use Rattle.world_model.specs.declared.logs.Taken.{Taken}
use Rattle.world_model.specs.World.{World, Instance, called, called_in, called_wanting, commanded, crash, crashed}
use Rattle.world_model.specs.World.{deliver, delivered, empty_world, ended, forge}
use Rattle.world_model.specs.World.{forged, forged_on, happened, is_of, joined, kept_commit, messages_of, only_taken}
use Rattle.world_model.specs.World.{reap, resolved, served, server_of, spoken, spoken_by, scribble, ask, started_by}
use Rattle.world_model.specs.World.{stocked, taken_at, took, view_in, with_taken, Choice, in_session, delivered_said}
use Rattle.world_model.specs.World.{link_of, link_to, done_with}
use Rattle.world_model.specs.Safe.{Among, IsHonest, IsWithin, WasSent, acts_of, links_of, sayings, IsSaidWithin}
use Rattle.world_model.specs.Safe.{messages}
use Rattle.world_facts.specs.Words.{called as was_called, life_at, lives_of, sayings_of}
use Rattle.world_facts.proofs.Lookups.{among_map, find_among}
use Rattle.world_files.specs.Files.{Files, id_of}
use Rattle.world_grants.specs.Numbers.{ArePending, Follow, IsPending, Numbers, RunsWithin}
use Rattle.world_grants.proofs.Asked.{call_within, saved_within}
use Rattle.world_grants.proofs.Joining.{IsTaken, fresh_within, hosted_within, joined_follows, sent_one, set_within}
use Rattle.world_grants.proofs.Pending.{begins_pending, none_pending, reaped_pending, replied_pending, turned_pending}
use Rattle.world_grants.proofs.Serving.{served_within}
use Rattle.world_grants.proofs.Speaking.{SpeaksWithin, asks_within, writes_within}
use Rattle.world_steps.specs.Steps.{IsCommanded, IsTurned, command_asks, command_begins, command_ends, command_starts}
use Rattle.world_steps.proofs.Committing.{commit_plain}
use Rattle.world_steps.proofs.Dropping.{dropped_asks, failed_asks}
use Rattle.world_steps.proofs.Forging.{own_link}
use Rattle.world_steps.proofs.Instances.{nth_same}
use Rattle.world_steps.proofs.Opening.{open_asks}
use Rattle.world_steps.proofs.Objects.{IsHeld, found_number, link_held}
use Rattle.world_steps.proofs.Reaping.{reap_ends}
use Rattle.world_steps.proofs.Relieving.{ask_asks}
use Rattle.world_steps.proofs.Replying.{reply_answers}
use Rattle.world_steps.proofs.Taking.{write_asks}
use Rattle.world_safety.specs.Holding.{AgreesIn}
use Rattle.world_safety.proofs.Events.{agrees_turned, among_place, commit_pending, none_honest, turned, sent_place}
use Rattle.world_safety.proofs.Events.{said_in_log}
use Rattle.world_safety.proofs.Joining.{asks_turned, command_shapes}
use Rattle.message_values.specs.declared.message.Said.{Said}
use Rattle.container_model.specs.declared.server_link.ServerLink.{ServerLink}
use Rattle.container_model.proofs.SaidOn.{is_said_on, said_on}
use Rattle.world_model.proofs.InRun.{in_run_ok}

ok_is : (x y : World) → ◌≡◌ {A = Result World Stop} (Ok x) (Ok y) → x ≡ y
ok_is x y e = cc

-- ---- the container's steps
plain_taken : (limit : ℕ) (t : Took) → IsNumbered limit t.rec
    → ArePending (links_of t.rec.objects) (sayings_of t.answer.actions)
    → ((session numbers : ℕ) → started_by session numbers t.answer.actions ≡ []) → IsTaken limit t
plain_taken limit t r p none = record {
  recorded = r;
  pending = p;
  starts = subst (AllByRecursion (RunsWithin limit)) (sym (none t.rec.session t.rec.numbers)) tt;
}

module _ (limit : ℕ) (w : World) (h : AgreesIn w) (k : Numbers limit w) where
  turned_taken : (t : Took) → IsNumbered limit t.rec → IsTurned w.rec t → IsTaken limit t
  turned_taken t r m = plain_taken limit t r
      (turned_pending (links_of w.rec.objects) (links_of t.rec.objects) (sayings_of t.answer.actions) m.0)
      m.1.starts

  start_taken : (t : Took) → IsNumbered limit t.rec → start_made w.rec ≡ t → IsTaken limit t
  start_taken t r is =
      let new : IsNumbered limit (start_made w.rec).rec = subst (λ (v : Took). IsNumbered limit v.rec) (sym is) r in
      let many = length-append w.rec.servers (false ∷ []) in
      let le : length w.rec.servers + 1 ≤ length (start_made w.rec).rec.servers = omega arith in
      subst (IsTaken limit) is (record {
        recorded = new;
        pending = none_pending (links_of w.rec.objects) [] refl;
        starts = (fresh_within limit (start_made w.rec).rec (length w.rec.servers + 1) new le, tt);
      })

  -- by the shapes that it is
  shaped_taken : (ns : List ℕ) (t : Took) → IsNumbered limit t.rec
      → IsCommanded w.rec (lives_of w.instances) w.owners t ns → IsTaken limit t
  shaped_taken _ t r (command_asks turned) = turned_taken t r turned
  shaped_taken _ t r (command_starts made) = start_taken t r made
  shaped_taken _ t r (command_begins o b) = plain_taken limit t r
      (begins_pending (links_of w.rec.objects) (links_of t.rec.objects) (lives_of w.instances) (w.owners ++ o ∷ [])
      w.rec.last_act o (sayings_of t.answer.actions) b.begins) b.starts
  shaped_taken _ t r (command_ends inc made) = subst (IsTaken limit) made
      (record { recorded = k.recorded; pending = none_pending (links_of w.rec.objects) [] refl; starts = tt })

  command_taken : (c : Command) (t : Took) → on_command w.rec c ≡ Ok t → IsTaken limit t
  command_taken c t e = shaped_taken (run_by c) t
      (numbers_after limit w.rec (Input.Ordered c) t h.steady k.recorded e) (command_shapes w c t h e)

  message_numbered : (link : ServerLink) (m : Message) (t : Took) → on_message w.rec link m ≡ Ok t
      → IsNumbered limit t.rec
  message_numbered link m t e = numbers_after limit w.rec (Input.Told link m) t h.steady k.recorded e

  -- what is said by its own server, and taken
  said_taken : (x : Said) (t : Took) → IsNumbered limit t.rec
      → (IsHonest w.hostile (server_of x) → Among (sayings w.sent) x) → said_on w.rec (server_of x) x ≡ Ok t
      → IsTaken limit t
  said_taken (Call inc act n op) t r g e = cc
  said_taken (Reply inc act n answer) t r g e =
      let acts = acts_of w.instances in
      let lives = lives_of w.instances in
      let m = reply_answers w.rec acts lives (sayings w.sent) w.owners w.rec.last_act w.container_done w.server_done
      inc act n answer h.steady h.facts g t e in
      plain_taken limit t r (replied_pending w.hostile (links_of w.rec.objects) (links_of t.rec.objects) acts lives
      (sayings_of t.answer.actions) m.0) m.1.starts
  said_taken (Write inc act s n content) t r g e =
      turned_taken t r (asks_turned w.rec t (write_asks w.rec inc act s n content t h.steady e))
  said_taken (Ask inc act j) t r g e = turned_taken t r (asks_turned w.rec t (ask_asks w.rec inc act j t h.steady e))

  -- a message that is taken is on the link of its own server
  own_taken : (link : ServerLink) (m : Message) (t : Took)
      → (IsHonest w.hostile (server_of m.said) → Among (sayings w.sent) m.said) → on_message w.rec link m ≡ Ok t
      → IsTaken limit t
  own_taken link m t g e =
      let on : said_on w.rec link.inc m.said ≡ Ok t = (is_said_on w.rec link m t e).said in
      said_taken m.said t (message_numbered link m t e) g
      (subst (λ i. said_on w.rec i m.said ≡ Ok t) (sym (own_link w.rec link.inc m.said t on)) on)

  reap_taken : (is : List Instance) (inc : ℕ) (t : Took) → (lives_of is inc ≡ Some Running → ⊥)
      → on_reap w.rec inc ≡ Ok t → IsTaken limit t
  reap_taken is inc t over e =
      let m = reap_ends w.hostile w.rec (acts_of is) (lives_of is) inc h.steady over t e in
      plain_taken limit t (numbers_after limit w.rec (Input.Reaped inc) t h.steady k.recorded e)
      (reaped_pending w.hostile (links_of w.rec.objects) (links_of t.rec.objects) (acts_of is) (lives_of is)
      (sayings_of t.answer.actions) m.0) m.1.starts

  commit_taken : (f : ℕ) (frame : Frame) (told : Result Took ContainerFault) (t : Took) → Files w
      → nth w.rec.frames f ≡ Some frame → IsCommitOf w.rec f frame told → IsNumbered limit t.rec → told ≡ Ok t
      → IsTaken limit t
  commit_taken f frame told t files at commits numbered e =
      let c = commits t e in
      let new : IsNumbered limit (commit_made w.rec f frame).rec =
      subst (λ (v : Took). IsNumbered limit v.rec) (sym c.1) numbered in
      subst (IsTaken limit) c.1 (plain_taken limit (commit_made w.rec f frame) new
      (commit_pending w files h f frame at c.0) (commit_plain w.rec f frame h.steady at c.0).starts)

  failed_taken : (f : ℕ) (t : Took) → commit_failed w.rec f ≡ Ok t → IsTaken limit t
  failed_taken f t e = turned_taken t (numbers_after limit w.rec (Input.Failed f) t h.steady k.recorded e)
      (asks_turned w.rec t (failed_asks w.rec f t e))

  dropped_taken : (f : ℕ) (t : Took) → resolve w.rec f false ≡ Ok t → IsTaken limit t
  dropped_taken f t e = turned_taken t (numbers_after limit w.rec (Input.Resolved f false) t h.steady k.recorded e)
      (asks_turned w.rec t (dropped_asks w.rec f t h.steady e))

  opened_taken : (name : List ℕ) (x y : ℕ) (given : Given) (t : Took) → opened w.rec name x y given ≡ Ok t
      → IsTaken limit t
  opened_taken name x y given t e =
      turned_taken t (numbers_after limit w.rec (Input.Opened name x y given) t h.steady k.recorded e)
      (asks_turned w.rec t (open_asks w.rec name x y given t e))

-- ---- what the world is then
stays : (limit : ℕ) (w v : World) → v.rec ≡ w.rec → v.sent ≡ w.sent → v.instances ≡ w.instances → Numbers limit w
    → Numbers limit v
stays limit w v r s i k = record {
  recorded = subst (IsNumbered limit) (sym r) k.recorded;
  sent = λ m g. k.sent m (subst (λ xs. Among (messages xs) m) s g);
  servers = subst (AllByRecursion (RunsWithin limit)) (sym i) k.servers;
}

took_follows : (limit : ℕ) (w : World) (told : Result Took ContainerFault) → Numbers limit w
    → ((t : Took) → told ≡ Ok t → IsTaken limit t) → Follow limit (took w told)
took_follows limit w (Err fault) k g within = stays limit w _ refl refl refl k
took_follows limit w (Ok t) k g within = joined_follows limit w t k (g t refl) within

module _ (limit : ℕ) (w : World) (h : AgreesIn w) (k : Numbers limit w) where
  commanded_follows : (c : Command) (told : Result Took ContainerFault) → on_command w.rec c ≡ told
      → Follow limit (commanded w c told)
  commanded_follows c (Err fault) e within = stays limit w _ refl refl refl k
  commanded_follows c (Ok t) e within = stays limit (joined w t) _ refl refl refl
      (joined_follows limit w t k (command_taken limit w h k c t e) within)

  -- a call
  module _ (s inc act n : ℕ) (op : Operation) (call : IsSaidWithin limit (Call inc act n op)) where
    served_follows : (i : Instance) (stock : List Kind) (box : Option Kind) (told : Result Served ServerFault)
        → nth w.instances inc ≡ Some i → on_call i.core (in_session s (Call inc act n op)) box ≡ told
        → Follow limit (served w s inc act n i stock told)
    served_follows i stock box (Err fault) at e within = stays limit w _ refl refl refl k
    served_follows i stock box (Ok v) at e within = record {
      recorded = k.recorded;
      sent = sent_one limit w (record {
        message = in_session s (Reply inc act n v.answer);
        view = view_in i.core act;
      }) k.sent (call.0, call.1, call.2);
      servers = set_within limit w.instances inc (record i { core = v.server }) k.servers
          (served_within limit i.core s act n op box (hosted_within limit w.instances inc i k.servers at) call.1
          call.2 call.3 v inc e);
    }

    stocked_follows : (i : Instance) (class : List ℕ) (kind : Option Kind) (v : World)
        → nth w.instances inc ≡ Some i → stocked w s inc act n op i class kind ≡ Ok v → Follow limit v
    stocked_follows i class None v at e = cc
    stocked_follows i class (Some kind) v at e = subst (Follow limit) (ok_is _ v e)
        (served_follows i _ (Some kind) (on_call i.core (in_session s (Call inc act n op)) (Some kind)) at refl)

    wanting_follows : (i : Instance) (class : Option (List ℕ)) (v : World) → nth w.instances inc ≡ Some i
        → called_wanting w s inc act n op i class ≡ Ok v → Follow limit v
    wanting_follows i None v at e = subst (Follow limit) (ok_is _ v e)
        (served_follows i w.stock None (on_call i.core (in_session s (Call inc act n op)) None) at refl)
    wanting_follows i (Some class) v at e = stocked_follows i class (find (is_of class) w.stock) v at e

    called_in_follows : (i : Instance) (life : Life) (v : World) → nth w.instances inc ≡ Some i
        → called_in w s inc act n op i life ≡ Ok v → Follow limit v
    called_in_follows i Running v at e = wanting_follows i (wanted i.core (in_session s (Call inc act n op))) v at e
    called_in_follows i Ended v at e = subst (Follow limit) (ok_is _ v e) (λ within. stays limit w _ refl refl refl k)
    called_in_follows i Reaped v at e = subst (Follow limit) (ok_is _ v e) (λ within. stays limit w _ refl refl refl k)

    called_follows : (i : Option Instance) (v : World) → nth w.instances inc ≡ i → called w s inc act n op i ≡ Ok v
        → Follow limit v
    called_follows None v at e = subst (Follow limit) (ok_is _ v e) (λ within. stays limit w _ refl refl refl k)
    called_follows (Some i) v at e = called_in_follows i i.life v at e

  -- deliveries
  said_follows : (m : Message) (x : Said) (v : World) → m.said ≡ x → WasSent w m → Among (sayings w.sent) m.said
      → delivered_said w m x ≡ Ok v → Follow limit v
  said_follows m (Call inc act n op) v is g there e = called_follows m.session inc act n op
      (subst (IsSaidWithin limit) is (k.sent m g)) (nth w.instances inc) v refl e
  said_follows m (Reply inc act n answer) v is g there e = subst (Follow limit) (ok_is _ v e)
      (took_follows limit w (on_message w.rec (link_of m) m) k
      (λ t q. own_taken limit w h k (link_of m) m t (λ honest. there) q))
  said_follows m (Write inc act s n content) v is g there e =
      subst (Follow limit) (ok_is _ v e) (took_follows limit w (on_message w.rec (link_of m) m) k
      (λ t q. own_taken limit w h k (link_of m) m t (λ honest. there) q))
  said_follows m (Ask inc act j) v is g there e = subst (Follow limit) (ok_is _ v e)
      (took_follows limit w (on_message w.rec (link_of m) m) k
      (λ t q. own_taken limit w h k (link_of m) m t (λ honest. there) q))

  logged_follows : (more : List Taken) (told : Result World Stop) (v : World)
      → ((u : World) → told ≡ Ok u → Follow limit u) → with_taken w more told ≡ Ok v → Follow limit v
  logged_follows more (Err stop) v g e = cc
  logged_follows more (Ok u) v g e = subst (Follow limit) (ok_is _ v e)
      (λ within. stays limit u _ refl refl refl (g u refl within))

  deliver_follows : (p : ℕ) (sent : Option Sent) (v : World) → nth w.sent p ≡ sent → deliver w p sent ≡ Ok v
      → Follow limit v
  deliver_follows p None v at e = cc
  deliver_follows p (Some x) v at e = logged_follows (taken_at w.rec (Some p) (link_of x.message) x.message)
      (delivered w x.message) v (λ u g. said_follows x.message x.message.said u refl (sent_place w.sent p x at)
      (among_place w.sent p x at) g) e

  -- a forged message
  forged_taken : (inc : ℕ) (m : Message) (t : Took) → on_message w.rec (link_to w inc) m ≡ Ok t → IsTaken limit t
  forged_taken inc m t e = (let own = own_link w.rec inc m.said t (is_said_on w.rec (link_to w inc) m t e).said in
      own_taken limit (turned w inc) (agrees_turned w inc h) (stays limit w (turned w inc) refl refl refl k)
      (link_to w inc) m t (none_honest w inc (server_of m.said) m.said own) e)

  forged_on_follows : (inc : ℕ) (m : Message) → Follow limit (forged_on w inc m)
  forged_on_follows inc m within = stays limit (took w (on_message w.rec (link_to w inc) m)) _ refl refl refl
      (took_follows limit w (on_message w.rec (link_to w inc) m) k (λ t q. forged_taken inc m t q) within)

  forged_follows : (inc : ℕ) (m : Message) (life : Life) (v : World) → forged w inc m life ≡ Ok v → Follow limit v
  forged_follows inc m Running v e = subst (Follow limit) (ok_is _ v e) (forged_on_follows inc m)
  forged_follows inc m Ended v e = subst (Follow limit) (ok_is _ v e) (forged_on_follows inc m)
  forged_follows inc m Reaped v e = cc

  forge_follows : (inc : ℕ) (m : Message) (i : Option Instance) (v : World) → forge w inc m i ≡ Ok v → Follow limit v
  forge_follows inc m None v e = cc
  forge_follows inc m (Some i) v e = forged_follows inc m i.life v e

  -- crashes, and ends that are told
  lives_within : (inc : ℕ) (i : Instance) (life : Life) → nth w.instances inc ≡ Some i
      → Numbers limit (record w { instances = set_nth w.instances inc (record i { life = life }) })
  lives_within inc i life at = record {
    recorded = k.recorded;
    sent = k.sent;
    servers = set_within limit w.instances inc (record i { life = life }) k.servers
        (hosted_within limit w.instances inc i k.servers at);
  }

  crashed_follows : (inc : ℕ) (i : Instance) (life : Life) (v : World) → nth w.instances inc ≡ Some i
      → crashed w inc i life ≡ Ok v → Follow limit v
  crashed_follows inc i Running v at e = subst (Follow limit) (ok_is _ v e)
      (λ within. stays limit _ _ refl refl refl (lives_within inc i Ended at))
  crashed_follows inc i Ended v at e = cc
  crashed_follows inc i Reaped v at e = cc

  crash_follows : (inc : ℕ) (i : Option Instance) (v : World) → nth w.instances inc ≡ i → crash w inc i ≡ Ok v
      → Follow limit v
  crash_follows inc None v at e = cc
  crash_follows inc (Some i) v at e = crashed_follows inc i i.life v at e

  ended_follows : (inc : ℕ) (i : Instance) (life : Life) (v : World) → nth w.instances inc ≡ Some i
      → ended w inc i life ≡ Ok v → Follow limit v
  ended_follows inc i Running v at e = cc
  ended_follows inc i Ended v at e =
      let j : Instance = record i { life = Reaped } in
      let is = set_nth w.instances inc j in
      subst (Follow limit) (ok_is _ v e) (took_follows limit (record w { instances = is }) (on_reap w.rec inc)
      (lives_within inc i Reaped at)
      (λ t q. reap_taken limit w h k is inc t
      (λ z. (let y : Some Reaped ≡ Some Running = sym (ap life_at (nth_same w.instances inc i j at)) ∙ z in cc))
      q))
  ended_follows inc i Reaped v at e = cc

  reap_follows : (inc : ℕ) (i : Option Instance) (v : World) → nth w.instances inc ≡ i → reap w inc i ≡ Ok v
      → Follow limit v
  reap_follows inc None v at e = cc
  reap_follows inc (Some i) v at e = ended_follows inc i i.life v at e

  -- what a server says of its own accord
  spoken_by_follows : (inc act : ℕ) (i : Instance) (told : Result Told ServerFault)
      → ((t : Told) → told ≡ Ok t → SpeaksWithin limit t) → Follow limit (spoken_by w inc act i told)
  spoken_by_follows inc act i (Err fault) g within = stays limit w _ refl refl refl k
  spoken_by_follows inc act i (Ok t) g within = (let s = g t refl in record {
    recorded = k.recorded;
    sent = sent_one limit w (record { message = t.message; view = view_in i.core act }) k.sent s.message;
    servers = set_within limit w.instances inc (record i { core = t.server }) k.servers s.server;
  })

  spoken_follows : (inc act : ℕ) (i : Instance) (life : Life) (told : Result Told ServerFault) (v : World)
      → ((t : Told) → told ≡ Ok t → SpeaksWithin limit t) → spoken w inc act i life told ≡ Ok v → Follow limit v
  spoken_follows inc act i Running told v g e = subst (Follow limit) (ok_is _ v e) (spoken_by_follows inc act i told g)
  spoken_follows inc act i Ended told v g e = cc
  spoken_follows inc act i Reaped told v g e = cc

  scribble_follows : (inc act : ℕ) (i : Option Instance) (v : World) → nth w.instances inc ≡ i
      → scribble w inc act i ≡ Ok v → Follow limit v
  scribble_follows inc act None v at e = cc
  scribble_follows inc act (Some i) v at e = spoken_follows inc act i i.life (server.scribble i.core act) v
      (λ t q. writes_within limit i.core act (hosted_within limit w.instances inc i k.servers at) t q) e

  ask_follows : (inc act : ℕ) (i : Option Instance) (v : World) → nth w.instances inc ≡ i → ask w inc act i ≡ Ok v
      → Follow limit v
  ask_follows inc act None v at e = cc
  ask_follows inc act (Some i) v at e = spoken_follows inc act i i.life (server.ask_deactivate i.core act) v
      (λ t q. asks_within limit i.core act (hosted_within limit w.instances inc i k.servers at) t q) e

  -- commits
  module _ (files : Files w) (f : ℕ) (bytes : List ℕ) where
    done_follows : (frame : Option Frame) (saved : Result FrameDocument ContainerFault)
        (told : Result Took ContainerFault) (v : World) → nth w.rec.frames f ≡ frame
        → ((x : Frame) → nth w.rec.frames f ≡ Some x → IsCommitOf w.rec f x told)
        → ((t : Took) → told ≡ Ok t → IsNumbered limit t.rec) → done_with w f bytes frame saved told ≡ Ok v
        → Follow limit v
    done_follows None saved told v at commits numbered e = cc
    done_follows (Some frame) (Err fault) told v at commits numbered e = cc
    done_follows (Some frame) (Ok saved) (Err fault) v at commits numbered e = cc
    done_follows (Some frame) (Ok saved) (Ok t) v at commits numbered e =
        let u : World = kept_commit w f frame saved t.counted bytes in
        subst (Follow limit) (ok_is _ v e) (joined_follows limit u t (stays limit w u refl refl refl k)
        (commit_taken limit w h k f frame (Ok t) t files at (commits frame at) (numbered t refl) refl))

  only_follows : (told : Result Took ContainerFault) (v : World) → ((t : Took) → told ≡ Ok t → IsTaken limit t)
      → only_taken w told ≡ Ok v → Follow limit v
  only_follows (Err fault) v g e = cc
  only_follows (Ok t) v g e = subst (Follow limit) (ok_is _ v e) (joined_follows limit w t k (g t refl))

  resolved_follows : (files : Files w) (f : ℕ) (is_kept : Bool) (bytes : List ℕ) (v : World)
      → resolved w f is_kept bytes ≡ Ok v → Follow limit v
  resolved_follows files f true bytes v e = done_follows files f bytes (nth w.rec.frames f) (image w.rec f)
      (resolve w.rec f true) v refl (λ x at. kept_commits w.rec f x at)
      (λ t q. numbers_after limit w.rec (Input.Resolved f true) t h.steady k.recorded q) e
  resolved_follows files f false bytes v e = only_follows (resolve w.rec f false) v
      (λ t q. dropped_taken limit w h k f t q) e

  follows : (choice : Choice) (e : Event) (v : World) → Files w → happened w choice e ≡ Ok v → Follow limit v
  follows choice (event.Command c) v files e = subst (Follow limit) (ok_is _ v e)
      (commanded_follows c (on_command w.rec c) refl)
  follows choice (event.Deliver p) v files e = deliver_follows p (nth w.sent p) v refl e
  follows choice (event.Forge inc m) v files e = forge_follows inc m (nth w.instances inc) v e
  follows choice (event.Crash s inc) v files e = crash_follows inc (nth w.instances inc) v refl
      (in_run_ok w s (crash w inc (nth w.instances inc)) v e)
  follows choice (event.Reap inc) v files e = reap_follows inc (nth w.instances inc) v refl e
  follows choice (event.Scribble s inc act) v files e = scribble_follows inc act (nth w.instances inc) v refl
      (in_run_ok w s (scribble w inc act (nth w.instances inc)) v e)
  follows choice (event.Ask s inc act) v files e = ask_follows inc act (nth w.instances inc) v refl
      (in_run_ok w s (ask w inc act (nth w.instances inc)) v e)
  follows choice (event.Done f) v files e = done_follows files f choice.file (nth w.rec.frames f) (image w.rec f)
      (commit_done w.rec f) v refl (λ x at. done_commits w.rec f x at)
      (λ t q. numbers_after limit w.rec (Input.Committed f) t h.steady k.recorded q) e
  follows choice (event.Fail f) v files e = only_follows (commit_failed w.rec f) v
      (λ t q. failed_taken limit w h k f t q) e
  follows choice (event.Resolve f is_kept) v files e = resolved_follows files f is_kept choice.file v e
  follows choice (event.Open name x y) v files e = subst (Follow limit) (ok_is _ v e)
      (took_follows limit w (opened w.rec name x y choice.given) k
      (λ t q. opened_taken limit w h k name x y choice.given t q))

-- ---- what is sent of pending calls
module _ (limit : ℕ) (w : World) (h : AgreesIn w) (files : Files w) (numbers : IsNumbered limit w.rec) (m : Said)
    (p : IsPending (links_of w.rec.objects) m) (sent : Among (sayings w.sent) m) where
  held : IsHeld w.rec p.object p.link
  held = link_held w.rec p.object p.link h.steady p.linked

  -- the end of a save is told of a save that was counted, which is at most the last one of its frame
  completed : (n : ℕ) (storage : _) → p.operation ≡ SaveCompleted n storage → n ≤ limit
  completed n storage is =
      let l = p.link in
      let call : Among (sayings w.sent) (Call l.inc l.act l.last (SaveCompleted n storage)) =
      subst (Among (sayings w.sent)) (p.call ∙ ap (λ op. Call l.inc l.act l.last op) is) sent in
      let c = h.facts.counts.completed_counted l.inc l.act l.last n storage (was_called call) in
      let named : Some c.0.object ≡ Some p.object = sym c.2 ∙ h.facts.drawn.calls_named p.object l p.linked in
      let own : c.0.object ≡ p.object = cc in
      let number = found_number w.rec.objects p.object held.object held.found in
      let among = among_map id_of w.rec.objects held.object
      (find_among (is_object p.object) w.rec.objects held.object held.found) in
      let below = (files.counted_bounded.below (id_of held.object) c.0 held.frame among c.1 (own ∙ sym number)
      held.framed).last in
      let most = saved_within limit w.rec h.steady numbers p.object l p.operation held p.pending in
      let same : c.0.k ≡ n = c.3 in
      omega arith

  pending_within : IsSaidWithin limit m
  pending_within = subst (IsSaidWithin limit) (sym p.call)
      (call_within limit w.rec h.steady numbers p.object p.link p.operation held p.pending completed)

pub numbers_happened : (w : World) (choice : Choice) (e : Event) (v : World) → AgreesIn w → Files w
    → Numbers w.rec.numbers w → AgreesIn v → Files v → happened w choice e ≡ Ok v → Numbers v.rec.numbers v
numbers_happened w choice e v h files k after after_files ok =
    let n : Numbers w.rec.numbers v = follows w.rec.numbers w h k choice e v files ok
    (λ m numbers p g. pending_within w.rec.numbers v after after_files numbers m.said p
    (said_in_log v.sent m g)) in
    subst (λ limit. Numbers limit v) (sym n.recorded.limit) n

-- the world in which nothing has happened
pub empty_numbers : (numbers : ℕ) (stock : List Kind) → Numbers numbers (empty_world numbers stock)
empty_numbers numbers stock = record {
  recorded = record {
    limit = refl;
    room = all_of (HasRoom numbers []) [] tt;
    saves = all_of (IsSaved numbers) [] tt;
    frames = omega arith;
    servers = omega arith;
    objects = omega arith;
    acts = omega arith;
    grants = omega arith;
  };
  sent = λ m g. absurd g;
  servers = tt;
}
