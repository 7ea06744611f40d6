-- Each event leaves a world that agrees in agreement.
use Rattle.std.proofs.Common.{◌≡◌, ℕ, zero, suc, ◌<◌, Bool, true, false, List, [], ◌∷◌, ◌++◌, map, Option, Some, None}
use Rattle.std.proofs.Common.{Result, Ok, Err, refl, sym, ap, ◌∙◌, inl, inr, arith, subst, slice_get}
use Rattle.std.proofs.lemmas.List.{append-nil}
use Rattle.message_values.specs.Found.{nth, set_nth}
use Rattle.message_values.specs.declared.message.Message.{Message}
use Rattle.message_values.specs.declared.message.Said.TheVariants.{Call, Reply, Write, Ask}
use Rattle.container_model.specs.Record.{Took}
use Rattle.container_model.specs.Inputs.{Input}
use Rattle.container_model.specs.Opens.{Given, opened}
use Rattle.container_model.specs.Saves.{frame_document, image, image_at, parts_in, commit_done, commit_failed}
use Rattle.container_model.specs.Saves.{commit_made, done_entry, resolve}
use Rattle.container_model.specs.Messages.{on_message, on_reap}
use Rattle.container_model.specs.Commands.{on_command}
use Rattle.container_model.specs.declared.command.Command.{Command}
use Rattle.container_model.specs.declared.command.Command.TheVariants as command
use Rattle.container_model.specs.declared.record.Frame.{Frame}
use Rattle.container_model.specs.declared.answer.FrameDocument.{FrameDocument}
use Rattle.container_model.specs.declared.answer.Done.{Done}
use Rattle.container_model.specs.declared.fault.ContainerFault.{ContainerFault}
use Rattle.container_steady.specs.Made.{run_by}
use Rattle.container_queues.specs.Steady.{IsUnsettled, Steady}
use Rattle.container_steady.proofs.Settling.{IsCommitOf, done_commits, kept_commits, not_idle}
use Rattle.container_commands.proofs.SteadyCommands.{on_command_keeps}
use Rattle.container_steps.proofs.SteadyMessages.{on_message_keeps}
use Rattle.container_steps.proofs.SteadyReaps.{on_reap_keeps}
use Rattle.container_steps.proofs.SteadyRuns.{on_input_keeps}
use Rattle.world_model.specs.declared.logs.Sent.{Sent}
use Rattle.world_model.specs.declared.logs.Taken.{Taken}
use Rattle.world_model.specs.declared.life.Life.{Life}
use Rattle.world_model.specs.declared.life.Life.TheVariants.{Running, Ended, Reaped}
use Rattle.world_model.specs.declared.event.Event.{Event}
use Rattle.world_model.specs.declared.event.Event.TheVariants as event
use Rattle.world_model.specs.declared.event.Stop.{Stop}
use Rattle.world_model.specs.World.{World, Instance, messages_of, of_container, started_by, ended_by, joined, took}
use Rattle.world_model.specs.World.{commanded, owners_by, delivered, taken_at, with_taken, server_of, deliver}
use Rattle.world_model.specs.World.{forged_on, forged, forge, crashed, crash, ended, reap, kept_commit}
use Rattle.world_model.specs.World.{only_taken, resolved, happened, Choice, delivered_said}
use Rattle.world_model.specs.World.{link_of, link_to, scribble, ask, done_with}
use Rattle.world_model.specs.Safe.{Among, IsHonest, is_hostile, links_of, acts_of, sayings, messages}
use Rattle.world_facts.specs.Words.{life_at, lives_of, sayings_of}
use Rattle.world_facts.specs.Shapes.{IsTold}
use Rattle.world_facts.proofs.Lookups.{among_map}
use Rattle.world_facts.proofs.Counting.{all_counted}
use Rattle.world_facts.proofs.Honest.{honest_before, just_hostile, turned_facts, turned_views}
use Rattle.world_files.specs.Files.{id_of, Files}
use Rattle.world_files.proofs.Bounding.{parts_of_frame}
use Rattle.world_files.proofs.Kept.{image_is_at}
use Rattle.world_steps.proofs.Instances.{nth_same}
use Rattle.world_grants.specs.Grants.{AreSent, roles_of}
use Rattle.world_grants.proofs.Alike.{fewer_grants}
use Rattle.world_grants.proofs.Ending.{reap_moves}
use Rattle.world_grants.proofs.Taking.{MovesBy, command_moves, committed_moves, dropped_moves, failed_moves}
use Rattle.world_grants.proofs.Taking.{message_moves, opened_moves}
use Rattle.world_grants.specs.Numbers.{ArePending}
use Rattle.world_grants.proofs.Pending.{asks_pending}
use Rattle.world_steps.specs.Steps.{IsCommanded, IsTurned, command_asks, command_begins, command_ends, command_starts}
use Rattle.world_steps.proofs.Relieving.{ask_asks}
use Rattle.world_steps.proofs.Forging.{own_link}
use Rattle.world_steps.proofs.Replying.{reply_answers}
use Rattle.world_steps.proofs.Taking.{write_asks}
use Rattle.world_steps.proofs.Reaping.{reap_ends}
use Rattle.world_steps.proofs.Committing.{commit_counts, commit_plain}
use Rattle.world_steps.proofs.Dropping.{dropped_asks, failed_asks}
use Rattle.world_steps.proofs.Opening.{open_asks}
use Rattle.world_safety.specs.Holding.{Agrees, AgreesIn}
use Rattle.world_safety.proofs.Joining.{plain_joined, asked_views, joined_grants, turned_joined, asks_turned}
use Rattle.world_safety.proofs.Joining.{answered_joined, reaped_joined, begun_joined, command_shapes, start_joined}
use Rattle.world_safety.proofs.Joining.{stopped_agrees, kill_joined}
use Rattle.world_safety.proofs.Serving.{agrees_called}
use Rattle.world_safety.proofs.Shaping.{asks_followed}
use Rattle.world_safety.proofs.Scribbling.{agrees_scribble, agrees_ask}
use Rattle.message_values.specs.declared.message.Said.{Said}
use Rattle.container_model.specs.declared.server_link.ServerLink.{ServerLink}
use Rattle.container_model.proofs.SaidOn.{is_said_on, said_on}
use Rattle.world_model.proofs.InRun.{in_run_ok}

ok_is : (x y : World) → ◌≡◌ {A = Result World Stop} (Ok x) (Ok y) → x ≡ y
ok_is x y e = cc

-- commands
plain_owners : (w : World) (t : Took) → AgreesIn (joined w t)
    → AgreesIn (record (joined w t) { owners = w.owners ++ [] })
plain_owners w t h =
    subst (λ o. Agrees w.hostile t.rec (ended_by t.answer.actions w.instances ++ started_by t.rec.session
    t.rec.numbers t.answer.actions) (w.sent ++ map of_container (messages_of t.answer.actions)) o w.container_done
    w.server_done) (sym (append-nil w.owners)) h

-- by the shapes that it is
agrees_shaped : (w : World) (ns : List ℕ) (t : Took) → AgreesIn w → Steady t.rec → MovesBy w.rec t.rec []
    → IsCommanded w.rec (lives_of w.instances) w.owners t ns
    → AgreesIn (record (joined w t) { owners = w.owners ++ ns })
agrees_shaped w _ t h steady moves (command_asks turned) =
    plain_owners w t (turned_joined w t [] h steady moves (λ x z honest. absurd z) turned)
agrees_shaped w _ t h steady moves (command_starts made) = plain_owners w t (start_joined w t h steady made)
agrees_shaped w _ t h steady moves (command_begins o begun) = begun_joined w o t h steady moves begun
agrees_shaped w _ t h steady moves (command_ends inc made) = plain_owners w t (kill_joined w inc t h made)

-- the objects that get an activation are those whose owners are kept
owners_run : (c : Command) → run_by c ≡ owners_by c
owners_run (command.Run o inc) = refl
owners_run c = refl

agrees_command : (w : World) (c : Command) (t : Took) → AgreesIn w → on_command w.rec c ≡ Ok t
    → AgreesIn (record (joined w t) { owners = w.owners ++ owners_by c })
agrees_command w c t h e = subst (λ ns. AgreesIn (record (joined w t) { owners = w.owners ++ ns })) (owners_run c)
    (agrees_shaped w (run_by c) t h (on_command_keeps w.rec c t h.steady e) (command_moves w.rec c t h.steady e)
    (command_shapes w c t h e))

agrees_commanded : (w : World) (c : Command) (told : Result Took ContainerFault) → AgreesIn w
    → on_command w.rec c ≡ told → AgreesIn (commanded w c told)
agrees_commanded w c (Err fault) h e = h
agrees_commanded w c (Ok t) h e = agrees_command w c t h e

-- deliveries
pub among_place : (sent : List Sent) (p : ℕ) (x : Sent) → nth sent p ≡ Some x → Among (sayings sent) x.message.said
among_place sent zero x e = cc
among_place sent (suc i) x e = at sent i e
  where
    at : (xs : List Sent) (i : ℕ) → slice_get xs i ≡ Some x → Among (sayings xs) x.message.said
    at [] i e = cc
    at (y ∷ ys) zero e = (let q : y ≡ x = cc in inl (ap (λ (z : Sent). z.message.said) (sym q)))
    at (y ∷ ys) (suc i) e = inr (at ys i e)

-- what a message that was sent says
pub said_in_log : (xs : List Sent) (m : Message) → Among (messages xs) m → Among (sayings xs) m.said
said_in_log [] m g = absurd g
said_in_log (x ∷ xs) m (inl e) = inl (ap (λ (y : Message). y.said) e)
said_in_log (x ∷ xs) m (inr g) = inr (said_in_log xs m g)

pub sent_place : (sent : List Sent) (p : ℕ) (x : Sent) → nth sent p ≡ Some x → Among (messages sent) x.message
sent_place sent zero x e = cc
sent_place sent (suc i) x e = at sent i e
  where
    at : (xs : List Sent) (i : ℕ) → slice_get xs i ≡ Some x → Among (messages xs) x.message
    at [] i e = cc
    at (y ∷ ys) zero e = (let q : y ≡ x = cc in inl (ap (λ (z : Sent). z.message) (sym q)))
    at (y ∷ ys) (suc i) e = inr (at ys i e)

agrees_took : (w : World) (told : Result Took ContainerFault) → AgreesIn w
    → ((t : Took) → told ≡ Ok t → AgreesIn (joined w t)) → AgreesIn (took w told)
agrees_took w (Err fault) h g = h
agrees_took w (Ok t) h g = g t refl

-- the message that is taken was sent, or it is of a hostile server
sent_one : (w : World) (m : Said) → (IsHonest w.hostile (server_of m) → Among (sayings w.sent) m)
    → AreSent w.hostile (sayings w.sent) (m ∷ [])
sent_one w m g x (inl e) honest = subst (Among (sayings w.sent)) (sym e)
    (g (subst (λ v. IsHonest w.hostile (server_of v)) e honest))
sent_one w m g x (inr z) honest = absurd z

agrees_replied : (w : World) (link : ServerLink) (m : Message) (inc act n : ℕ) (answer : _) (t : Took) → AgreesIn w
    → m.said ≡ Reply inc act n answer → (IsHonest w.hostile inc → Among (sayings w.sent) (Reply inc act n answer))
    → on_message w.rec link m ≡ Ok t → said_on w.rec inc (Reply inc act n answer) ≡ Ok t → AgreesIn (joined w t)
agrees_replied w link m inc act n answer t h is g e own =
    let x = Reply inc act n answer in
    answered_joined w t (x ∷ []) h (on_message_keeps w.rec link m t h.steady e)
    (subst (λ y. MovesBy w.rec t.rec (y ∷ [])) is (message_moves w.rec link m t h.steady e)) (sent_one w x g)
    (reply_answers w.rec (acts_of w.instances) (lives_of w.instances) (sayings w.sent) w.owners w.rec.last_act
    w.container_done w.server_done inc act n answer h.steady h.facts g t own)

-- a message that asks, or nothing
agrees_asked : (w : World) (link : ServerLink) (m : Message) (t : Took) → AgreesIn w
    → (IsHonest w.hostile (server_of m.said) → Among (sayings w.sent) m.said) → on_message w.rec link m ≡ Ok t
    → IsTurned w.rec t → AgreesIn (joined w t)
agrees_asked w link m t h g e turned = turned_joined w t (m.said ∷ []) h
    (on_message_keeps w.rec link m t h.steady e) (message_moves w.rec link m t h.steady e) (sent_one w m.said g)
    turned

-- a message that is taken, on the link of its own server
agrees_said : (w : World) (link : ServerLink) (m : Message) (x : Said) (t : Took) → AgreesIn w → m.said ≡ x
    → (IsHonest w.hostile (server_of m.said) → Among (sayings w.sent) m.said) → on_message w.rec link m ≡ Ok t
    → said_on w.rec (server_of x) x ≡ Ok t → AgreesIn (joined w t)
agrees_said w link m (Call inc act n op) t h is g e own = cc
agrees_said w link m (Reply inc act n answer) t h is g e own = agrees_replied w link m inc act n answer t h is
    (subst (λ y. IsHonest w.hostile (server_of y) → Among (sayings w.sent) y) is g) e own
agrees_said w link m (Write inc act s n content) t h is g e own =
    agrees_asked w link m t h g e (asks_turned w.rec t (write_asks w.rec inc act s n content t h.steady own))
agrees_said w link m (Ask inc act j) t h is g e own = agrees_asked w link m t h g e
    (asks_turned w.rec t (ask_asks w.rec inc act j t h.steady own))

agrees_own : (w : World) (link : ServerLink) (m : Message) (t : Took) → AgreesIn w
    → (IsHonest w.hostile (server_of m.said) → Among (sayings w.sent) m.said) → on_message w.rec link m ≡ Ok t
    → AgreesIn (joined w t)
agrees_own w link m t h g e =
    let on : said_on w.rec link.inc m.said ≡ Ok t = (is_said_on w.rec link m t e).said in
    agrees_said w link m m.said t h refl g e
    (subst (λ i. said_on w.rec i m.said ≡ Ok t) (sym (own_link w.rec link.inc m.said t on)) on)

agrees_delivered_said : (w : World) (m : Message) (x : Said) (v : World) → AgreesIn w → m.said ≡ x
    → Among (sayings w.sent) m.said → delivered_said w m x ≡ Ok v → AgreesIn v
agrees_delivered_said w m (Call inc act n op) v h is g e = agrees_called w h m.session inc act n op
    (subst (Among (sayings w.sent)) is g) (nth w.instances inc) v refl e
agrees_delivered_said w m (Reply inc act n answer) v h is g e =
    subst AgreesIn (ok_is _ v e) (agrees_took w (on_message w.rec (link_of m) m) h
    (λ t q. agrees_own w (link_of m) m t h (λ honest. g) q))
agrees_delivered_said w m (Write inc act s n content) v h is g e =
    subst AgreesIn (ok_is _ v e) (agrees_took w (on_message w.rec (link_of m) m) h
    (λ t q. agrees_own w (link_of m) m t h (λ honest. g) q))
agrees_delivered_said w m (Ask inc act j) v h is g e = subst AgreesIn (ok_is _ v e)
    (agrees_took w (on_message w.rec (link_of m) m) h (λ t q. agrees_own w (link_of m) m t h (λ honest. g) q))

agrees_delivered : (w : World) (m : Message) (v : World) → AgreesIn w → Among (sayings w.sent) m.said
    → delivered w m ≡ Ok v → AgreesIn v
agrees_delivered w m v h g e = agrees_delivered_said w m m.said v h refl g e

-- A server is hostile from now on.
abbrev pub turned : World → ℕ → World
turned w inc = record w { hostile = w.hostile ++ inc ∷ [] }

pub agrees_turned : (w : World) (inc : ℕ) → AgreesIn w → AgreesIn (turned w inc)
agrees_turned w inc h = record {
  steady = h.steady;
  servers = h.servers;
  facts = turned_facts w.hostile inc (links_of w.rec.objects) (acts_of w.instances) (lives_of w.instances)
      (sayings w.sent) w.owners w.rec.last_act w.container_done w.server_done h.facts;
  views = turned_views w.hostile inc (links_of w.rec.objects) (acts_of w.instances) w.sent h.views;
  grants = fewer_grants w.hostile (w.hostile ++ inc ∷ []) (links_of w.rec.objects) (roles_of w.rec)
      (acts_of w.instances) (sayings w.sent) (honest_before w.hostile inc) h.grants;
}

-- so no message of it has to be one that was sent
pub none_honest : (w : World) (inc i : ℕ) (m : Said) → i ≡ inc → IsHonest (w.hostile ++ inc ∷ []) i
    → Among (sayings w.sent) m
none_honest w inc i m e honest = absurd (let z : true ≡ false = sym (just_hostile w.hostile inc)
    ∙ (ap (is_hostile (w.hostile ++ inc ∷ [])) (sym e) ∙ honest) in cc)

-- a forged message
agrees_forged_as : (w : World) (hostile : List ℕ) (taken : List Taken) (told : Result Took ContainerFault)
    → AgreesIn (took (record w { hostile = hostile }) told)
    → AgreesIn (record (took w told) { taken = taken; hostile = hostile })
agrees_forged_as w hostile taken (Err fault) h = h
agrees_forged_as w hostile taken (Ok t) h = h

agrees_forged_on : (w : World) (inc : ℕ) (m : Message) → AgreesIn w → AgreesIn (forged_on w inc m)
agrees_forged_on w inc m h =
    let now = agrees_turned w inc h in
    let link = link_to w inc in
    agrees_forged_as w (w.hostile ++ inc ∷ []) (w.taken ++ taken_at w.rec None link m) (on_message w.rec link m)
    (agrees_took (turned w inc) (on_message w.rec link m) now
    (λ t q. (let own = own_link w.rec inc m.said t (is_said_on w.rec link m t q).said in
    agrees_own (turned w inc) link m t now (none_honest w inc (server_of m.said) m.said own) q)))

agrees_forged : (w : World) (inc : ℕ) (m : Message) (life : Life) (v : World) → AgreesIn w
    → forged w inc m life ≡ Ok v → AgreesIn v
agrees_forged w inc m Running v h e = subst AgreesIn (ok_is _ v e) (agrees_forged_on w inc m h)
agrees_forged w inc m Ended v h e = subst AgreesIn (ok_is _ v e) (agrees_forged_on w inc m h)
agrees_forged w inc m Reaped v h e = cc

agrees_forge : (w : World) (inc : ℕ) (m : Message) (i : Option Instance) (v : World) → AgreesIn w
    → forge w inc m i ≡ Ok v → AgreesIn v
agrees_forge w inc m None v h e = cc
agrees_forge w inc m (Some i) v h e = agrees_forged w inc m i.life v h e

-- what was taken is logged
agrees_logged : (w : World) (more : List Taken) (told : Result World Stop) (v : World)
    → ((u : World) → told ≡ Ok u → AgreesIn u) → with_taken w more told ≡ Ok v → AgreesIn v
agrees_logged w more (Err stop) v h e = cc
agrees_logged w more (Ok u) v h e = subst AgreesIn (ok_is _ v e) (h u refl)

agrees_deliver : (w : World) (p : ℕ) (sent : Option Sent) (v : World) → AgreesIn w → nth w.sent p ≡ sent
    → deliver w p sent ≡ Ok v → AgreesIn v
agrees_deliver w p None v h f e = cc
agrees_deliver w p (Some sent) v h f e =
    agrees_logged w (taken_at w.rec (Some p) (link_of sent.message) sent.message) (delivered w sent.message) v
    (λ u g. agrees_delivered w sent.message u h (among_place w.sent p sent f) g) e

-- crashes, and ends that are told
agrees_crashed : (w : World) (inc : ℕ) (i : Instance) (life : Life) (v : World) → AgreesIn w
    → nth w.instances inc ≡ Some i → crashed w inc i life ≡ Ok v → AgreesIn v
agrees_crashed w inc i Running v h at e = subst AgreesIn (ok_is _ v e) (stopped_agrees w inc i Ended at (λ z. cc) h)
agrees_crashed w inc i Ended v h at e = cc
agrees_crashed w inc i Reaped v h at e = cc

agrees_crash : (w : World) (inc : ℕ) (i : Option Instance) (v : World) → AgreesIn w → nth w.instances inc ≡ i
    → crash w inc i ≡ Ok v → AgreesIn v
agrees_crash w inc None v h at e = cc
agrees_crash w inc (Some i) v h at e = agrees_crashed w inc i i.life v h at e

reap_joined : (w : World) (inc : ℕ) (t : Took) → AgreesIn w → (lives_of w.instances inc ≡ Some Running → ⊥)
    → on_reap w.rec inc ≡ Ok t → AgreesIn (joined w t)
reap_joined w inc t h over e = reaped_joined w t h (on_reap_keeps w.rec inc t h.steady e)
    (reap_moves w.rec inc t h.steady e) (reap_ends w.hostile w.rec (acts_of w.instances) (lives_of w.instances) inc
    h.steady over t e)

agrees_ended : (w : World) (inc : ℕ) (i : Instance) (life : Life) (v : World) → AgreesIn w
    → nth w.instances inc ≡ Some i → ended w inc i life ≡ Ok v → AgreesIn v
agrees_ended w inc i Running v h at e = cc
agrees_ended w inc i Ended v h at e =
    let j : Instance = record i { life = Reaped } in
    let u : World = record w { instances = set_nth w.instances inc j } in
    let hu : AgreesIn u = stopped_agrees w inc i Reaped at (λ z. cc) h in
    subst AgreesIn (ok_is _ v e) (agrees_took u (on_reap w.rec inc) hu
    (λ t q. reap_joined u inc t hu
    (λ z. (let y : Some Reaped ≡ Some Running = sym (ap life_at (nth_same w.instances inc i j at)) ∙ z in cc))
    q))
agrees_ended w inc i Reaped v h at e = cc

agrees_reap : (w : World) (inc : ℕ) (i : Option Instance) (v : World) → AgreesIn w → nth w.instances inc ≡ i
    → reap w inc i ≡ Ok v → AgreesIn v
agrees_reap w inc None v h at e = cc
agrees_reap w inc (Some i) v h at e = agrees_ended w inc i i.life v h at e

-- commits
module _ (w : World) (k : Files w) (h : AgreesIn w) (f : ℕ) (frame : Frame) (at : nth w.rec.frames f ≡ Some frame)
    (unsettled : IsUnsettled frame.phase) where
  abbrev made : Took
  made = commit_made w.rec f frame

  abbrev fresh : List Done
  fresh = map (done_entry frame.k) (parts_in f w.rec.objects)

  -- no object of the frame has a save of this number counted
  apart : (d e : Done) → Among w.container_done d → Among (map (done_entry frame.k) (parts_in f w.rec.objects)) e
      → d.object ≡ e.object → d.k ≡ frame.k → ⊥
  apart d e p q eo ek =
      let z = parts_of_frame f frame.k w.rec.objects e q in
      let b = k.counted_bounded.below (id_of z.0) d frame (among_map id_of w.rec.objects z.0 z.1) p (eo ∙ z.3)
      (ap (nth w.rec.frames) z.2 ∙ at) in
      let lt : d.k < frame.k = b.under (not_idle frame.phase unsettled) in
      absurd (omega arith)

  -- what is told of the commit is pending then
  pub commit_pending : ArePending (links_of made.rec.objects) (sayings_of made.answer.actions)
  commit_pending = asks_pending (IsTold (links_of w.rec.objects) frame.k fresh) (links_of w.rec.objects)
      (links_of made.rec.objects) (sayings_of made.answer.actions)
      (commit_counts w.rec f frame h.steady at unsettled w.container_done apart).tells

  pub commit_agrees : Steady (commit_made w.rec f frame).rec
      → Agrees w.hostile (commit_made w.rec f frame).rec
      (ended_by (commit_made w.rec f frame).answer.actions w.instances
      ++ started_by (commit_made w.rec f frame).rec.session (commit_made w.rec f frame).rec.numbers
      (commit_made w.rec f frame).answer.actions)
      (w.sent ++ map of_container (messages_of (commit_made w.rec f frame).answer.actions)) w.owners
      (w.container_done ++ map (done_entry frame.k) (parts_in f w.rec.objects)) w.server_done
  commit_agrees steady = (let counts = commit_counts w.rec f frame h.steady at unsettled w.container_done apart in
      plain_joined w made (w.container_done ++ fresh) h steady (commit_plain w.rec f frame h.steady at unsettled)
      (all_counted (links_of w.rec.objects) (links_of made.rec.objects) (acts_of w.instances) (lives_of w.instances)
      (sayings w.sent) (sayings_of made.answer.actions) w.owners w.rec.last_act w.container_done fresh
      w.server_done frame.k
      counts h.facts)
      (asked_views (IsTold (links_of w.rec.objects) frame.k fresh) w made h counts.tells)
      (joined_grants w made [] h (committed_moves w.rec f frame h.steady at) (λ x z honest. absurd z)
      (asks_followed (IsTold (links_of w.rec.objects) frame.k fresh) (links_of w.rec.objects)
      (links_of made.rec.objects) (sayings_of made.answer.actions) counts.tells)))

-- a step that keeps a record steady
abbrev Keeps : Result Took ContainerFault → Type 0
Keeps told = (t : Took) → told ≡ Ok t → Steady t.rec

agrees_committed : (w : World) (f : ℕ) (bytes : List ℕ) (frame : Frame) (saved : FrameDocument)
    (told : Result Took ContainerFault) (v : World) → Files w → AgreesIn w → nth w.rec.frames f ≡ Some frame
    → image w.rec f ≡ Ok saved → IsCommitOf w.rec f frame told → Keeps told
    → done_with w f bytes (Some frame) (Ok saved) told ≡ Ok v → AgreesIn v
agrees_committed w f bytes frame saved (Err fault) v k h at im commits keeps e = cc
agrees_committed w f bytes frame saved (Ok t) v k h at im commits keeps e =
    let r = w.rec in
    let c = commits t refl in
    let ps : frame_document frame (parts_in f r.objects) ≡ saved =
    image_is_at r f frame saved (ap (image_at r f) (sym at) ∙ im) in
    let made = commit_made r f frame in
    let steady : Steady made.rec = subst (λ (x : Took). Steady x.rec) (sym c.1) (keeps t refl) in
    let one : AgreesIn
    (joined (kept_commit w f frame (frame_document frame (parts_in f r.objects)) made.counted bytes) made) =
    commit_agrees w k h f frame at c.0 steady in
    let two : AgreesIn (joined (kept_commit w f frame saved made.counted bytes) made) =
    subst (λ x. AgreesIn (joined (kept_commit w f frame x made.counted bytes) made)) ps one in
    let three : AgreesIn (joined (kept_commit w f frame saved t.counted bytes) t) =
    subst (λ x. AgreesIn (joined (kept_commit w f frame saved x.counted bytes) x)) c.1 two in
    subst AgreesIn (ok_is _ v e) three

agrees_done : (w : World) (f : ℕ) (bytes : List ℕ) (frame : Option Frame) (told : Result FrameDocument ContainerFault)
    (counted : Result Took ContainerFault) (v : World) → Files w → AgreesIn w → nth w.rec.frames f ≡ frame
    → image w.rec f ≡ told → ((x : Frame) → nth w.rec.frames f ≡ Some x → IsCommitOf w.rec f x counted)
    → Keeps counted → done_with w f bytes frame told counted ≡ Ok v → AgreesIn v
agrees_done w f bytes None told counted v k h at im commits keeps e = cc
agrees_done w f bytes (Some frame) (Err fault) counted v k h at im commits keeps e = cc
agrees_done w f bytes (Some frame) (Ok saved) counted v k h at im commits keeps e =
    agrees_committed w f bytes frame saved counted v k h at im (commits frame at) keeps e

-- a commit that fails, and one in doubt that is resolved
agrees_only : (w : World) (told : Result Took ContainerFault) (v : World)
    → ((t : Took) → told ≡ Ok t → AgreesIn (joined w t)) → only_taken w told ≡ Ok v → AgreesIn v
agrees_only w (Err fault) v g e = cc
agrees_only w (Ok t) v g e = subst AgreesIn (ok_is _ v e) (g t refl)

agrees_failed : (w : World) (f : ℕ) (t : Took) → AgreesIn w → commit_failed w.rec f ≡ Ok t → AgreesIn (joined w t)
agrees_failed w f t h e = turned_joined w t [] h (on_input_keeps w.rec (Input.Failed f) t h.steady e)
    (failed_moves w.rec f t h.steady e) (λ x z honest. absurd z) (asks_turned w.rec t (failed_asks w.rec f t e))

agrees_dropped : (w : World) (f : ℕ) (t : Took) → AgreesIn w → resolve w.rec f false ≡ Ok t → AgreesIn (joined w t)
agrees_dropped w f t h e = turned_joined w t [] h (on_input_keeps w.rec (Input.Resolved f false) t h.steady e)
    (dropped_moves w.rec f t h.steady e) (λ x z honest. absurd z)
    (asks_turned w.rec t (dropped_asks w.rec f t h.steady e))

agrees_resolved : (w : World) (f : ℕ) (is_kept : Bool) (bytes : List ℕ) (v : World) → Files w → AgreesIn w
    → resolved w f is_kept bytes ≡ Ok v → AgreesIn v
agrees_resolved w f true bytes v k h e = agrees_done w f bytes (nth w.rec.frames f) (image w.rec f)
    (resolve w.rec f true) v k h refl refl (λ x at. kept_commits w.rec f x at)
    (λ t q. on_input_keeps w.rec (Input.Resolved f true) t h.steady q) e
agrees_resolved w f false bytes v k h e = agrees_only w (resolve w.rec f false) v (λ t q. agrees_dropped w f t h q) e

-- a file that is opened
agrees_opened : (w : World) (name : List ℕ) (x y : ℕ) (given : Given) (t : Took) → AgreesIn w
    → opened w.rec name x y given ≡ Ok t → AgreesIn (joined w t)
agrees_opened w name x y given t h e = turned_joined w t [] h
    (on_input_keeps w.rec (Input.Opened name x y given) t h.steady e)
    (opened_moves w.rec name x y given t h.steady e) (λ m z honest. absurd z)
    (asks_turned w.rec t (open_asks w.rec name x y given t e))

pub agrees_happened : (w : World) (choice : Choice) (e : Event) (v : World) → Files w → AgreesIn w
    → happened w choice e ≡ Ok v → AgreesIn v
agrees_happened w choice (event.Command c) v k h e = subst AgreesIn (ok_is _ v e)
    (agrees_commanded w c (on_command w.rec c) h refl)
agrees_happened w choice (event.Deliver p) v k h e = agrees_deliver w p (nth w.sent p) v h refl e
agrees_happened w choice (event.Forge inc m) v k h e = agrees_forge w inc m (nth w.instances inc) v h e
agrees_happened w choice (event.Crash s inc) v k h e = agrees_crash w inc (nth w.instances inc) v h refl
    (in_run_ok w s (crash w inc (nth w.instances inc)) v e)
agrees_happened w choice (event.Reap inc) v k h e = agrees_reap w inc (nth w.instances inc) v h refl e
agrees_happened w choice (event.Scribble s inc act) v k h e = agrees_scribble w inc act (nth w.instances inc) v h
    refl (in_run_ok w s (scribble w inc act (nth w.instances inc)) v e)
agrees_happened w choice (event.Ask s inc act) v k h e = agrees_ask w inc act (nth w.instances inc) v h refl
    (in_run_ok w s (ask w inc act (nth w.instances inc)) v e)
agrees_happened w choice (event.Done f) v k h e = agrees_done w f choice.file (nth w.rec.frames f) (image w.rec f)
    (commit_done w.rec f) v k h refl refl (λ x at. done_commits w.rec f x at)
    (λ t q. on_input_keeps w.rec (Input.Committed f) t h.steady q) e
agrees_happened w choice (event.Fail f) v k h e = agrees_only w (commit_failed w.rec f) v
    (λ t q. agrees_failed w f t h q) e
agrees_happened w choice (event.Resolve f is_kept) v k h e = agrees_resolved w f is_kept choice.file v k h e
agrees_happened w choice (event.Open name x y) v k h e =
    subst AgreesIn (ok_is _ v e) (agrees_took w (opened w.rec name x y choice.given) h
    (λ t q. agrees_opened w name x y choice.given t h q))
