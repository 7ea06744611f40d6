-- What was sent and taken by an event; and each content that is taken came under the grant that the record held open.
use Rattle.std.proofs.Common.{◌≡◌, ◌==◌, ℕ, zero, suc, Bool, true, false, List, [], ◌∷◌, ◌++◌, map, Option, Some, None}
use Rattle.std.proofs.Common.{Result, Ok, Err, refl, sym, ap, ◌∙◌, inl, inr, subst, slice_get, if◌then◌else◌}
use Rattle.std.proofs.lemmas.List.{append-nil, map-append}
use Rattle.message_values.specs.Found.{find, nth, set_nth}
use Rattle.message_values.specs.declared.message.Message.{Message}
use Rattle.message_values.specs.declared.message.Said.TheVariants.{Call, Reply, Write, Ask}
use Rattle.message_values.specs.declared.operation.Operation.{Operation}
use Rattle.message_values.specs.declared.operation.Operation.TheVariants.{Close}
use Rattle.object_state.specs.declared.operations.CloseOption.TheVariants.{SaveIfDirty}
use Rattle.message_values.specs.declared.answer.Answer.{Answer}
use Rattle.message_values.specs.declared.answer.Answer.TheVariants.{Content}
use Rattle.message_values.specs.declared.answer.Answer.TheVariants as told
use Rattle.object_core.specs.Kinds.{Kind}
use Rattle.tree_streams.specs.declared.stored.Stored.{Stored}
use Rattle.server_model.specs.Server.{Served, Told, on_call, wanted}
use Rattle.server_model.specs.Server as server
use Rattle.server_model.specs.declared.fault.ServerFault.{ServerFault}
use Rattle.container_model.specs.Record.{Record, Took, acts, counts_none, sends, is_alive, is_linked}
use Rattle.container_model.specs.Saves.{image, commit_done, commit_failed, resolve}
use Rattle.container_model.specs.Messages.{awaits_save, is_held_by, relieved, ask_framed, ask_found, on_message}
use Rattle.container_model.specs.Messages.{on_reap}
use Rattle.container_model.specs.Commands.{on_command}
use Rattle.container_model.specs.Opens.{opened}
use Rattle.container_model.specs.declared.answer.FrameDocument.{FrameDocument}
use Rattle.container_model.specs.declared.command.Command.{Command}
use Rattle.container_model.specs.declared.record.Frame.{Frame}
use Rattle.container_model.specs.declared.record.Link.{Link}
use Rattle.container_model.specs.declared.record.Object.{Object}
use Rattle.container_model.specs.declared.fault.ContainerFault.{ContainerFault}
use Rattle.container_model.specs.declared.fault.ContainerFault.TheVariants.{Stale, WrongLink}
use Rattle.world_model.specs.declared.event.Event.{Event}
use Rattle.world_model.specs.declared.event.Event.TheVariants as event
use Rattle.world_model.specs.declared.event.Stop.{Stop}
use Rattle.world_model.specs.declared.life.Life.{Life}
use Rattle.world_model.specs.declared.life.Life.TheVariants.{Running, Ended, Reaped}
use Rattle.world_model.specs.declared.logs.Sent.{Sent}
use Rattle.world_model.specs.declared.logs.Taken.{Taken}
use Rattle.world_model.specs.World.{World, Instance, messages_of, of_container, took, commanded, view_in, served, is_of}
use Rattle.world_model.specs.World.{stocked, called_wanting, called_in, called, delivered, taken_link, taken_of}
use Rattle.world_model.specs.World.{taken_by, taken_at, with_taken, server_of, deliver, forged_on, forged, forge}
use Rattle.world_model.specs.World.{spoken_by, spoken, scribble, ask, crashed, crash, ended, reap}
use Rattle.world_model.specs.World.{only_taken, resolved, happened, Choice, delivered_said}
use Rattle.world_model.specs.World.{in_session, link_of, link_to, taken_said, done_with}
use Rattle.world_model.specs.Safe.{Among, WasSent, link_at, links_of, acts_of, sayings, IsGranted, IsHonest, is_hostile}
use Rattle.world_model.specs.Safe.{BringsBy, messages}
use Rattle.world_facts.specs.Words.{lives_of}
use Rattle.world_facts.specs.Views.{IsSentOpen}
use Rattle.world_facts.proofs.Honest.{honest_before, just_hostile}
use Rattle.world_facts.proofs.Lookups.{among_join, among_map, among_old, nth_old, find_passes, among_mapped}
use Rattle.world_steps.proofs.Forging.{own_link}
use Rattle.world_steps.proofs.Objects.{messages_of_log}
use Rattle.container_steady.proofs.SteadyFinds.{found_by_number}
use Rattle.world_grants.specs.Grants.{roles_of}
use Rattle.world_grants.proofs.Stepping.{pending_called}
use Rattle.world_steps.proofs.Replying.{linked_is, IsClosing, reply_closes}
use Rattle.world_steps.proofs.Taking.{normal_of, write_is, held_open}
use Rattle.world_safety.specs.Holding.{AgreesIn}
use Rattle.message_values.specs.declared.message.Said.{Said}
use Rattle.container_model.proofs.SaidOn.{is_said_on, said_on}
use Rattle.world_model.proofs.InRun.{in_run_ok}

-- a world whose log of messages grew, and that took nothing
pub record Grew (w v : World) : Type 0 where
  pub more : List Sent
  pub sent : v.sent ≡ w.sent ++ more
  pub taken : v.taken ≡ w.taken
  pub hostile : v.hostile ≡ w.hostile

stays : (w v : World) → v.sent ≡ w.sent → v.taken ≡ w.taken → v.hostile ≡ w.hostile → Grew w v
stays w v s t h = record { more = []; sent = s ∙ sym (append-nil w.sent); taken = t; hostile = h }

grew_took : (w : World) (told : Result Took ContainerFault) → Grew w (took w told)
grew_took w (Err fault) = stays w _ refl refl refl
grew_took w (Ok t) = record {
  more = map of_container (messages_of t.answer.actions);
  sent = refl;
  taken = refl;
  hostile = refl;
}

grew_commanded : (w : World) (c : Command) (told : Result Took ContainerFault) → Grew w (commanded w c told)
grew_commanded w c (Err fault) = stays w _ refl refl refl
grew_commanded w c (Ok t) = record {
  more = map of_container (messages_of t.answer.actions);
  sent = refl;
  taken = refl;
  hostile = refl;
}

ok_is : (x y : World) → ◌≡◌ {A = Result World Stop} (Ok x) (Ok y) → x ≡ y
ok_is x y e = cc

module _ (w : World) (s inc act n : ℕ) (op : Operation) where
  grew_served : (i : Instance) (stock : List Kind) (told : Result Served ServerFault)
      → Grew w (served w s inc act n i stock told)
  grew_served i stock (Err fault) = stays w _ refl refl refl
  grew_served i stock (Ok v) =
      record {
        more = record { message = in_session s (Reply inc act n v.answer); view = view_in i.core act } ∷ [];
        sent = refl;
        taken = refl;
        hostile = refl;
      }

  grew_stocked : (i : Instance) (class : List ℕ) (kind : Option Kind) (v : World)
      → stocked w s inc act n op i class kind ≡ Ok v → Grew w v
  grew_stocked i class None v e = cc
  grew_stocked i class (Some kind) v e = subst (Grew w) (ok_is _ v e)
      (grew_served i _ (on_call i.core (in_session s (Call inc act n op)) (Some kind)))

  grew_wanting : (i : Instance) (class : Option (List ℕ)) (v : World) → called_wanting w s inc act n op i class
      ≡ Ok v → Grew w v
  grew_wanting i None v e = subst (Grew w) (ok_is _ v e)
      (grew_served i w.stock (on_call i.core (in_session s (Call inc act n op)) None))
  grew_wanting i (Some class) v e = grew_stocked i class (find (is_of class) w.stock) v e

  grew_called_in : (i : Instance) (life : Life) (v : World) → called_in w s inc act n op i life ≡ Ok v → Grew w v
  grew_called_in i Running v e = grew_wanting i (wanted i.core (in_session s (Call inc act n op))) v e
  grew_called_in i Ended v e = subst (Grew w) (ok_is _ v e) (stays w _ refl refl refl)
  grew_called_in i Reaped v e = subst (Grew w) (ok_is _ v e) (stays w _ refl refl refl)

  grew_called : (i : Option Instance) (v : World) → called w s inc act n op i ≡ Ok v → Grew w v
  grew_called None v e = subst (Grew w) (ok_is _ v e) (stays w _ refl refl refl)
  grew_called (Some i) v e = grew_called_in i i.life v e

grew_said : (w : World) (m : Message) (x : Said) (v : World) → delivered_said w m x ≡ Ok v → Grew w v
grew_said w m (Call inc act n op) v e = grew_called w m.session inc act n op (nth w.instances inc) v e
grew_said w m (Reply inc act n answer) v e = subst (Grew w) (ok_is _ v e) (grew_took w (on_message w.rec (link_of m) m))
grew_said w m (Write inc act s n content) v e = subst (Grew w) (ok_is _ v e)
    (grew_took w (on_message w.rec (link_of m) m))
grew_said w m (Ask inc act g) v e = subst (Grew w) (ok_is _ v e) (grew_took w (on_message w.rec (link_of m) m))

grew_delivered : (w : World) (m : Message) (v : World) → delivered w m ≡ Ok v → Grew w v
grew_delivered w m v e = grew_said w m m.said v e

grew_crashed : (w : World) (inc : ℕ) (i : Instance) (life : Life) (v : World) → crashed w inc i life ≡ Ok v → Grew w v
grew_crashed w inc i Running v e = subst (Grew w) (ok_is _ v e) (stays w _ refl refl refl)
grew_crashed w inc i Ended v e = cc
grew_crashed w inc i Reaped v e = cc

grew_crash : (w : World) (inc : ℕ) (i : Option Instance) (v : World) → crash w inc i ≡ Ok v → Grew w v
grew_crash w inc None v e = cc
grew_crash w inc (Some i) v e = grew_crashed w inc i i.life v e

grew_ended : (w : World) (inc : ℕ) (i : Instance) (life : Life) (v : World) → ended w inc i life ≡ Ok v → Grew w v
grew_ended w inc i Running v e = cc
grew_ended w inc i Ended v e =
    (let u : World = record w { instances = set_nth w.instances inc (record i { life = Reaped }) } in
    let g = grew_took u (on_reap w.rec inc) in
    subst (Grew w) (ok_is _ v e) (record { more = g.more; sent = g.sent; taken = g.taken; hostile = g.hostile }))
grew_ended w inc i Reaped v e = cc

grew_reap : (w : World) (inc : ℕ) (i : Option Instance) (v : World) → reap w inc i ≡ Ok v → Grew w v
grew_reap w inc None v e = cc
grew_reap w inc (Some i) v e = grew_ended w inc i i.life v e

grew_spoken_by : (w : World) (inc act : ℕ) (i : Instance) (told : Result Told ServerFault)
    → Grew w (spoken_by w inc act i told)
grew_spoken_by w inc act i (Err fault) = stays w _ refl refl refl
grew_spoken_by w inc act i (Ok t) = record {
  more = record { message = t.message; view = view_in i.core act } ∷ [];
  sent = refl;
  taken = refl;
  hostile = refl;
}

grew_spoken : (w : World) (inc act : ℕ) (i : Instance) (told : Result Told ServerFault) (life : Life) (v : World)
    → spoken w inc act i life told ≡ Ok v → Grew w v
grew_spoken w inc act i told Running v e = subst (Grew w) (ok_is _ v e) (grew_spoken_by w inc act i told)
grew_spoken w inc act i told Ended v e = cc
grew_spoken w inc act i told Reaped v e = cc

grew_scribble : (w : World) (inc act : ℕ) (i : Option Instance) (v : World) → scribble w inc act i ≡ Ok v → Grew w v
grew_scribble w inc act None v e = cc
grew_scribble w inc act (Some i) v e = grew_spoken w inc act i (server.scribble i.core act) i.life v e

grew_ask : (w : World) (inc act : ℕ) (i : Option Instance) (v : World) → ask w inc act i ≡ Ok v → Grew w v
grew_ask w inc act None v e = cc
grew_ask w inc act (Some i) v e = grew_spoken w inc act i (server.ask_deactivate i.core act) i.life v e

module _ (w : World) (f : ℕ) (bytes : List ℕ) where
  grew_done : (frame : Option Frame) (saved : Result FrameDocument ContainerFault)
      (told : Result Took ContainerFault) (v : World) → done_with w f bytes frame saved told ≡ Ok v → Grew w v
  grew_done None saved told v e = cc
  grew_done (Some frame) (Err fault) told v e = cc
  grew_done (Some frame) (Ok saved) (Err fault) v e = cc
  grew_done (Some frame) (Ok saved) (Ok t) v e = subst (Grew w) (ok_is _ v e)
      (record { more = map of_container (messages_of t.answer.actions); sent = refl; taken = refl; hostile = refl })

grew_only : (w : World) (told : Result Took ContainerFault) (v : World) → only_taken w told ≡ Ok v → Grew w v
grew_only w (Err fault) v e = cc
grew_only w (Ok t) v e = subst (Grew w) (ok_is _ v e)
    (record { more = map of_container (messages_of t.answer.actions); sent = refl; taken = refl; hostile = refl })

grew_resolved : (w : World) (f : ℕ) (is_kept : Bool) (bytes : List ℕ) (v : World)
    → resolved w f is_kept bytes ≡ Ok v → Grew w v
grew_resolved w f true bytes v e = grew_done w f bytes (nth w.rec.frames f) (image w.rec f) (resolve w.rec f true) v e
grew_resolved w f false bytes v e = grew_only w (resolve w.rec f false) v e

-- what was granted stays so
abbrev message_in : Sent → Message
message_in x = x.message

sent_more : (w v : World) (more : List Sent) (m : Message) → v.sent ≡ w.sent ++ more → WasSent w m → WasSent v m
sent_more w v more m e g = subst (λ xs. Among xs m) (sym (ap messages e ∙ map-append message_in w.sent more))
    (among_old (messages w.sent) (messages more) m g)

brings_more : (w v : World) (more : List Sent) (session : ℕ) (x : Said) (t : Taken) → v.sent ≡ w.sent ++ more
    → BringsBy w session x t → BringsBy v session x t
brings_more w v more session (Call inc act n op) t e b = absurd b
brings_more w v more session (Reply inc act n told.Done) t e b = absurd b
brings_more w v more session (Reply inc act n (told.Refused why)) t e b = absurd b
brings_more w v more session (Reply inc act n (Content content)) t e b =
    (b.0, b.1, sent_more w v more (in_session session (Call inc act n (Close SaveIfDirty))) e b.2)
brings_more w v more session (Reply inc act n (told.Tools menus border)) t e b = absurd b
brings_more w v more session (Write inc act s number content) t e b = b
brings_more w v more session (Ask inc act g) t e b = absurd b

pub granted_more : (w v : World) (more : List Sent) (t : Taken) → v.sent ≡ w.sent ++ more → IsGranted w t
    → IsGranted v t
granted_more w v more t e g = (let s = g.sent in record {
  message = g.message;
  place = g.place;
  placed = g.placed;
  delivered = ap (λ xs. nth (messages xs) g.place) e
      ∙ (ap (λ xs. nth xs g.place) (map-append message_in w.sent more) ∙ nth_old (messages w.sent) (messages more)
      g.place g.message g.delivered);
  brings = brings_more w v more g.message.session g.message.said t e g.brings;
  sent = (
    s.0,
    subst (λ xs. Among xs (record { message = g.message; view = Some s.0 })) (sym e)
        (among_old w.sent more _ s.1),
    s.2,
    s.3,
    s.4,
  );
  held_open = g.held_open;
  unasked = g.unasked;
})

-- the message at a place
nth_message : (xs : List Sent) (p : ℕ) (x : Sent) → nth xs p ≡ Some x → (nth (messages xs) p ≡ Some x.message)
    × Among xs x
nth_message xs zero x e = cc
nth_message xs (suc i) x e = at xs i e
  where
    at : (ys : List Sent) (i : ℕ) → slice_get ys i ≡ Some x → (slice_get (messages ys) i ≡ Some x.message) × Among ys x
    at [] i e = cc
    at (y ∷ ys) zero e = (let q : y ≡ x = cc in (ap (λ (z : Sent). Some z.message) q, inl (sym q)))
    at (y ∷ ys) (suc i) e = (let r = at ys i e in (r.0, inr r.1))

said_among : (xs : List Sent) (x : Sent) → Among xs x → Among (sayings xs) x.message.said
said_among xs x h = among_map (λ (y : Sent). y.message.said) xs x h

-- what was said was sent, in the one session of all that was sent
abbrev pub AllIn : World → Type 0
AllIn w = (m : Message) → WasSent w m → m.session ≡ w.rec.session

pub sent_said : (w : World) (s : ℕ) (x : Said) → AllIn w → s ≡ w.rec.session → Among (sayings w.sent) x
    → WasSent w (in_session s x)
sent_said w s x all is h = (let m = among_mapped (λ (y : Sent). y.message.said) w.sent x h in
    let there : WasSent w m.0.message = among_map message_in w.sent m.0 m.1 in
    let session : m.0.message.session ≡ s = all m.0.message there ∙ sym is in
    subst (WasSent w) (ap (λ k. in_session k m.0.message.said) session ∙ ap (in_session s) (sym m.2)) there)

-- the entry of what is taken
abbrev entry_of : (p : Option ℕ) (o : Object) (l : Link) → Taken
entry_of p o l = record {
  place = p;
  object = o.number;
  inc = l.inc;
  act = l.act;
  persist = l.states.persist.state;
  s = l.s;
  awaits_save = awaits_save l;
}

taken_is : (p : Option ℕ) (x : Option Object) (o : Object) (l : Link) (t : Taken) → x ≡ Some o → o.link ≡ Some l
    → Among (taken_of p x) t → t ≡ entry_of p o l
taken_is p x o l t f q g = (let y : Among (taken_link p o.number (Some l)) t =
    subst (λ z. Among (taken_link p o.number z) t) q (subst (λ z. Among (taken_of p z) t) f g) in at y)
  where
    at : Among (entry_of p o l ∷ []) t → t ≡ entry_of p o l
    at (inl e) = e
    at (inr z) = absurd z

took_some : (r : Record) (p : Option ℕ) (inc act : ℕ) (told : Result Took ContainerFault) (t : Taken)
    → Among (taken_by r p inc act told) t → (u : Took) × (told ≡ Ok u) × (u.answer.taken ≡ true)
    × Among (taken_of p (find (is_linked inc act) r.objects)) t
took_some r p inc act (Err fault) t g = absurd g
took_some r p inc act (Ok u) t g = elim (u.answer.taken) as (λ b. u.answer.taken ≡ b
    → Among (if b then taken_of p (find (is_linked inc act) r.objects) else []) t → (v : Took)
    × (◌≡◌ {A = Result Took ContainerFault} (Ok u) (Ok v)) × (v.answer.taken ≡ true)
    × Among (taken_of p (find (is_linked inc act) r.objects)) t) [
      | true ↦ (λ q h. (u, refl, q, h))
      | false ↦ (λ q h. absurd h)
    ] refl g

-- whoever asks to be relieved of its frame brings no content
module _ (r : Record) (act g : ℕ) (u : Took) where
  unframed : (o : Object) (frame : Option Frame) → ask_framed r o act g frame ≡ Ok u → u.answer.taken ≡ false
  unframed o None e = cc
  unframed o (Some frame) e = by_holder (is_held_by act g frame.ui.state) e
    where
      made : Took
      made = counts_none (relieved r o act g frame).rec (acts (sends (relieved r o act g frame).sent))

      by_holder : (b : Bool) → ◌≡◌ {A = Result Took ContainerFault} (if b then Ok made else Err Stale) (Ok u)
          → u.answer.taken ≡ false
      by_holder true k = (let is : made ≡ u = cc in ap (λ (v : Took). v.answer.taken) (sym is))
      by_holder false k = cc

  unfound : (o : Option Object) → ask_found r act g o ≡ Ok u → u.answer.taken ≡ false
  unfound None e = cc
  unfound (Some o) e = unframed o (nth r.frames o.frame) e

  untaken : (inc link : ℕ) → said_on r link (Ask inc act g) ≡ Ok u → u.answer.taken ≡ false
  untaken inc link e = at (inc == link) (is_alive r inc) e
    where
      at : (a b : Bool) → ◌≡◌ {A = Result Took ContainerFault}
          (if a then (if b then ask_found r act g (find (is_linked inc act) r.objects) else Err Stale)
          else Err WrongLink) (Ok u) → u.answer.taken ≡ false
      at true true k = unfound (find (is_linked inc act) r.objects) k
      at true false k = cc
      at false b k = cc

named_by : (r : Record) (inc act : ℕ) (o : Object) (l : Link) → find (is_linked inc act) r.objects ≡ Some o
    → o.link ≡ Some l → (l.inc ≡ inc) × (l.act ≡ act)
named_by r inc act o l f q = linked_is inc act o.link l q (find_passes (is_linked inc act) r.objects o f)

-- what is taken is of the server whose message it is
taken_inc : (r : Record) (p : Option ℕ) (inc act : ℕ) (t : Taken) (found : Option Object)
    → find (is_linked inc act) r.objects ≡ found → Among (taken_of p found) t → t.inc ≡ inc
taken_inc r p inc act t None f g = absurd g
taken_inc r p inc act t (Some o) f g = at_link o.link refl g
  where
    at_link : (link : Option Link) → o.link ≡ link → Among (taken_link p o.number link) t → t.inc ≡ inc
    at_link None q g = absurd g
    at_link (Some l) q (inl is) = ap (λ (z : Taken). z.inc) is ∙ (named_by r inc act o l f q).0
    at_link (Some l) q (inr z) = absurd z

module _ (w : World) (h : AgreesIn w) (all : AllIn w) (p : ℕ) (x : Sent) (at : nth w.sent p ≡ Some x) where
  abbrev m : Message
  m = x.message

  message_at : nth (messages w.sent) p ≡ Some m
  message_at = (nth_message w.sent p x at).0

  here : x ≡ record { message = m; view = x.view }
  here = refl

  -- the session of what was delivered
  sent_in : m.session ≡ w.rec.session
  sent_in = all m (among_map message_in w.sent x (nth_message w.sent p x at).1)

  write_granted : (inc act s n : ℕ) (content : Stored) (t : Taken) → m.said ≡ Write inc act s n content
      → Among (taken_by w.rec (Some p) inc act (on_message w.rec (link_of m) m)) t → IsGranted w t
  write_granted inc act s n content t e g =
      let k = took_some w.rec (Some p) inc act (on_message w.rec (link_of m) m) t g in
      let on : said_on w.rec inc (Write inc act s n content) ≡ Ok k.0 =
      subst (λ y. said_on w.rec (server_of y) y ≡ Ok k.0) e (is_said_on w.rec (link_of m) m k.0 k.1).said in
      let b = write_is w.rec inc act s n content k.0 on in
      let open_now = held_open b.link s n b.granted in
      let name = named_by w.rec inc act b.object b.link b.found b.linked in
      let seen : IsSentOpen (Write inc act s n content) x.view =
      subst (λ y. IsSentOpen y x.view) e (h.views.writes_sent x (nth_message w.sent p x at).1) in
      let view = seen.0 in
      let under = seen.2 in
      let is : x ≡ record { message = m; view = Some view } = ap (λ y. record { message = m; view = y }) seen.1 in
      subst (IsGranted w)
      (sym (taken_is (Some p) (find (is_linked inc act) w.rec.objects) b.object b.link t b.found b.linked k.3))
      (record {
        message = m;
        place = p;
        placed = refl;
        delivered = message_at;
        brings = subst (λ y. BringsBy w m.session y (entry_of (Some p) b.object b.link)) (sym e)
            (sym name.0, sym name.1, sym open_now.grant);
        sent = (
          view,
          subst (Among w.sent) is (nth_message w.sent p x at).1,
          under.opened,
          under.storage,
          under.grant ∙ sym open_now.grant,
        );
        held_open = open_now.storage;
        unasked = open_now.unasked;
      })

  -- and the close was sent that was answered
  close_called : (inc act n : ℕ) (answer : Answer) (honest : IsHonest w.hostile inc)
      (there : Among (sayings w.sent) (Reply inc act n answer))
      → IsClosing w.rec (acts_of w.instances) (lives_of w.instances) (sayings w.sent) w.owners w.rec.last_act
      w.container_done w.server_done inc act n answer h.steady h.facts honest there w.sent
      → WasSent w (in_session m.session (Call inc act n (Close SaveIfDirty)))
  close_called inc act n answer honest there c =
      let l = c.link in
      let at_l : links_of w.rec.objects c.object.number ≡ Some l =
      ap link_at (found_by_number (is_linked inc act) w.rec.objects c.object h.steady.order c.found)
      ∙ c.linked in
      let replied : Among (sayings w.sent) (Reply l.inc l.act l.last answer) =
      subst (λ i. Among (sayings w.sent) (Reply i l.act l.last answer)) (sym c.inc_is)
      (subst (λ a. Among (sayings w.sent) (Reply inc a l.last answer)) (sym c.act_is)
      (subst (λ k. Among (sayings w.sent) (Reply inc act k answer)) c.number there)) in
      let said : Among (sayings w.sent) (Call inc act n (Close SaveIfDirty)) =
      subst (λ i. Among (sayings w.sent) (Call i act n (Close SaveIfDirty))) c.inc_is
      (subst (λ a. Among (sayings w.sent) (Call l.inc a n (Close SaveIfDirty))) c.act_is
      (subst (λ k. Among (sayings w.sent) (Call l.inc l.act k (Close SaveIfDirty))) (sym c.number)
      (pending_called (links_of w.rec.objects) (acts_of w.instances) (lives_of w.instances) (sayings w.sent)
      w.owners w.rec.last_act w.container_done w.server_done h.facts c.object.number l (Close SaveIfDirty)
      (roles_of w.rec) answer h.grants at_l c.pending replied))) in
      sent_said w m.session (Call inc act n (Close SaveIfDirty)) all sent_in said

  close_granted : (inc act n : ℕ) (answer : Answer) (t : Taken) → m.said ≡ Reply inc act n answer
      → Among (taken_by w.rec (Some p) inc act (on_message w.rec (link_of m) m)) t → IsHonest w.hostile t.inc
      → IsGranted w t
  close_granted inc act n answer t e g honest_taken =
      let k = took_some w.rec (Some p) inc act (on_message w.rec (link_of m) m) t g in
      let on : said_on w.rec inc (Reply inc act n answer) ≡ Ok k.0 =
      subst (λ y. said_on w.rec (server_of y) y ≡ Ok k.0) e (is_said_on w.rec (link_of m) m k.0 k.1).said in
      let there : Among (sayings w.sent) (Reply inc act n answer) =
      subst (Among (sayings w.sent)) e (said_among w.sent x (nth_message w.sent p x at).1) in
      let honest : IsHonest w.hostile inc = subst (IsHonest w.hostile)
      (taken_inc w.rec (Some p) inc act t (find (is_linked inc act) w.rec.objects) refl k.3) honest_taken in
      let c = reply_closes w.rec (acts_of w.instances) (lives_of w.instances) (sayings w.sent) w.owners
      w.rec.last_act w.container_done w.server_done inc act n answer h.steady h.facts honest there w.sent k.0 on
      k.2 h.views in
      let said : m.said ≡ Reply inc act n (Content c.content) = e ∙ ap (Reply inc act n) c.brings in
      let seen_in : c.seen.session ≡ m.session = all (in_session c.seen.session (Reply inc act n answer))
      (among_map message_in w.sent (record {
        message = in_session c.seen.session (Reply inc act n answer);
        view = Some c.seen.view;
      }) c.seen.among) ∙ sym sent_in in
      let same : in_session c.seen.session (Reply inc act n answer) ≡ m =
      ap (λ i. in_session i (Reply inc act n answer)) seen_in ∙ ap (in_session m.session) (sym e) in
      let normal = normal_of c.link.states.persist.state c.held.storage in
      subst (IsGranted w)
      (sym (taken_is (Some p) (find (is_linked inc act) w.rec.objects) c.object c.link t c.found c.linked k.3))
      (record {
        message = m;
        place = p;
        placed = refl;
        delivered = message_at;
        brings = subst (λ y. BringsBy w m.session y (entry_of (Some p) c.object c.link)) (sym said)
            (sym c.inc_is, sym c.act_is, close_called inc act n answer honest there c);
        sent = (
          c.seen.view,
          subst (λ y. Among w.sent (record { message = y; view = Some c.seen.view })) same
              c.seen.among,
          c.seen.opened,
          ap (λ v. v.persist.state) c.seen.states ∙ normal,
          c.seen.grant,
        );
        held_open = normal;
        unasked = c.held.unasked;
      })

  granted_said : (y : Said) (t : Taken) → m.said ≡ y → Among (taken_said w.rec (Some p) (link_of m) m y) t
      → IsHonest w.hostile t.inc → IsGranted w t
  granted_said (Call inc act n op) t e g honest = absurd g
  granted_said (Reply inc act n answer) t e g honest = close_granted inc act n answer t e g honest
  granted_said (Write inc act s n content) t e g honest = write_granted inc act s n content t e g
  granted_said (Ask inc act j) t e g honest =
      (let k = took_some w.rec (Some p) inc act (on_message w.rec (link_of m) m) t g in
      let on : said_on w.rec inc (Ask inc act j) ≡ Ok k.0 = subst (λ y. said_on w.rec (server_of y) y ≡ Ok k.0) e
      (is_said_on w.rec (link_of m) m k.0 k.1).said in
      let z : false ≡ true = sym (untaken w.rec act j k.0 inc inc on) ∙ k.2 in cc)

  granted_at : (t : Taken) → Among (taken_at w.rec (Some p) (link_of m) m) t → IsHonest w.hostile t.inc → IsGranted w t
  granted_at t g honest = granted_said m.said t refl g honest

-- what was taken after an event
abbrev AreGranted : World → Type 0
AreGranted w = (t : Taken) → Among w.taken t → IsHonest w.hostile t.inc → IsGranted w t

granted_grew : (w v : World) → Grew w v → AreGranted w → AreGranted v
granted_grew w v g h t a honest = granted_more w v g.more t g.sent
    (h t (subst (λ xs. Among xs t) g.taken a) (subst (λ hs. IsHonest hs t.inc) g.hostile honest))

granted_logged : (w : World) (more : List Taken) (told : Result World Stop) (v : World)
    → ((t : Taken) → Among more t → IsHonest w.hostile t.inc → IsGranted w t)
    → ((u : World) → told ≡ Ok u → Grew w u) → AreGranted w → with_taken w more told ≡ Ok v → AreGranted v
granted_logged w more (Err stop) v new grew h e = cc
granted_logged w more (Ok u) v new grew h e = (let g = grew u refl in
    subst AreGranted (ok_is _ v e)
    (λ t a honest. (let still : IsHonest w.hostile t.inc = subst (λ hs. IsHonest hs t.inc) g.hostile honest in
    granted_more w _ g.more t g.sent
    (elim (among_join w.taken more t a) [ inl old ↦ h t old still | inr now ↦ new t now still ]))))

granted_deliver : (w : World) (p : ℕ) (sent : Option Sent) (v : World) → AgreesIn w → AllIn w → nth w.sent p ≡ sent
    → AreGranted w → deliver w p sent ≡ Ok v → AreGranted v
granted_deliver w p None v k all at h e = cc
granted_deliver w p (Some x) v k all at h e =
    granted_logged w (taken_at w.rec (Some p) (link_of x.message) x.message) (delivered w x.message) v
    (λ t g. granted_at w k all p x at t g) (λ u g. grew_delivered w x.message u g) h e

-- What is taken of a forged message is of a hostile server, so nothing is owed of it; and what was granted before stays
-- so.
taken_told : (w : World) (inc i act : ℕ) (m : Message) (t : Taken) → server_of m.said ≡ i
    → Among (taken_by w.rec None i act (on_message w.rec (link_to w inc) m)) t → t.inc ≡ inc
taken_told w inc i act m t is g =
    let k = took_some w.rec None i act (on_message w.rec (link_to w inc) m) t g in
    taken_inc w.rec None i act t (find (is_linked i act) w.rec.objects) refl k.3
    ∙ (sym is ∙ own_link w.rec inc m.said k.0 (is_said_on w.rec (link_to w inc) m k.0 k.1).said)

forged_said : (w : World) (inc : ℕ) (m : Message) (y : Said) (t : Taken) → m.said ≡ y
    → Among (taken_said w.rec None (link_to w inc) m y) t → t.inc ≡ inc
forged_said w inc m (Call i act n op) t e g = absurd g
forged_said w inc m (Reply i act n answer) t e g = taken_told w inc i act m t (ap server_of e) g
forged_said w inc m (Write i act s n content) t e g = taken_told w inc i act m t (ap server_of e) g
forged_said w inc m (Ask i act j) t e g = taken_told w inc i act m t (ap server_of e) g

forged_inc : (w : World) (inc : ℕ) (m : Message) (t : Taken) → Among (taken_at w.rec None (link_to w inc) m) t
    → t.inc ≡ inc
forged_inc w inc m t g = forged_said w inc m m.said t refl g

granted_forged_on : (w : World) (inc : ℕ) (m : Message) → AreGranted w → AreGranted (forged_on w inc m)
granted_forged_on w inc m h t a honest =
    let g = grew_took w (on_message w.rec (link_to w inc) m) in
    granted_more w (forged_on w inc m) g.more t g.sent
    (elim (among_join w.taken (taken_at w.rec None (link_to w inc) m) t a) [
      | inl old ↦ h t old (honest_before w.hostile inc t.inc honest)
      | inr now ↦ absurd (let z : true ≡ false = sym (just_hostile w.hostile inc)
          ∙ (ap (is_hostile (w.hostile ++ inc ∷ [])) (sym (forged_inc w inc m t now)) ∙ honest) in cc)
    ])

granted_forged : (w : World) (inc : ℕ) (m : Message) (life : Life) (v : World) → AreGranted w
    → forged w inc m life ≡ Ok v → AreGranted v
granted_forged w inc m Running v h e = subst AreGranted (ok_is _ v e) (granted_forged_on w inc m h)
granted_forged w inc m Ended v h e = subst AreGranted (ok_is _ v e) (granted_forged_on w inc m h)
granted_forged w inc m Reaped v h e = cc

granted_forge : (w : World) (inc : ℕ) (m : Message) (i : Option Instance) (v : World) → AreGranted w
    → forge w inc m i ≡ Ok v → AreGranted v
granted_forge w inc m None v h e = cc
granted_forge w inc m (Some i) v h e = granted_forged w inc m i.life v h e

pub granted_happened : (w : World) (choice : Choice) (e : Event) (v : World) → AgreesIn w → AllIn w → AreGranted w
    → happened w choice e ≡ Ok v → AreGranted v
granted_happened w choice (event.Command c) v k all h e =
    granted_grew w v (subst (Grew w) (ok_is _ v e) (grew_commanded w c (on_command w.rec c))) h
granted_happened w choice (event.Deliver p) v k all h e = granted_deliver w p (nth w.sent p) v k all refl h e
granted_happened w choice (event.Forge inc m) v k all h e = granted_forge w inc m (nth w.instances inc) v h e
granted_happened w choice (event.Crash s inc) v k all h e =
    granted_grew w v (grew_crash w inc (nth w.instances inc) v
    (in_run_ok w s (crash w inc (nth w.instances inc)) v e)) h
granted_happened w choice (event.Reap inc) v k all h e = granted_grew w v (grew_reap w inc (nth w.instances inc) v e) h
granted_happened w choice (event.Scribble s inc act) v k all h e =
    granted_grew w v (grew_scribble w inc act (nth w.instances inc) v
    (in_run_ok w s (scribble w inc act (nth w.instances inc)) v e)) h
granted_happened w choice (event.Ask s inc act) v k all h e =
    granted_grew w v (grew_ask w inc act (nth w.instances inc) v
    (in_run_ok w s (ask w inc act (nth w.instances inc)) v e)) h
granted_happened w choice (event.Done f) v k all h e =
    granted_grew w v (grew_done w f choice.file (nth w.rec.frames f) (image w.rec f) (commit_done w.rec f) v e) h
granted_happened w choice (event.Fail f) v k all h e = granted_grew w v (grew_only w (commit_failed w.rec f) v e) h
granted_happened w choice (event.Resolve f is_kept) v k all h e =
    granted_grew w v (grew_resolved w f is_kept choice.file v e) h
granted_happened w choice (event.Open name x y) v k all h e =
    granted_grew w v (subst (Grew w) (ok_is _ v e) (grew_took w (opened w.rec name x y choice.given))) h
