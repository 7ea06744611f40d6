-- Objects that are asked one after the other: by their links, and in a record.
use Rattle.std.proofs.Common.{◌≡◌, ◌≢◌, ◌==◌, ℕ, false, List, [], ◌∷◌, ◌++◌, Option, Some, None, refl, sym, ap, ◌∙◌}
use Rattle.std.proofs.Common.{inl, inr, subst, if◌then◌else◌, eq-eqb}
use Rattle.std.proofs.lemmas.Bool.{eqb-true, eqb-false, ne_eqb}
use Rattle.std.proofs.lemmas.Bool.Decides.{eqb_tells}
use Rattle.std.proofs.lemmas.List.{append_assoc, append-nil}
use Rattle.std.specs.List.{AllByRecursion}
use Rattle.message_values.specs.Found.{find, put, nth}
use Rattle.message_values.specs.declared.message.Message.{Message}
use Rattle.message_values.specs.declared.message.Said.{Said}
use Rattle.message_values.specs.declared.operation.Operation.{Operation}
use Rattle.message_values.specs.declared.operation.Operation.TheVariants.{UiActivate}
use Rattle.object_state.specs.declared.grant_states.Claim.{Claim}
use Rattle.object_state.specs.Grants.{Event}
use Rattle.object_state.specs.Frames.{after}
use Rattle.container_model.specs.declared.grants.Tells.{Tells}
use Rattle.container_model.specs.declared.record.Link.{Link}
use Rattle.container_model.specs.declared.record.Object.{Object}
use Rattle.container_model.specs.declared.record.Frame.{Frame}
use Rattle.container_model.specs.Record.{Record, is_object, ask, ask_at, ask_each, asked_link, asked_sent, with_frame}
use Rattle.container_model.specs.Grants.{requested, request, grant_each, passed_to, moved, event_of, Regranted}
use Rattle.container_model.specs.Grants.{regranted_by, regranted_in, regranted}
use Rattle.container_queues.specs.Steady.{WaitsBehind}
use Rattle.container_steady.proofs.SteadyRecords.{if_told}
use Rattle.container_steady.proofs.SteadyFinds.{find-put_same, find-put_other}
use Rattle.container_steady.proofs.SteadyTests.{found_numbered}
use Rattle.world_model.specs.Safe.{Among, link_at, links_of}
use Rattle.world_facts.specs.Words.{Links, Acts, Lives, all_said}
use Rattle.world_facts.specs.Shapes.{AskedAt, none, stays, queues, sends as sent, AsksAll, IsQuiet, EndsSome}
use Rattle.world_steps.specs.Steps.{AsksInTurn, asks_none, asks_first}
use Rattle.world_steps.proofs.Objects.{Waits, found_number, said_join}
use Rattle.world_steps.proofs.Asking.{none_asked, is_asked, unasked_as}

waits_at : (Asks : Operation → Type 0) (before after : Option Link) (news : List Said)
    → AskedAt Asks before after news → ((l : Link) → before ≡ Some l → WaitsBehind l.pending l.waiting) → (m : Link)
    → after ≡ Some m
    → WaitsBehind m.pending m.waiting
waits_at Asks before after news (none b a q) w m e = (let z : None ≡ Some m = sym a ∙ e in cc)
waits_at Asks before after news (stays l k b a same ws q) w m e =
    let z : Some k ≡ Some m = sym a ∙ e in
    let km : k ≡ m = cc in
    subst (λ (x : Link). WaitsBehind x.pending x.waiting) km
    (subst (λ p. WaitsBehind p k.waiting) (sym same.pending) (subst (WaitsBehind l.pending) (sym ws) (w l b)))
waits_at Asks before after news (queues l k op pending b a same p ws asks q) w m e =
    let z : Some k ≡ Some m = sym a ∙ e in
    let km : k ≡ m = cc in
    subst (λ (x : Link). WaitsBehind x.pending x.waiting) km
    (subst (λ y. WaitsBehind y k.waiting) (sym (same.pending ∙ p)) tt)
waits_at Asks before after news (sent l k op b a called lw kw asks q) w m e =
    let z : Some k ≡ Some m = sym a ∙ e in
    let km : k ≡ m = cc in
    subst (λ (x : Link). WaitsBehind x.pending x.waiting) km
    (subst (λ y. WaitsBehind y k.waiting) (sym called.pending) tt)

pub waits_asked : (Asks : ℕ → Operation → Type 0) (links after : Links) (more : List Said)
    → AsksAll Asks links after more → Waits links → Waits after
waits_asked Asks links after more h w o m e = waits_at (Asks o) (links o) (after o) (h.news o) (h.each o) (w o) m e

pub waits_ended : {hostile : List ℕ} (links after : Links) (acts : Acts) (lives : Lives)
    → EndsSome hostile links after acts lives → Waits links → Waits after
waits_ended links after acts lives h w o l e = elim (h.each o) [
  | inl same ↦ w o l (sym same ∙ e)
  | inr over ↦ absurd (let z : None ≡ Some l = sym over.0 ∙ e in cc)
]

-- operations that are asked at once are asked in turn
pub one_turn : (links after : Links) (more : List Said) → AsksAll (λ o op. IsQuiet op) links after more
    → AsksInTurn links after more
one_turn links after more h = asks_first links after after more [] more h
    (asks_none after after [] (λ o. refl) refl) (sym (append-nil more))

pub turns_wait : (links after : Links) (more : List Said) → AsksInTurn links after more → Waits links → Waits after
turns_wait _ _ _ (asks_none links after more same e) w = λ o l q. w o l (sym (same o) ∙ q)
turns_wait _ _ _ (asks_first links between after first rest more h t e) w =
    turns_wait between after rest t (waits_asked (λ o op. IsQuiet op) links between first h w)

-- the same links, told another way
asks_from : (a b after : Links) (more : List Said) → ((o : ℕ) → b o ≡ a o)
    → AsksAll (λ o op. IsQuiet op) b after more → AsksAll (λ o op. IsQuiet op) a after more
asks_from a b after more same h =
    record {
      news = h.news;
      each = λ o. subst (λ z. AskedAt IsQuiet z (after o) (h.news o)) (same o) (h.each o);
      from = h.from;
    }

pub turns_from : (a b after : Links) (more : List Said) → ((o : ℕ) → b o ≡ a o) → AsksInTurn b after more
    → AsksInTurn a after more
turns_from a _ _ _ same (asks_none b after more g e) = asks_none a after more (λ o. g o ∙ same o) e
turns_from a _ _ _ same (asks_first b between after first rest more h t e) =
    asks_first a between after first rest more (asks_from a b between first same h) t e

pub turns_join : (links between after : Links) (first rest : List Said) → AsksInTurn links between first
    → AsksInTurn between after rest → AsksInTurn links after (first ++ rest)
turns_join _ _ after _ rest (asks_none a b more g e) t = subst (λ ms. AsksInTurn a after (ms ++ rest)) (sym e)
    (turns_from a b after rest g t)
turns_join _ _ after _ rest (asks_first a m b first later more h u e) t =
    asks_first a m after first (later ++ rest) (more ++ rest) h (turns_join m b after later rest u t)
    (ap (λ v. v ++ rest) e ∙ append_assoc first later rest)

-- and what is sent, one list after the other
pub turns_further : (links between after : Links) (first rest : List Message)
    → AsksInTurn links between (all_said first) → AsksInTurn between after (all_said rest)
    → AsksInTurn links after (all_said (first ++ rest))
turns_further links between after first rest h t = subst (AsksInTurn links after) (sym (said_join first rest))
    (turns_join links between after (all_said first) (all_said rest) h t)

-- one link is asked
module _ (links after : Links) (n : ℕ) (l : Link) (op : Operation) (at : links n ≡ Some l)
    (waits : WaitsBehind l.pending l.waiting) (quiet : IsQuiet op)
    (here : after n ≡ Some (ask l op).link) (there : (k : ℕ) → k ≢ n → after k ≡ links k) where
  pub link_asked : AsksAll (λ o op. IsQuiet op) links after (all_said (ask l op).sent)
  link_asked =
      let ms = all_said (ask l op).sent in
      record {
        news = λ k. if n == k then ms else [];
        each = λ k. if_told (AskedAt IsQuiet (links k) (after k)) (n == k) ms []
            (λ t. subst (λ j. AskedAt IsQuiet (links j) (after j) ms) (eqb-true n k t)
            (subst (λ z. AskedAt IsQuiet z (after n) ms) (sym at)
            (subst (λ z. AskedAt IsQuiet (Some l) z ms) (sym here)
            (is_asked IsQuiet l l.saved op quiet (inl refl) waits))))
            (λ t. unasked_as IsQuiet (links k) (after k) (there k (λ q. eqb-false n k t (sym q))));
        from = λ m g. (n, subst (λ b. Among (if b then ms else []) m) (sym (eq-eqb n n refl)) g);
      }

asked_waits_at : (l : Link) (op : Operation) (p : Option Operation) → l.pending ≡ p
    → WaitsBehind (ask_at l op p).link.pending (ask_at l op p).link.waiting
asked_waits_at l op None e = tt
asked_waits_at l op (Some before) e = subst (λ q. WaitsBehind q (l.waiting ++ op ∷ [])) (sym e) tt

asked_waits : (l : Link) (op : Operation) → WaitsBehind (ask l op).link.pending (ask l op).link.waiting
asked_waits l op = asked_waits_at l op l.pending refl

-- several operations are asked of one link
pub each_turns : (n : ℕ) (ops : List Operation) (l : Link) (links after : Links) → AllByRecursion IsQuiet ops
    → links n ≡ Some l → WaitsBehind l.pending l.waiting → after n ≡ Some (ask_each l ops).link
    → ((k : ℕ) → k ≢ n → after k ≡ links k)
    → AsksInTurn links after (all_said (ask_each l ops).sent)
each_turns n [] l links after q at w here there =
    asks_none links after []
    (λ k. elim (eqb_tells k n) [
      | inl s ↦ ap after s.1 ∙ (here ∙ (sym at ∙ ap links (sym s.1)))
      | inr s ↦
          there k s.1
    ]) refl
each_turns n (op ∷ ops) l links after q at w here there =
    let first = ask l op in
    let between : Links = λ k. if k == n then Some first.link else links k in
    let now : between n ≡ Some first.link = ap (λ b. if b then Some first.link else links n) (eq-eqb n n refl) in
    let others : (k : ℕ) → k ≢ n → between k ≡ links k = λ k ne. ap (λ b. if b then Some first.link else links k)
    (ne_eqb k n ne) in
    asks_first links between after (all_said first.sent) (all_said (ask_each first.link ops).sent) _
    (link_asked links between n l op at w q.0 now others)
    (each_turns n ops first.link between after q.1 now (asked_waits l op) here
    (λ k ne. there k ne ∙ sym (others k ne))) (said_join first.sent (ask_each first.link ops).sent)

-- an object takes the place of the one that bears its number
pub placed_here : (os : List Object) (n : ℕ) (x a : Object) → find (is_object n) os ≡ Some x → a.number ≡ n
    → links_of (put (is_object n) a os) n ≡ a.link
placed_here os n x a f e = ap link_at (find-put_same n a x os f e)

pub placed_there : (os : List Object) (n k : ℕ) (a : Object) → a.number ≡ n → k ≢ n
    → links_of (put (is_object n) a os) k ≡ links_of os k
placed_there os n k a e ne = ap link_at (find-put_other n k a os e (λ q. ne (sym q)))

-- what a request of an object leaves of a record
pub record KeepsRest (r v : Record) : Type 0 where
  pub frames : v.frames ≡ r.frames
  pub servers : v.servers ≡ r.servers
  pub last_object : v.last_object ≡ r.last_object
  pub last_act : v.last_act ≡ r.last_act
  pub session : v.session ≡ r.session
  pub numbers : v.numbers ≡ r.numbers

pub rest_same : (r : Record) → KeepsRest r r
rest_same r = record {
  frames = refl;
  servers = refl;
  last_object = refl;
  last_act = refl;
  session = refl;
  numbers = refl;
}

rest_further : (r v u : Record) → KeepsRest r v → KeepsRest v u → KeepsRest r u
rest_further r v u h k = record {
  frames = k.frames ∙ h.frames;
  servers = k.servers ∙ h.servers;
  last_object = k.last_object ∙ h.last_object;
  last_act = k.last_act ∙ h.last_act;
  session = k.session ∙ h.session;
  numbers = k.numbers ∙ h.numbers;
}

requested_keeps : (r : Record) (op : Operation) (x : Option Object) → KeepsRest r (requested r op x).rec
requested_keeps r op None = rest_same r
requested_keeps r op (Some o) = record {
  frames = refl;
  servers = refl;
  last_object = refl;
  last_act = refl;
  session = refl;
  numbers = refl;
}

pub request_keeps : (r : Record) (n : ℕ) (op : Operation) → KeepsRest r (request r n op).rec
request_keeps r n op = requested_keeps r op (find (is_object n) r.objects)

pub grants_keep : (claims : List Claim) (r : Record) → KeepsRest r (grant_each r claims).rec
grants_keep [] r = rest_same r
grants_keep (c ∷ cs) r = (let v = (request r c.object (UiActivate c.g)).rec in
    rest_further r v (grant_each v cs).rec (request_keeps r c.object (UiActivate c.g)) (grants_keep cs v))

-- a request asks one object, or none
module _ (r : Record) (n : ℕ) (op : Operation) where
  other_link : (x : Option Object) (k : ℕ) → find (is_object n) r.objects ≡ x → k ≢ n
      → links_of (requested r op x).rec.objects k ≡ links_of r.objects k
  other_link None k f ne = refl
  other_link (Some o) k f ne = placed_there r.objects o.number k (record o { link = asked_link op o.link }) refl
      (λ q. ne (q ∙ found_number r.objects n o f))

  pub request_others : (k : ℕ) → k ≢ n → links_of (request r n op).rec.objects k ≡ links_of r.objects k
  request_others k ne = other_link (find (is_object n) r.objects) k refl ne

  module _ (waits : Waits (links_of r.objects)) (quiet : IsQuiet op) where
    linked_asks : (o : Object) (x : Option Link) → find (is_object o.number) r.objects ≡ Some o → o.link ≡ x
        → AsksAll (λ o op. IsQuiet op) (links_of r.objects)
        (links_of (put (is_object o.number) (record o { link = asked_link op x }) r.objects))
        (all_said (asked_sent op x))
    linked_asks o None f e =
        let a : Object = record o { link = None } in
        let at : links_of r.objects o.number ≡ None = ap link_at f ∙ e in
        none_asked (links_of r.objects) (links_of (put (is_object o.number) a r.objects))
        (λ k. elim (eqb_tells k o.number) [
          | inl s ↦ ap (links_of (put (is_object o.number) a r.objects)) s.1
              ∙ (placed_here r.objects o.number o a f refl ∙ (sym at ∙ ap (links_of r.objects) (sym s.1)))
          | inr s ↦ placed_there r.objects o.number k a refl s.1
        ])
    linked_asks o (Some l) f e =
        let a : Object = record o { link = Some (ask l op).link } in
        let at : links_of r.objects o.number ≡ Some l = ap link_at f ∙ e in
        link_asked (links_of r.objects) (links_of (put (is_object o.number) a r.objects)) o.number l op at
        (waits o.number l at) quiet (placed_here r.objects o.number o a f refl)
        (λ k ne. placed_there r.objects o.number k a refl ne)

    found_asks : (x : Option Object) → find (is_object n) r.objects ≡ x
        → AsksAll (λ o op. IsQuiet op) (links_of r.objects) (links_of (requested r op x).rec.objects)
        (all_said (requested r op x).sent)
    found_asks None f = none_asked (links_of r.objects) (links_of r.objects) (λ k. refl)
    found_asks (Some o) f = linked_asks o o.link (found_numbered n r.objects o f) refl

    pub request_asks : AsksAll (λ o op. IsQuiet op) (links_of r.objects) (links_of (request r n op).rec.objects)
        (all_said (request r n op).sent)
    request_asks = found_asks (find (is_object n) r.objects) refl

-- whoever waited is told of the grant
ui_quiet : (g : ℕ) → IsQuiet (UiActivate g)
ui_quiet g = λ k storage e. cc

pub grants_asked : (claims : List Claim) (r : Record) → Waits (links_of r.objects)
    → AsksInTurn (links_of r.objects) (links_of (grant_each r claims).rec.objects)
    (all_said (grant_each r claims).sent)
grants_asked [] r w = asks_none (links_of r.objects) (links_of r.objects) [] (λ o. refl) refl
grants_asked (c ∷ cs) r w =
    let op = UiActivate c.g in
    let v = request r c.object op in
    let asked = request_asks r c.object op w (ui_quiet c.g) in
    asks_first (links_of r.objects) (links_of v.rec.objects) (links_of (grant_each v.rec cs).rec.objects)
    (all_said v.sent) (all_said (grant_each v.rec cs).sent) _ asked
    (grants_asked cs v.rec (waits_asked (λ o p. IsQuiet p) (links_of r.objects) (links_of v.rec.objects)
    (all_said v.sent) asked w)) (said_join v.sent (grant_each v.rec cs).sent)

-- what is told of a frame's grant moves it, and asks whoever waited
module _ (r : Record) (f : ℕ) (waits : Waits (links_of r.objects)) where
  -- a change of the links, where all else of the record stays but for its frames
  pub record IsRegranted (v : Regranted) : Type 0 where
    pub asked : AsksInTurn (links_of r.objects) (links_of v.rec.objects) (all_said v.sent)
    pub servers : v.rec.servers ≡ r.servers
    pub last_act : v.rec.last_act ≡ r.last_act

  nothing_regranted : IsRegranted (record { rec = r; sent = []; no_tools = false })
  nothing_regranted = record {
    asked = asks_none (links_of r.objects) (links_of r.objects) [] (λ o. refl) refl;
    servers = refl;
    last_act = refl;
  }

  regranted_by_event : (frame : Frame) (e : Option Event) → IsRegranted (regranted_by r f frame e)
  regranted_by_event frame None = nothing_regranted
  regranted_by_event frame (Some e) =
      let v = with_frame r f (moved frame e) in
      let claims = passed_to frame.ui.state (after frame.ui e).state in
      let rest = grants_keep claims v in
      record { asked = grants_asked claims v waits; servers = rest.servers; last_act = rest.last_act }

  regranted_at : (told : Tells) (frame : Option Frame) → IsRegranted (regranted_in r f told frame)
  regranted_at told None = nothing_regranted
  regranted_at told (Some frame) = regranted_by_event frame (event_of frame.ui.state told)

  pub regrants : (told : Option Tells) → IsRegranted (regranted r f told)
  regrants None = nothing_regranted
  regrants (Some told) = regranted_at told (nth r.frames f)
