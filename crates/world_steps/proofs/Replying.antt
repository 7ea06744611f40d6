-- A reply that is taken: it settles the pending operation, and the next that waits is sent; or the link ends. Of an
-- honest server it was sent, and its activation did what was answered; a forged one is the same list of shapes.
use Rattle.std.proofs.Common.{◌≡◌, ◌≢◌, ◌&&◌, ◌==◌, ℕ, ◌+◌, ◌≤◌, Bool, true, false, List, [], ◌∷◌, ◌++◌, length, Option}
use Rattle.std.proofs.Common.{Some, None, is_some, Result, Ok, Err, refl, sym, ap, ◌∙◌, inl, inr, arith, subst}
use Rattle.std.proofs.Common.{if◌then◌else◌}
use Rattle.std.proofs.lemmas.Bool.{eqb-true}
use Rattle.std.proofs.lemmas.List.{append_assoc}
use Rattle.std.proofs.lemmas.Bool.Decides.{eqb_tells}
use Rattle.message_values.specs.Found.{find, put}
use Rattle.message_values.specs.declared.message.Said.{Said}
use Rattle.message_values.specs.declared.message.Said.TheVariants.{Reply}
use Rattle.message_values.specs.declared.operation.Operation.{Operation}
use Rattle.message_values.specs.declared.operation.Operation.TheVariants.{Close}
use Rattle.message_values.specs.declared.answer.Answer.{Answer}
use Rattle.message_values.specs.declared.answer.Answer.TheVariants.{Content}
use Rattle.object_state.specs.declared.operations.CloseOption.{CloseOption}
use Rattle.object_state.specs.declared.operations.CloseOption.TheVariants.{SaveIfDirty}
use Rattle.tree_streams.specs.declared.stored.Stored.{Stored}
use Rattle.server_model.specs.Server.{Activation}
use Rattle.container_model.specs.declared.record.Link.{Link}
use Rattle.container_model.specs.declared.record.Object.{Object}
use Rattle.container_model.specs.declared.fault.ContainerFault.{ContainerFault}
use Rattle.container_model.specs.declared.fault.ContainerFault.TheVariants.{Stale, WrongLink, BadAnswer}
use Rattle.container_model.specs.Record.{Record, Took, is_linked, is_link, is_alive}
use Rattle.container_model.specs.Saves.{settle_actions, kept_in}
use Rattle.container_model.specs.HandOffs.{is_answered}
use Rattle.container_model.specs.Messages.{Replied, is_fit, replied, next_at, next_link, next_sent, replied_object}
use Rattle.container_model.specs.Messages.{replied_record, replied_grant, replied_saving, reply_made, reply_taken}
use Rattle.container_model.specs.Messages.{reply_pending, reply_link, reply_found}
use Rattle.container_model.proofs.SaidOn.{said_on}
use Rattle.container_model.specs.declared.answer.Done.{Done}
use Rattle.container_queues.specs.Steady.{IsOpenWhileClosing, WaitsBehind, Steady}
use Rattle.container_steady.proofs.SteadyCloses.{closes-are_open}
use Rattle.world_model.specs.Safe.{Among, is_hostile, links_of}
use Rattle.world_model.specs.declared.logs.Sent.{Sent}
use Rattle.world_model.specs.declared.logs.ServerDone.{ServerDone}
use Rattle.world_facts.specs.Words.{Links, Acts, Lives, IsHonest, IsClosed, all_said, sayings_of}
use Rattle.world_facts.specs.Facts.{InStep, not_begun, level, behind, ahead, Did, HasSaved, Facts}
use Rattle.world_facts.specs.Shapes.{MayGo, is_closed, of_hostile, Settles, SendsNext}
use Rattle.world_facts.specs.Views.{IsSeen, Views}
use Rattle.world_facts.proofs.Honest.{honest_or_hostile}
use Rattle.world_facts.proofs.Lookups.{find_passes, map_put}
use Rattle.world_steps.specs.Steps.{IsPlain, IsAnswered, settled, goes_on, ended, IsReplied}
use Rattle.world_steps.proofs.Asking.{Rising, ordered_rise}
use Rattle.world_steps.proofs.Handing.{IsOrderly, handed_if, regranted_numbers, rises_same}
use Rattle.world_steps.proofs.Objects.{Waits, steady_waits, link_was, put_here, put_there, said_join, sent_of, no_start}
use Rattle.world_steps.proofs.Objects.{no_start_settled, no_end, no_end_settled}
use Rattle.world_steps.proofs.Taking.{brought}
use Rattle.world_steps.proofs.Turns.{regrants, turns_further, turns_wait}
use Rattle.world_steps.proofs.Verbing.{ok_took}
use Rattle.world_steps.proofs.Answers.{IsSettled, IsLevel, Outcome, settles, gone, reply_outcome}

-- the answer to the pending call of an object
pub record IsAnswer (inc act n : ℕ) (answer : Answer) (x : Object) (p : Replied) : Type 0 where
  pub l : Link
  pub op : Operation
  pub is : x.link ≡ Some l
  pub pending : l.pending ≡ Some op
  pub number : n ≡ l.last
  pub told : replied l op answer ≡ Ok p

answer_pending : (inc act n : ℕ) (l : Link) (o : Option Operation) (answer : Answer) (x : Object) (p : Replied)
    → x.link ≡ Some l → l.pending ≡ o → reply_pending l n answer o ≡ Ok p → IsAnswer inc act n answer x p
answer_pending inc act n l None answer x p xl q e = cc
answer_pending inc act n l (Some op) answer x p xl q e = at (n == l.last) (is_fit answer) refl e
  where
    at : (b c : Bool) → (n == l.last) ≡ b → ◌≡◌ {A = Result Replied ContainerFault}
        (if b then (if c then replied l op answer else Err BadAnswer) else Err Stale) (Ok p)
        → IsAnswer inc act n answer x p
    at true true t g = record { l = l; op = op; is = xl; pending = q; number = eqb-true n l.last t; told = g }
    at true false t g = cc
    at false c t g = cc

answer_link : (inc act n : ℕ) (link : Option Link) (answer : Answer) (x : Object) (p : Replied) → x.link ≡ link
    → reply_link n answer link ≡ Ok p → IsAnswer inc act n answer x p
answer_link inc act n None answer x p xl e = cc
answer_link inc act n (Some l) answer x p xl e = answer_pending inc act n l l.pending answer x p xl refl e

pub linked_is : (inc act : ℕ) (x : Option Link) (l : Link) → x ≡ Some l → is_link inc act x ≡ true
    → (l.inc ≡ inc) × (l.act ≡ act)
linked_is inc act None l e h = cc
linked_is inc act (Some y) l e h = (let is : y ≡ l = cc in at (y.inc == inc) (y.act == act) refl refl h is)
  where
    at : (a b : Bool) → (y.inc == inc) ≡ a → (y.act == act) ≡ b → (a && b) ≡ true → y ≡ l → (l.inc ≡ inc)
        × (l.act ≡ act)
    at true true p q h is = (
      ap (λ (v : Link). v.inc) (sym is) ∙ eqb-true y.inc inc p,
      ap (λ (v : Link). v.act)
          (sym is) ∙ eqb-true y.act act q,
    )
    at true false p q h is = cc
    at false b p q h is = cc

module _ {hostile : List ℕ} (r : Record) (acts : Acts) (lives : Lives) (sent : List Said) (owners : List ℕ)
    (last : ℕ) (counted : List Done) (served : List ServerDone) (inc act n : ℕ) (answer : Answer)
    (s : Steady r) (f : Facts hostile (links_of r.objects) acts lives sent owners last counted served)
    (told : IsHonest hostile inc → Among sent (Reply inc act n answer)) where
  module _ (x : Object) (p : Replied) (h : IsAnswer inc act n answer x p)
      (found : find (is_linked inc act) r.objects ≡ Some x) where
    abbrev l : Link
    l = h.l

    abbrev links : Links
    links = links_of r.objects

    at_x : links_of r.objects x.number ≡ Some h.l
    at_x = link_was r.objects (is_linked inc act) x x s.order found refl ∙ h.is

    named : (h.l.inc ≡ inc) × (h.l.act ≡ act)
    named = linked_is inc act x.link h.l h.is (find_passes (is_linked inc act) r.objects x found)

    honest_link : IsHonest hostile inc → IsHonest hostile h.l.inc
    honest_link honest = subst (IsHonest hostile) (sym named.0) honest

    -- the activation is ahead by this very answer
    ahead_by : (b : Activation) → n ≤ b.last → (n ≡ b.last → answer ≡ b.reply) → (y : Option Activation)
        → y ≡ Some b → InStep h.l y → (b.last ≡ h.l.last) × Did h.l.states h.l.s h.op b answer
    ahead_by b le kept _ e (not_begun o one v z g) = absurd (let y : None ≡ Some b = e in cc)
    ahead_by b le kept _ e (level a g el v) = absurd (let y : None ≡ Some h.op = sym g ∙ h.pending in cc)
    ahead_by b le kept _ e (behind a o g el v) = (let z : Some a ≡ Some b = e in let ab : a ≡ b = cc in
        let lb : b.last + 1 ≡ h.l.last = ap (λ (y : Activation). y.last + 1) (sym ab) ∙ el in
        let nl : n ≡ h.l.last = h.number in
        absurd (omega arith))
    ahead_by b le kept _ e (ahead a o g el d) = (let z : Some a ≡ Some b = e in let ab : a ≡ b = cc in
        let y : Some o ≡ Some h.op = sym g ∙ h.pending in
        let oo : o ≡ h.op = cc in
        let bl : b.last ≡ h.l.last = ap (λ (y : Activation). y.last) (sym ab) ∙ el in
        let ar : a.reply ≡ answer = ap (λ (y : Activation). y.reply) ab ∙ sym (kept (h.number ∙ sym bl)) in (
          bl,
          subst (λ y. Did h.l.states h.l.s h.op y answer) ab
              (subst (λ q. Did h.l.states h.l.s q a answer) oo (subst (Did h.l.states h.l.s o a) ar d)),
        ))

    record IsAhead (a : Activation) : Type 0 where
      at : acts h.l.inc h.l.act ≡ Some a
      level_with : a.last ≡ h.l.last
      did : Did h.l.states h.l.s h.op a answer
      reply : a.reply ≡ answer

    is_ahead : IsHonest hostile inc → (a : Activation) × IsAhead a
    is_ahead honest =
        let k = f.replies.replies_kept inc act n answer (told honest) in
        let at : acts h.l.inc h.l.act ≡ Some k.0 = ap (λ i. acts i h.l.act) named.0 ∙ (ap (acts inc) named.1 ∙ k.1) in
        let d = ahead_by k.0 k.2 k.3 (acts h.l.inc h.l.act) at (f.in_step x.number h.l at_x (honest_link honest)) in
        (k.0, record { at = at; level_with = d.0; did = d.1; reply = sym (k.3 (h.number ∙ sym d.0)) })

    abbrev placed : Option Link → Object
    placed link = record x { work = kept_in x.work p.taken; link = link }

    abbrev objects : Option Link → List Object
    objects link = put (is_linked inc act) (placed link) r.objects

    here : (link : Option Link) → links_of (objects link) x.number ≡ link
    here link = put_here r.objects (is_linked inc act) x (placed link) s.order found refl

    there : (link : Option Link) (k : ℕ) → k ≢ x.number → links_of (objects link) k ≡ links_of r.objects k
    there link k ne = put_there r.objects (is_linked inc act) x (placed link) s.order found refl k ne

    -- what an activation did that did what was answered
    abbrev Levels : Link → Type 0
    Levels after = (a : Activation) → Did h.l.states h.l.s h.op a answer → IsLevel h.l a after

    -- the link after the answer of an honest server is level with its activation
    level_now : (after : Link) → IsSettled h.l after → Levels after → (a : Activation) → IsAhead a
        → acts after.inc after.act ≡ Some a → InStep after (acts after.inc after.act)
    level_now after e levels a w at =
        (let v = levels a w.did in subst (InStep after) (sym at)
        (level a e.pending (w.level_with ∙ sym e.last) v.even))

    saved_now : (after : Link) → Levels after → (a : Activation) → IsAhead a → IsHonest hostile inc
        → acts after.inc after.act ≡ Some a → (c : Stored) → after.saved ≡ Some c
        → HasSaved c (acts after.inc after.act)
    saved_now after levels a w honest at c g = (let v = levels a w.did in subst (HasSaved c) (sym at) (elim v.saved [
      | inl same ↦ subst (HasSaved c) w.at (f.saved_same x.number h.l c at_x (honest_link honest) (sym same ∙ g))
      | inr y ↦ (let z : Some y.0 ≡ Some c = sym y.1 ∙ g in let k : y.0 ≡ c = cc in y.2 ∙ ap Some k)
    ]))

    settling : (after : Link) → IsSettled h.l after → Levels after
        → Settles hostile (links_of r.objects) (links_of (objects (Some after))) acts x.number
    settling after e levels =
        let mine : IsHonest hostile after.inc → IsHonest hostile inc =
        (λ honest. subst (IsHonest hostile) (e.inc ∙ named.0) honest) in
        let at : (a : Activation) → IsAhead a → acts after.inc after.act ≡ Some a =
        (λ a w. ap (λ i. acts i after.act) e.inc ∙ (ap (acts h.l.inc) e.act ∙ w.at)) in
        record {
          before = h.l;
          link = after;
          was = at_x;
          is = here (Some after);
          others = there (Some after);
          session = e.session;
          inc = e.inc;
          act = e.act;
          last = e.last;
          pending = e.pending;
          waiting = e.waiting;
          in_step = λ honest. (let w = is_ahead (mine honest) in level_now after e levels w.0 w.1 (at w.0 w.1));
          saved = λ honest c g. (let w = is_ahead (mine honest) in
              saved_now after levels w.0 w.1 (mine honest) (at w.0 w.1) c g);
        }

    -- the next one that waits is sent
    sending : (after : Link) (op : Operation) (rest : List Operation) → after.pending ≡ None → after.waiting ≡ op ∷ rest
        → SendsNext (links_of (objects (Some after))) (links_of (objects (Some (next_at after (op ∷ rest)).link)))
        x.number (all_said (next_at after (op ∷ rest)).sent)
    sending after op rest free w =
        let new : Link = (next_at after (op ∷ rest)).link in
        record {
          before = after;
          link = new;
          op = op;
          rest = rest;
          was = here (Some after);
          is = here (Some new);
          others = λ k ne. there (Some new) k ne ∙ sym (there (Some after) k ne);
          called = record {
            session = refl;
            inc = refl;
            act = refl;
            free = free;
            last = refl;
            pending = refl;
            states = refl;
            s = refl;
            saved = inl refl;
          };
          waited = w;
          waiting = refl;
          sends = refl;
        }

    abbrev Shown : Option Link → List Said → Type 0
    Shown link more = IsAnswered hostile (links_of r.objects) (links_of (objects link)) acts lives more

    by_waiting : (after : Link) → IsSettled h.l after → Levels after → (ws : List Operation) → after.waiting ≡ ws
        → Shown (Some (next_at after ws).link) (all_said (next_at after ws).sent)
    by_waiting after e levels [] q = settled x.number (settling after e levels) refl
    by_waiting after e levels (op ∷ rest) q = goes_on x.number (links_of (objects (Some after)))
        (settling after e levels) (sending after op rest e.pending q)

    -- a link that goes is of an activation that is closed, or of a hostile server
    may_go : ((a : Activation) → Did h.l.states h.l.s h.op a answer → a.content ≡ None) → MayGo hostile acts lives h.l
    may_go closes = elim (honest_or_hostile hostile inc) [
      | inl honest ↦ (let w = is_ahead honest in let a = w.1 in
          is_closed (subst IsClosed (sym a.at) (closes w.0 a.did)))
      | inr e ↦ of_hostile (ap (is_hostile hostile) named.0 ∙ e)
    ]

    ending : ((a : Activation) → Did h.l.states h.l.s h.op a answer → a.content ≡ None) → Shown None []
    ending closes = ended (record {
      each = λ k. elim (eqb_tells k x.number) [
        | inl q ↦ inr (
          ap (links_of (objects None)) q.1 ∙ here None,
          (λ m g. let z : Some h.l ≡ Some m = sym at_x ∙ (ap (links_of r.objects) (sym q.1) ∙ g) in
              let lm : h.l ≡ m = cc in
              subst (MayGo hostile acts lives) lm (may_go closes)),
        )
        | inr q ↦ inl (there None k q.1)
      ];
    }) refl

    shown : Outcome h.l h.op answer p → Shown (next_link p.link) (all_said (next_sent p.link))
    shown (settles after e t levels) = subst (λ z. Shown (next_link z) (all_said (next_sent z))) (sym e)
        (by_waiting after t levels after.waiting refl)
    shown (gone e closes) = subst (λ z. Shown (next_link z) (all_said (next_sent z))) (sym e) (ending closes)

    is_shown : Shown (next_link p.link) (all_said (next_sent p.link))
    is_shown = shown (reply_outcome h.l h.op answer p h.told)

    -- and then no operation waits where none is pending
    next_waits : (after : Link) (ws : List Operation) → after.pending ≡ None → after.waiting ≡ ws
        → WaitsBehind (next_at after ws).link.pending (next_at after ws).link.waiting
    next_waits after [] free w = subst (λ q. WaitsBehind q after.waiting) (sym free) w
    next_waits after (op ∷ rest) free w = tt

    link_waits : Outcome h.l h.op answer p → (m : Link) → next_link p.link ≡ Some m → WaitsBehind m.pending m.waiting
    link_waits (settles after e t levels) m g =
        (let z : Some (next_at after after.waiting).link ≡ Some m = sym (ap next_link e) ∙ g in
        let is : (next_at after after.waiting).link ≡ m = cc in
        subst (λ (y : Link). WaitsBehind y.pending y.waiting) is (next_waits after after.waiting t.pending refl))
    link_waits (gone e c) m g = (let z : None ≡ Some m = sym (ap next_link e) ∙ g in cc)

    waits_on : Waits (links_of (objects (next_link p.link)))
    waits_on k m g = elim (eqb_tells k x.number) [
      | inl q ↦ link_waits (reply_outcome h.l h.op answer p h.told) m
          (sym (here (next_link p.link)) ∙ (ap (links_of (objects (next_link p.link))) (sym q.1) ∙ g))
      | inr q ↦ steady_waits r s k m (sym (there (next_link p.link) k q.1) ∙ g)
    ]

    -- what an honest server answered to a close was sent at the link's states and grant
    pub close_seen : IsHonest hostile inc → (log : List Sent) (option : CloseOption)
        → Views hostile (links_of r.objects) acts log → h.l.pending ≡ Some (Close option)
        → IsSeen log inc act n answer h.l.states h.l.s
    close_seen honest log option v e =
        let w = is_ahead honest in
        let a = w.0 in
        let seen : IsSeen log h.l.inc h.l.act a.last a.reply h.l.states h.l.s =
        v.closes_sent x.number h.l a option at_x (honest_link honest) w.1.at e w.1.level_with in
        subst (λ i. IsSeen log i act n answer h.l.states h.l.s) named.0
        (subst (λ i. IsSeen log h.l.inc i n answer h.l.states h.l.s) named.1
        (subst (λ i. IsSeen log h.l.inc h.l.act i answer h.l.states h.l.s) (w.1.level_with ∙ sym h.number)
        (subst (λ i. IsSeen log h.l.inc h.l.act a.last i h.l.states h.l.s) w.1.reply seen)))

  abbrev pub Result_of : Took → Type 0
  Result_of t = IsReplied hostile (links_of r.objects) (links_of t.rec.objects) acts lives
      (sayings_of t.answer.actions) × IsPlain r t

  -- the next one that waits is sent, then whoever waits for the frame may be told of its grant, and then storages may
  -- be asked for
  made_shows : (x : Object) (p : Replied) → IsAnswer inc act n answer x p → find (is_linked inc act) r.objects
      ≡ Some x → Result_of (reply_made r inc act x p)
  made_shows x p h found =
      let u = replied_record r inc act x p in
      let v = replied_grant r inc act x p in
      let w = replied_saving r inc act x p in
      let waits = waits_on x p h found in
      let g = regrants u x.frame waits p.grant in
      let rises : Rising u.objects = rises_same r.objects u.objects
      (map_put (λ (o : Object). o.number) (is_linked inc act) (replied_object x p) x r.objects found refl)
      (ordered_rise r.objects s.order) in
      let orderly : IsOrderly v.rec = record {
        waits = turns_wait (links_of u.objects) (links_of v.rec.objects) (all_said v.sent) g.asked waits;
        rises = rises_same u.objects v.rec.objects (regranted_numbers u x.frame p.grant) rises;
      } in
      let k = handed_if (is_answered x.link p.link) v.rec x.frame orderly in
      let ms = next_sent p.link ++ v.sent ++ w.sent in (
        record {
          between = links_of u.objects;
          first = all_said (next_sent p.link);
          rest = all_said (v.sent ++ w.sent);
          answered = is_shown x p h found;
          asked = turns_further (links_of u.objects) (links_of v.rec.objects) (links_of w.rec.objects) v.sent w.sent
              g.asked k.asked;
          joined = sent_of ms 1 w.rec.objects w.rec.frames
              ∙ (ap all_said (append_assoc (next_sent p.link) v.sent w.sent)
              ∙ said_join (next_sent p.link) (v.sent ++ w.sent));
        },
        record {
          last_act = k.last_act ∙ g.last_act;
          servers = ap length (k.servers ∙ g.servers);
          starts = λ session count. no_start session count ms (settle_actions w.rec)
              (no_start_settled session count 1 w.rec.objects w.rec.frames);
          ends = λ is. no_end ms (settle_actions w.rec) is (no_end_settled 1 w.rec.objects w.rec.frames is);
        },
      )

  taken_shows : (x : Object) (q : Result Replied ContainerFault) (t : Took)
      → find (is_linked inc act) r.objects ≡ Some x → reply_link n answer x.link ≡ q
      → reply_taken r inc act x q ≡ Ok t → Result_of t
  taken_shows x (Err fault) t found g e = cc
  taken_shows x (Ok p) t found g e = subst Result_of (ok_took (reply_made r inc act x p) t e)
      (made_shows x p (answer_link inc act n x.link answer x p refl g) found)

  found_shows : (x : Option Object) (t : Took) → find (is_linked inc act) r.objects ≡ x
      → reply_found r inc act n answer x ≡ Ok t → Result_of t
  found_shows None t found e = cc
  found_shows (Some x) t found e = taken_shows x (reply_link n answer x.link) t found refl e

  pub reply_answers : (t : Took) → said_on r inc (Reply inc act n answer) ≡ Ok t
      → IsReplied hostile (links_of r.objects) (links_of t.rec.objects) acts lives (sayings_of t.answer.actions)
      × IsPlain r t
  reply_answers t e = at (inc == inc) (is_alive r inc) e
    where
      at : (a b : Bool) → ◌≡◌ {A = Result Took ContainerFault}
          (if a then (if b then reply_found r inc act n answer (find (is_linked inc act) r.objects) else Err Stale)
          else Err WrongLink) (Ok t) → Result_of t
      at true true g = found_shows (find (is_linked inc act) r.objects) t refl g
      at true false g = cc
      at false b g = cc

module _ {hostile : List ℕ} (r : Record) (acts : Acts) (lives : Lives) (sent : List Said) (owners : List ℕ)
    (last : ℕ) (counted : List Done) (served : List ServerDone) (inc act n : ℕ) (answer : Answer)
    (s : Steady r) (f : Facts hostile (links_of r.objects) acts lives sent owners last counted served)
    (honest : IsHonest hostile inc) (told : Among sent (Reply inc act n answer)) where
  -- a content that is taken with a reply of an honest server is the answer to a close
  pub record IsClosing (log : List Sent) : Type 0 where
    pub object : Object
    pub link : Link
    pub content : Stored
    pub found : find (is_linked inc act) r.objects ≡ Some object
    pub linked : object.link ≡ Some link
    pub inc_is : link.inc ≡ inc
    pub act_is : link.act ≡ act
    pub pending : link.pending ≡ Some (Close SaveIfDirty)
    pub number : n ≡ link.last
    pub brings : answer ≡ Content content
    pub seen : IsSeen log inc act n answer link.states link.s
    pub held : IsOpenWhileClosing link

  closing_of : (log : List Sent) (x : Object) (p : Replied) (h : IsAnswer inc act n answer x p)
      → find (is_linked inc act) r.objects ≡ Some x → is_some p.taken ≡ true
      → Views hostile (links_of r.objects) acts log → IsClosing log
  closing_of log x p h found taken v =
      let b = brought h.l h.op answer p h.told taken in
      let closes : h.l.pending ≡ Some (Close SaveIfDirty) = h.pending ∙ ap Some b.1 in
      let name = linked_is inc act x.link h.l h.is (find_passes (is_linked inc act) r.objects x found) in
      record {
        object = x;
        link = h.l;
        content = b.0;
        found = found;
        linked = h.is;
        inc_is = name.0;
        act_is = name.1;
        pending = closes;
        number = h.number;
        brings = b.2;
        seen = close_seen r acts lives sent owners last counted served inc act n answer s f (λ mine. told) x p h
            found honest log SaveIfDirty v closes;
        held = closes-are_open r (is_linked inc act) x h.l SaveIfDirty s found h.is closes;
      }

  closing_taken : (log : List Sent) (x : Object) (q : Result Replied ContainerFault) (t : Took)
      → find (is_linked inc act) r.objects ≡ Some x → reply_link n answer x.link ≡ q
      → reply_taken r inc act x q ≡ Ok t → t.answer.taken ≡ true → Views hostile (links_of r.objects) acts log
      → IsClosing log
  closing_taken log x (Err fault) t found g e taken v = cc
  closing_taken log x (Ok p) t found g e taken v =
      let is : reply_made r inc act x p ≡ t = ok_took (reply_made r inc act x p) t e in
      closing_of log x p (answer_link inc act n x.link answer x p refl g) found
      (ap (λ (z : Took). z.answer.taken) is ∙ taken) v

  closing_found : (log : List Sent) (x : Option Object) (t : Took) → find (is_linked inc act) r.objects ≡ x
      → reply_found r inc act n answer x ≡ Ok t → t.answer.taken ≡ true
      → Views hostile (links_of r.objects) acts log → IsClosing log
  closing_found log None t found e taken v = cc
  closing_found log (Some x) t found e taken v = closing_taken log x (reply_link n answer x.link) t found refl e taken v

  pub reply_closes : (log : List Sent) (t : Took) → said_on r inc (Reply inc act n answer) ≡ Ok t
      → t.answer.taken ≡ true → Views hostile (links_of r.objects) acts log → IsClosing log
  reply_closes log t e taken v = at (inc == inc) (is_alive r inc) e
    where
      at : (a b : Bool) → ◌≡◌ {A = Result Took ContainerFault}
          (if a then (if b then reply_found r inc act n answer (find (is_linked inc act) r.objects) else Err Stale)
          else Err WrongLink) (Ok t) → IsClosing log
      at true true g = closing_found log (find (is_linked inc act) r.objects) t refl g taken v
      at true false g = cc
      at false b g = cc
