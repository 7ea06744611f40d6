-- A server takes a call: what senders saw stays, and a close is answered at its link's states and grant.
use Rattle.std.proofs.Common.{◌≡◌, ℕ, true, List, [], ◌∷◌, ◌++◌, Option, Some, None, option_map, is_some, sym, ap, ◌∙◌}
use Rattle.std.proofs.Common.{inl, inr, subst}
use Rattle.message_values.specs.declared.message.Said.{Said}
use Rattle.message_values.specs.declared.message.Said.TheVariants.{Call, Reply}
use Rattle.message_values.specs.declared.operation.Operation.{Operation}
use Rattle.message_values.specs.declared.operation.Operation.TheVariants.{Close}
use Rattle.message_values.specs.declared.answer.Answer.{Answer}
use Rattle.object_state.specs.declared.operations.CloseOption.{CloseOption}
use Rattle.server_model.specs.Server.{Activation}
use Rattle.server_model.specs.declared.counted.Counted.{Counted}
use Rattle.container_model.specs.declared.record.Link.{Link}
use Rattle.container_model.specs.declared.answer.Done.{Done}
use Rattle.world_model.specs.declared.logs.Sent.{Sent}
use Rattle.world_model.specs.declared.logs.ServerDone.{ServerDone}
use Rattle.world_model.specs.World.{view_of, in_session}
use Rattle.world_model.specs.Safe.{Among}
use Rattle.world_facts.specs.Words.{Links, Acts, Lives, IsHonest, IsOpen}
use Rattle.world_facts.specs.Facts.{InStep, not_begun, level, behind, ahead, Facts}
use Rattle.world_facts.specs.Shapes.{IsFirst, IsChanged, ActsOn, again, next, makes, IsReady}
use Rattle.world_facts.specs.Views.{IsSeen, Views}
use Rattle.world_facts.proofs.Lookups.{among_old, among_new}
use Rattle.world_facts.proofs.Issuing.{same_act}
use Rattle.world_facts.proofs.Leaving.{grows_one}
use Rattle.world_facts.proofs.Acting.{IsPending, of_link, IsNextOf, next_of}

is_opened : (b : Activation) → IsOpen b → is_some b.content ≡ true
is_opened b h = ap is_some h.1

module _ {hostile : List ℕ} (links : Links) (acts after : Acts) (lives : Lives) (sent : List Said) (owners : List ℕ)
    (last : ℕ) (counted : List Done) (served : List ServerDone)
    (inc act n : ℕ) (op : Operation) (a : Activation) (r : Answer) (told : Option Counted)
    (f : Facts hostile links acts lives sent owners last counted served) (ready : IsReady links)
    (call : Among sent (Call inc act n op)) (ch : IsChanged acts after inc act a)
    (how : ActsOn acts inc act n op a r told) (log : List Sent) (v : Views hostile links acts log)
    (session : ℕ) where
  -- the reply, with the activation's state before the call
  abbrev pub reply : Sent
  reply = record { message = in_session session (Reply inc act n r); view = option_map view_of (acts inc act) }

  pending_of : (o : ℕ) (l : Link) → links o ≡ Some l → l.inc ≡ inc → l.act ≡ act → IsHonest hostile inc
      → IsPending links acts after lives sent owners last counted served inc act n op a r told f ready call ch how o
      l
  pending_of o l e ei ea honest = of_link links acts after lives sent owners last counted served inc act n op a r
      told f ready call ch how o l e ei ea honest

  seen_old : (inc' act' m : ℕ) (q : Answer) (l : Link) → IsSeen log inc' act' m q l.states l.s
      → IsSeen (log ++ reply ∷ []) inc' act' m q l.states l.s
  seen_old inc' act' m q l h = record {
    session = h.session;
    view = h.view;
    among = among_old log (reply ∷ []) _ h.among;
    opened = h.opened;
    states = h.states;
    grant = h.grant;
  }

  first_last : (l : Link) (x : Option Activation) → x ≡ None → InStep l x → l.last ≡ 1
  first_last l _ e (not_begun q one v s g) = one
  first_last l _ e (level y g el v) = absurd (let z : Some y ≡ None = e in cc)
  first_last l _ e (behind y q g el v) = absurd (let z : Some y ≡ None = e in cc)
  first_last l _ e (ahead y q g el v) = absurd (let z : Some y ≡ None = e in cc)

  -- the close that acts now
  seen_now : (o : ℕ) (l : Link) (option : CloseOption) → links o ≡ Some l → l.inc ≡ inc → l.act ≡ act
      → IsHonest hostile inc → l.pending ≡ Some (Close option) → a.last ≡ l.last → ActsOn acts inc act n op a r told
      → IsSeen (log ++ reply ∷ []) inc act a.last a.reply l.states l.s
  seen_now o l option e ei ea honest p el (again at en er ec) =
      let k : acts l.inc l.act ≡ Some a = ap (λ x. acts x l.act) ei ∙ (ap (acts inc) ea ∙ at) in
      seen_old inc act a.last a.reply l (subst (λ x. IsSeen log x act a.last a.reply l.states l.s) ei
      (subst (λ x. IsSeen log l.inc x a.last a.reply l.states l.s) ea
      (v.closes_sent o l a option e (subst (IsHonest hostile) (sym ei) honest) k p el)))
  seen_now o l option e ei ea honest p el (next b at en opened m) =
      let pb = pending_of o l e ei ea honest in
      let x : IsNextOf links acts after lives sent owners last counted served inc act n op a r told f ready call ch
      how l b =
      next_of links acts after lives sent owners last counted served inc act n op a r told f ready call ch how o l b
      pb en _ at pb.step in
      let la : n ≡ a.last = en ∙ sym m.last in
      let is : record { message = in_session session (Reply inc act a.last a.reply); view = Some (view_of b) } ≡ reply =
      ap (λ k. record { message = in_session session (Reply inc act k a.reply); view = Some (view_of b) }) (sym la)
      ∙ (ap (λ q. record { message = in_session session (Reply inc act n q); view = Some (view_of b) }) m.reply
      ∙ ap (λ y. record { message = in_session session (Reply inc act n r); view = option_map view_of y }) (sym at)) in
      record {
        session = session;
        view = view_of b;
        among = among_new log (reply ∷ []) _ (inl is);
        opened = is_opened b opened;
        states = x.states;
        grant = x.grant;
      }
  seen_now o l option e ei ea honest p el (makes at en fo al ar d ec eg) =
      let pb = pending_of o l e ei ea honest in
      let l1 : l.last ≡ 1 = first_last l (acts inc act) at pb.step in
      let oc : op ≡ Close option = pb.pending (Close option) p (en ∙ sym l1) in
      absurd (subst IsFirst oc fo)

  closes_now : (o : ℕ) (l : Link) (b : Activation) (option : CloseOption) → links o ≡ Some l
      → IsHonest hostile l.inc → after l.inc l.act ≡ Some b → l.pending ≡ Some (Close option) → b.last ≡ l.last
      → IsSeen (log ++ reply ∷ []) l.inc l.act b.last b.reply l.states l.s
  closes_now o l b option e h k p el = elim (same_act l.inc l.act inc act) [
    | inl s ↦ (let z : Some a ≡ Some b = sym ch.here
        ∙ (ap (after inc) (sym s.1) ∙ (ap (λ y. after y l.act) (sym s.0) ∙ k)) in
        let is : a ≡ b = cc in
        let la : a.last ≡ l.last = ap (λ (y : Activation). y.last) is ∙ el in
        subst (λ (y : Activation). IsSeen (log ++ reply ∷ []) l.inc l.act y.last y.reply l.states l.s) is
        (subst (λ x. IsSeen (log ++ reply ∷ []) x l.act a.last a.reply l.states l.s) (sym s.0)
        (subst (λ x. IsSeen (log ++ reply ∷ []) inc x a.last a.reply l.states l.s) (sym s.1)
        (seen_now o l option e s.0 s.1 (subst (IsHonest hostile) s.0 h) p la how))))
    | inr d ↦ seen_old l.inc l.act b.last b.reply l
        (v.closes_sent o l b option e h (sym (ch.others l.inc l.act d) ∙ k) p el)
  ]

  pub views_acted : Views hostile links after (log ++ reply ∷ [])
  views_acted = record {
    writes_sent = λ x h. elim ((grows_one log reply tt).new x h) [ inl old ↦ v.writes_sent x old | inr new ↦ new ];
    closes_sent = closes_now;
  }
