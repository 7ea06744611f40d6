-- A step of the container leaves who has frames.
use Rattle.std.proofs.Common.{◌≡◌, ◌⊎◌, ◌+◌, ◌≤◌, ℕ, List, [], ◌++◌, Option, Some, None, refl, sym, ap, ◌∙◌, inl, inr}
use Rattle.std.proofs.Common.{arith, subst}
use Rattle.message_values.specs.declared.message.Said.{Said}
use Rattle.message_values.specs.declared.message.Said.TheVariants.{Call, Reply}
use Rattle.message_values.specs.declared.operation.Operation.{Operation}
use Rattle.message_values.specs.declared.operation.Operation.TheVariants.{UiActivate, UiDeactivate}
use Rattle.message_values.specs.declared.answer.Answer.{Answer}
use Rattle.message_values.specs.declared.answer.Answer.TheVariants as told
use Rattle.object_state.specs.declared.grant_states.Tools.{Tools}
use Rattle.server_model.specs.Server.{Activation}
use Rattle.container_model.specs.declared.record.Link.{Link}
use Rattle.container_model.specs.declared.answer.Done.{Done}
use Rattle.container_queues.specs.Roles.{Holding}
use Rattle.world_model.specs.declared.logs.ServerDone.{ServerDone}
use Rattle.world_model.specs.Safe.{Among}
use Rattle.world_facts.specs.Words.{Links, Acts, Lives, IsHonest}
use Rattle.world_facts.specs.Facts.{InStep, not_begun, level, behind, ahead, Did, Facts}
use Rattle.world_facts.specs.Shapes.{Begins}
use Rattle.world_facts.proofs.Issuing.{which}
use Rattle.world_facts.proofs.Leaving.{AreCalls}
use Rattle.world_facts.proofs.Lookups.{among_join, among_old}
use Rattle.world_grants.specs.Grants.{Roles, Names, WasTold, Grants, AreSent, Follows, GaveUp, RolesMove}

-- more was sent
pub told_more : (sent more : List Said) (inc act g : ℕ) (tools : Tools) → WasTold sent inc act g tools
    → WasTold (sent ++ more) inc act g tools
told_more sent more inc act g tools h = record {
  n = h.n;
  called = among_old sent more _ h.called;
  replied = among_old sent more _ h.replied;
}

told_as : (sent : List Said) (inc act inc' act' g : ℕ) (tools : Tools) → inc' ≡ inc → act' ≡ act
    → WasTold sent inc act g tools → WasTold sent inc' act' g tools
told_as sent inc act inc' act' g tools ei ea h = subst (λ x. WasTold sent x act' g tools) (sym ei)
    (subst (λ x. WasTold sent inc x g tools) (sym ea) h)

module _ {hostile : List ℕ} (links : Links) (acts : Acts) (lives : Lives) (sent : List Said) (owners : List ℕ)
    (last : ℕ) (counted : List Done) (served : List ServerDone)
    (f : Facts hostile links acts lives sent owners last counted served) where
  -- an activation whose answer to the pending call was sent did so
  ahead_by : (l : Link) (op : Operation) (answer : Answer) (b : Activation) → l.pending ≡ Some op → l.last ≤ b.last
      → (l.last ≡ b.last → answer ≡ b.reply) → (x : Option Activation) → x ≡ Some b → InStep l x
      → Did l.states l.s op b answer
  ahead_by l op answer b p le kept _ e (not_begun o one v z g) = (let z : None ≡ Some b = e in cc)
  ahead_by l op answer b p le kept _ e (level a g el v) = (let z : None ≡ Some op = sym g ∙ p in cc)
  ahead_by l op answer b p le kept _ e (behind a o g el v) = (let z : Some a ≡ Some b = e in let ab : a ≡ b = cc in
      let lb : b.last + 1 ≡ l.last = ap (λ (y : Activation). y.last + 1) (sym ab) ∙ el in
      absurd (omega arith))
  ahead_by l op answer b p le kept _ e (ahead a o g el d) = (let z : Some a ≡ Some b = e in let ab : a ≡ b = cc in
      let y : Some o ≡ Some op = sym g ∙ p in
      let oo : o ≡ op = cc in
      let bl : b.last ≡ l.last = ap (λ (y : Activation). y.last) (sym ab) ∙ el in
      let ar : a.reply ≡ answer = ap (λ (y : Activation). y.reply) ab ∙ sym (kept (sym bl)) in
      subst (λ y. Did l.states l.s op y answer) ab
      (subst (λ q. Did l.states l.s q a answer) oo (subst (Did l.states l.s o a) ar d)))

  pub did_answer : (o : ℕ) (l : Link) (op : Operation) (answer : Answer) (a : Activation) → links o ≡ Some l
      → IsHonest hostile l.inc → l.pending ≡ Some op → Among sent (Reply l.inc l.act l.last answer)
      → acts l.inc l.act ≡ Some a
      → Did l.states l.s op a answer
  did_answer o l op answer a e honest p g at =
      let k = f.replies.replies_kept l.inc l.act l.last answer g in
      let same : k.0 ≡ a = (let z : Some k.0 ≡ Some a = sym k.1 ∙ at in cc) in
      subst (λ y. Did l.states l.s op y answer) same
      (ahead_by l op answer k.0 p k.2 k.3 (acts l.inc l.act) k.1 (f.in_step o l e honest))

  -- and the call was sent
  pub pending_called : (o : ℕ) (l : Link) (op : Operation) (roles : Roles) (answer : Answer)
      → Grants hostile links roles acts sent → links o ≡ Some l → l.pending ≡ Some op
      → Among sent (Reply l.inc l.act l.last answer) → Among sent (Call l.inc l.act l.last op)
  pending_called o l op roles answer g e p k =
      let c = g.replied_called l.inc l.act l.last answer k in
      subst (λ x. Among sent (Call l.inc l.act l.last x)) (f.calls.pending o l.inc c.0 op l e p c.1) c.1

  -- a link after a step: of an activation that the object had before, or of one that nobody knows
  abbrev pub Before : ℕ → Link → Type 0
  Before o m = ((l : Link) × (links o ≡ Some l) × (m.inc ≡ l.inc) × (m.act ≡ l.act))
      ⊎ ((links o ≡ None) × ((a : Activation) → acts m.inc m.act ≡ Some a → ⊥))

  module _ (after : Links) (more : List Said) (roles now : Roles) (taken : List Said)
      (g : Grants hostile links roles acts sent) (linked : (o k : ℕ) (tools : Tools) → roles o ≡ Holding k tools
      → (l : Link) × (links o ≡ Some l))
      (moves : RolesMove links after roles now taken) (sends : AreSent hostile sent taken) (calls : AreCalls more)
      (back : (o : ℕ) (m : Link) → after o ≡ Some m → Before o m) where
    no_g : (o k : ℕ) (l : Link) (a : Activation) → links o ≡ Some l → IsHonest hostile l.inc
        → acts l.inc l.act ≡ Some a → a.g ≡ Some k → GaveUp links taken o → ⊥
    no_g o k l a e honest at has gave =
        let same : gave.link ≡ l = (let z : Some gave.link ≡ Some l = sym gave.linked ∙ e in cc) in
        let d : Did l.states l.s UiDeactivate a told.Done = did_answer o l UiDeactivate told.Done a e honest
        (ap (λ (x : Link). x.pending) (sym same) ∙ gave.pending)
        (sends _ (subst (λ (x : Link). Among taken (Reply x.inc x.act x.last told.Done)) same gave.answered) honest)
        at in
        let z : None ≡ Some k = sym d.1 ∙ has in
        cc

    named : (o k : ℕ) (m : Link) (a : Activation) → after o ≡ Some m → IsHonest hostile m.inc
        → acts m.inc m.act ≡ Some a → a.g ≡ Some k → Names (now o) k
    named o k m a e honest at has = elim (back o m e) [
      | inl b ↦ (let l = b.0 in
          let here : acts l.inc l.act ≡ Some a = ap (λ x. acts x l.act) (sym b.2) ∙ (ap (acts m.inc) (sym b.3) ∙ at) in
          let h : IsHonest hostile l.inc = subst (IsHonest hostile) b.2 honest in
          elim (moves.named o k m e (g.holder_named o k l a b.1 h here has)) [
            | inl n ↦ n
            | inr gave ↦ absurd (no_g o k l a b.1 h here has gave)
          ])
      | inr n ↦ absurd (n.1 a at)
    ]

    told_now : (o k : ℕ) (tools : Tools) (m : Link) → after o ≡ Some m → IsHonest hostile m.inc
        → now o ≡ Holding k tools → WasTold (sent ++ more) m.inc m.act k tools
    told_now o k tools m e honest r = elim (back o m e) [
      | inl b ↦ (let l = b.0 in
          let h : IsHonest hostile l.inc = subst (IsHonest hostile) b.2 honest in
          told_more sent more m.inc m.act k tools
          (told_as sent l.inc l.act m.inc m.act k tools b.2 b.3 (elim (moves.held o k tools m e r) [
            | inl was ↦ g.held_told o k tools l b.1 h was
            | inr got ↦ (let same : got.link ≡ l = (let z : Some got.link ≡ Some l = sym got.linked ∙ b.1 in cc) in
                let replied : Among sent (Reply l.inc l.act l.last (told.Tools tools.menus tools.border)) =
                sends _
                (subst (λ (x : Link). Among taken
                (Reply x.inc x.act x.last (told.Tools tools.menus tools.border))) same got.answered) h in
                record {
                  n = l.last;
                  called = pending_called o l (UiActivate k) roles _ g b.1
                      (ap (λ (x : Link). x.pending) (sym same) ∙ got.pending) replied;
                  replied = replied;
                })
          ])))
      | inr n ↦ absurd (elim (moves.held o k tools m e r) [
        | inl was ↦ (let l = linked o k tools was in let z : None ≡ Some l.0 = sym n.0 ∙ l.1 in cc)
        | inr got ↦ (let z : None ≡ Some got.link = sym n.0 ∙ got.linked in cc)
      ])
    ]

    called_now : (inc act n : ℕ) (r : Answer) → Among (sent ++ more) (Reply inc act n r) → (op : Operation)
        × Among (sent ++ more) (Call inc act n op)
    called_now inc act n r k = elim (among_join sent more _ k) [
      | inl old ↦ (let c = g.replied_called inc act n r old in (c.0, among_old sent more _ c.1))
      | inr new ↦ absurd (let c = calls _ new in let z : Reply inc act n r ≡ Call c.0 c.1 c.2 c.3 = c.4 in cc)
    ]

    pub stepped : Grants hostile after now acts (sent ++ more)
    stepped = record { g_is_ui = g.g_is_ui; holder_named = named; replied_called = called_now; held_told = told_now }

-- the links follow those before
pub followed : {hostile : List ℕ} (links after : Links) (acts : Acts) (lives : Lives) (sent more : List Said)
    (owners : List ℕ) (last : ℕ) (counted : List Done) (served : List ServerDone) (roles now : Roles)
    (taken : List Said)
    → Facts hostile links acts lives sent owners last counted served → Grants hostile links roles acts sent
    → ((o k : ℕ) (tools : Tools) → roles o ≡ Holding k tools → (l : Link) × (links o ≡ Some l))
    → RolesMove links after roles now taken → AreSent hostile sent taken → AreCalls more → Follows links after
    → Grants hostile after now acts (sent ++ more)
followed links after acts lives sent more owners last counted served roles now taken f g linked moves sends calls
    follows =
    stepped links acts lives sent owners last counted served f after more roles now taken g linked moves sends calls
    (λ o m e. inl (follows o m e))

-- one more begins
pub begun : {hostile : List ℕ} (links after : Links) (acts : Acts) (lives : Lives) (sent more : List Said)
    (owners : List ℕ) (extra : List ℕ) (last o : ℕ) (counted : List Done) (served : List ServerDone)
    (roles now : Roles)
    → Facts hostile links acts lives sent owners last counted served → Grants hostile links roles acts sent
    → ((o k : ℕ) (tools : Tools) → roles o ≡ Holding k tools → (l : Link) × (links o ≡ Some l))
    → RolesMove links after roles now [] → AreCalls more → Begins links after lives (owners ++ extra) last o more
    → Grants hostile after now acts (sent ++ more)
begun links after acts lives sent more owners extra last o counted served roles now f g linked moves calls h =
    stepped links acts lives sent owners last counted served f after more roles now [] g linked moves
    (λ m z h. absurd z) calls (λ k m e. elim (which links after o k _ m h.is h.others e) [
      | inl s ↦ inr (
        ap links s.0 ∙ h.was,
        (λ a at. let ea : m.act ≡ last + 1 = ap (λ (x : Link). x.act) s.1 in
            let le : m.act ≤ last = f.drawn.acts_drawn m.inc m.act a at in omega arith),
      )
      | inr s ↦ inl (m, s.1, refl, refl)
    ])
