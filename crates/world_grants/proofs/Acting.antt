-- A server takes a call: who has frames stays.
use Rattle.std.proofs.Common.{◌≡◌, ◌⊎◌, ◌+◌, ℕ, List, [], ◌∷◌, ◌++◌, Option, Some, None, Result, Ok, Err, refl, sym, ap}
use Rattle.std.proofs.Common.{◌∙◌, inl, inr, subst}
use Rattle.message_values.specs.Operations.{op_of}
use Rattle.message_values.specs.declared.message.Said.{Said}
use Rattle.message_values.specs.declared.message.Said.TheVariants.{Call, Reply}
use Rattle.message_values.specs.declared.operation.Operation.{Operation}
use Rattle.message_values.specs.declared.operation.Operation.TheVariants.{InitNew, Load, InPlace, UiActivate}
use Rattle.message_values.specs.declared.operation.Operation.TheVariants.{UiDeactivate, InPlaceDeactivate, OpenWindow}
use Rattle.message_values.specs.declared.operation.Operation.TheVariants.{Edit, Save, HandsOff, SaveCompleted}
use Rattle.message_values.specs.declared.operation.Operation.TheVariants.{SaveDropped, Close}
use Rattle.message_values.specs.declared.answer.Answer.{Answer}
use Rattle.message_values.specs.declared.answer.Answer.TheVariants as told
use Rattle.object_state.specs.Both as both
use Rattle.object_state.specs.Objects as window
use Rattle.object_state.specs.Persists as persist
use Rattle.object_state.specs.declared.both_states.States.{States}
use Rattle.object_state.specs.declared.faults.StateFault.{StateFault}
use Rattle.object_state.specs.declared.persist_states.Persist.{Persist}
use Rattle.object_state.specs.declared.object_states.ObjectState.{ObjectState}
use Rattle.object_state.specs.declared.object_states.ObjectState.TheVariants.{Passive, Loaded, Running, InPlaceActive}
use Rattle.object_state.specs.declared.object_states.ObjectState.TheVariants.{UiActive, Open}
use Rattle.object_state.specs.declared.operations.Op.{Op}
use Rattle.object_state.specs.declared.operations.Op.TheVariants as ops
use Rattle.object_state.specs.declared.operations.CloseOption.{CloseOption}
use Rattle.object_state.specs.declared.operations.CloseOption.TheVariants.{SaveIfDirty, NoSave}
use Rattle.server_model.specs.Server.{Activation}
use Rattle.server_model.specs.declared.counted.Counted.{Counted}
use Rattle.container_model.specs.declared.record.Link.{Link}
use Rattle.container_model.specs.declared.answer.Done.{Done}
use Rattle.container_queues.specs.Roles.{Getting}
use Rattle.world_model.specs.declared.life.Life.TheVariants.{Running as Runs}
use Rattle.world_model.specs.declared.logs.ServerDone.{ServerDone}
use Rattle.world_model.specs.Safe.{Among}
use Rattle.world_facts.specs.Words.{Links, Acts, Lives, IsHonest, IsOpen, IsClosed}
use Rattle.world_facts.specs.Facts.{Did, Facts}
use Rattle.world_facts.specs.Shapes.{IsFirst, MovesGrant, IsChanged, Makes, ActsOn, again, next, makes, IsReady}
use Rattle.world_facts.proofs.Acting.{linked_or_closed, of_link, next_of, not_first}
use Rattle.world_facts.proofs.Issuing.{same_act}
use Rattle.world_facts.proofs.Lookups.{among_join, among_old}
use Rattle.world_grants.specs.Grants.{Roles, Names, IsUi, Grants}
use Rattle.world_grants.proofs.Stepping.{told_more}

-- both tables take an operation: so does the window's
joined_object : (x : Result Persist StateFault) (y : Result ObjectState StateFault) (w : States)
    → both.joined x y ≡ Ok w → y ≡ Ok w.object
joined_object (Err fault) y w e = cc
joined_object (Ok p) (Err fault) w e = cc
joined_object (Ok p) (Ok o) w e = (let q : record { persist = p; object = o } ≡ w = cc in
    ap (λ (z : States). Ok z.object) q)

window_takes : (v w : States) (o : Op) → both.step v o ≡ Ok w → window.table o v.object ≡ Ok w.object
window_takes v w o e = joined_object (persist.step v.persist o) (window.step v.object o) w e

-- whoever is given menus and border shows them
ui_given : (s u : ObjectState) (g : ℕ) → window.table (ops.UiActivate g) s ≡ Ok u → u ≡ UiActive
ui_given Passive u g e = cc
ui_given Loaded u g e = cc
ui_given Running u g e = cc
ui_given InPlaceActive u g e = cc
ui_given UiActive u g e = cc
ui_given Open u g e = cc

-- what an activation that has done a call has of grants: one that was given now, or the one that it had
abbrev Given : ℕ → Activation → Operation → Activation → Type 0
Given g before op a = ((op ≡ UiActivate g) × IsUi a) ⊎ ((before.g ≡ Some g) × (IsUi before → IsUi a))

abbrev Took : Activation → Operation → Activation → Answer → Type 0
Took before op a r = (IsFirst op → ⊥) → (g : ℕ) → (MovesGrant op ⊎ (a.g ≡ before.g))
    → Did before.states before.s op a r → a.g ≡ Some g → Given g before op a

-- an operation that leaves the window as it is, or that isn't taken while menus and border are shown
kept_ui : (before a : Activation) (op : Operation) (r : Answer) → (MovesGrant op → ⊥)
    → (Did before.states before.s op a r → IsUi before → IsUi a) → Took before op a r
kept_ui before a op r plain keeps nf g (inl moves) d has = absurd (plain moves)
kept_ui before a op r plain keeps nf g (inr same) d has = inr (sym same ∙ has, keeps d)

same_ui : (v : States) (a : Activation) (o : Op)
    → ((s : ObjectState) → window.table o UiActive ≡ Ok s → s ≡ UiActive) → IsOpen a → both.step v o ≡ Ok a.states
    → v.object ≡ UiActive → IsUi a
same_ui v a o table opened e ui =
    (opened, table a.states.object (ap (window.table o) (sym ui) ∙ window_takes v a.states o e))

-- no object is closed while it shows them
not_closed : (v w : States) (option : CloseOption) → both.step v (ops.Close option) ≡ Ok w → v.object ≡ UiActive → ⊥
not_closed v w option e ui = (let z : window.table (ops.Close option) UiActive ≡ Ok w.object =
    ap (window.table (ops.Close option)) (sym ui) ∙ window_takes v w (ops.Close option) e in cc)

-- each operation, by each answer
took : (before a : Activation) (op : Operation) (r : Answer) → Took before op a r
took before a (InitNew class) r = λ nf g m d has. absurd (nf tt)
took before a (Load class content) r = λ nf g m d has. absurd (nf tt)
took before a InPlace told.Done = kept_ui before a InPlace told.Done (λ z. z)
    (λ d u. same_ui before.states a ops.InPlace (λ s e. cc) d.0 d.1.states u.1)
took before a InPlace (told.Refused why) = λ nf g m d has. absurd d
took before a InPlace (told.Content c) = λ nf g m d has. absurd d
took before a InPlace (told.Tools menus border) = λ nf g m d has. absurd d
took before a (UiActivate h) told.Done = λ nf g m d has. absurd d
took before a (UiActivate h) (told.Refused why) = λ nf g m d has. absurd d
took before a (UiActivate h) (told.Content c) = λ nf g m d has. absurd d
took before a (UiActivate h) (told.Tools menus border) =
    λ nf g m d has. inl (
      (let z : Some h ≡ Some g = sym d.1 ∙ has in let q : h ≡ g = cc in ap UiActivate q),
      (
        d.0.0,
        ui_given before.states.object a.states.object h
            (window_takes before.states a.states (ops.UiActivate h) d.0.1.states),
      ),
    )
took before a UiDeactivate told.Done = λ nf g m d has. absurd (let z : None ≡ Some g = sym d.1 ∙ has in cc)
took before a UiDeactivate (told.Refused why) = λ nf g m d has. absurd d
took before a UiDeactivate (told.Content c) = λ nf g m d has. absurd d
took before a UiDeactivate (told.Tools menus border) = λ nf g m d has. absurd d
took before a InPlaceDeactivate told.Done = kept_ui before a InPlaceDeactivate told.Done (λ z. z)
    (λ d u. same_ui before.states a ops.InPlaceDeactivate (λ s e. cc) d.0 d.1.states u.1)
took before a InPlaceDeactivate (told.Refused why) = λ nf g m d has. absurd d
took before a InPlaceDeactivate (told.Content c) = λ nf g m d has. absurd d
took before a InPlaceDeactivate (told.Tools menus border) = λ nf g m d has. absurd d
took before a OpenWindow told.Done = kept_ui before a OpenWindow told.Done (λ z. z)
    (λ d u. same_ui before.states a ops.OpenWindow (λ s e. cc) d.0 d.1.states u.1)
took before a OpenWindow (told.Refused why) = λ nf g m d has. absurd d
took before a OpenWindow (told.Content c) = λ nf g m d has. absurd d
took before a OpenWindow (told.Tools menus border) = λ nf g m d has. absurd d
took before a (Edit bytes) told.Done = kept_ui before a (Edit bytes) told.Done (λ z. z)
    (λ d u. same_ui before.states a ops.Edit (λ s e. cc) d.0 d.1.states u.1)
took before a (Edit bytes) (told.Refused why) = kept_ui before a (Edit bytes) (told.Refused why) (λ z. z)
    (λ d u. (d.opened, ap (λ (v : States). v.object) d.states ∙ u.1))
took before a (Edit bytes) (told.Content c) = λ nf g m d has. absurd d
took before a (Edit bytes) (told.Tools menus border) = λ nf g m d has. absurd d
took before a (Save k) told.Done = λ nf g m d has. absurd d
took before a (Save k) (told.Refused why) = λ nf g m d has. absurd d
took before a (Save k) (told.Content c) = kept_ui before a (Save k) (told.Content c) (λ z. z)
    (λ d u. same_ui before.states a (ops.Save k) (λ s e. cc) d.0.0 d.0.1.states u.1)
took before a (Save k) (told.Tools menus border) = λ nf g m d has. absurd d
took before a HandsOff told.Done = kept_ui before a HandsOff told.Done (λ z. z)
    (λ d u. same_ui before.states a ops.HandsOff (λ s e. cc) d.0 d.1.states u.1)
took before a HandsOff (told.Refused why) = λ nf g m d has. absurd d
took before a HandsOff (told.Content c) = λ nf g m d has. absurd d
took before a HandsOff (told.Tools menus border) = λ nf g m d has. absurd d
took before a (SaveCompleted k storage) told.Done = kept_ui before a (SaveCompleted k storage) told.Done (λ z. z)
    (λ d u. same_ui before.states a (ops.SaveCompleted k storage) (λ s e. cc) d.0 d.1.states u.1)
took before a (SaveCompleted k storage) (told.Refused why) = λ nf g m d has. absurd d
took before a (SaveCompleted k storage) (told.Content c) = λ nf g m d has. absurd d
took before a (SaveCompleted k storage) (told.Tools menus border) = λ nf g m d has. absurd d
took before a (SaveDropped k) told.Done = kept_ui before a (SaveDropped k) told.Done (λ z. z)
    (λ d u. same_ui before.states a (ops.SaveDropped k) (λ s e. cc) d.0 d.1.states u.1)
took before a (SaveDropped k) (told.Refused why) = λ nf g m d has. absurd d
took before a (SaveDropped k) (told.Content c) = λ nf g m d has. absurd d
took before a (SaveDropped k) (told.Tools menus border) = λ nf g m d has. absurd d
took before a (Close SaveIfDirty) told.Done = λ nf g m d has. absurd d
took before a (Close SaveIfDirty) (told.Refused why) = λ nf g m d has. absurd d
took before a (Close SaveIfDirty) (told.Content c) = kept_ui before a (Close SaveIfDirty) (told.Content c) (λ z. z)
    (λ d u. absurd (not_closed before.states a.states SaveIfDirty d.1.states u.1))
took before a (Close SaveIfDirty) (told.Tools menus border) = λ nf g m d has. absurd d
took before a (Close NoSave) told.Done = kept_ui before a (Close NoSave) told.Done (λ z. z)
    (λ d u. absurd (not_closed before.states a.states NoSave d.1.states u.1))
took before a (Close NoSave) (told.Refused why) = λ nf g m d has. absurd d
took before a (Close NoSave) (told.Content c) = λ nf g m d has. absurd d
took before a (Close NoSave) (told.Tools menus border) = λ nf g m d has. absurd d

module _ {hostile : List ℕ} (links : Links) (acts after : Acts) (lives : Lives) (sent : List Said) (owners : List ℕ)
    (last : ℕ) (counted : List Done) (served : List ServerDone)
    (inc act n : ℕ) (op : Operation) (a : Activation) (r : Answer) (told : Option Counted)
    (f : Facts hostile links acts lives sent owners last counted served) (ready : IsReady links)
    (call : Among sent (Call inc act n op)) (runs : lives inc ≡ Some Runs) (ch : IsChanged acts after inc act a)
    (how : ActsOn acts inc act n op a r told)
    (roles : Roles) (getting : (o g : ℕ) (l : Link) → links o ≡ Some l → l.pending ≡ Some (UiActivate g)
    → roles o ≡ Getting g) (h : Grants hostile links roles acts sent) where
  -- the next call of an open activation, which is linked
  record IsNext (before : Activation) : Type 0 where
    object : ℕ
    link : Link
    linked : links object ≡ Some link
    inc_is : link.inc ≡ inc
    act_is : link.act ≡ act
    asked : link.pending ≡ Some op
    took : (g : ℕ) → a.g ≡ Some g → Given g before op a

  next_linked : IsHonest hostile inc → (before : Activation) → acts inc act ≡ Some before → n ≡ before.last + 1
      → IsOpen before → Makes before op a r told → IsNext before
  next_linked honest before at en opened m =
      elim (linked_or_closed links acts after lives sent owners last counted served inc act n op a r told f ready
      call ch how honest runs) [
        | inl k ↦ (let p = of_link links acts after lives sent owners last counted served inc act n op a r told f ready
            call ch how k.0 k.1 k.2 k.3 k.4 honest in
            let x = next_of links acts after lives sent owners last counted served inc act n op a r told f ready call ch
            how k.0 k.1 before p en _ at p.step in
            let nf = not_first links acts after lives sent owners last counted served inc act n op a r told f ready call
            ch how k.0 k.1 before at k.2 en x in
            let v = ready.runs k.0 k.1 op k.2 x.asked in
            let d : Did before.states before.s op a r = m.did v.0 (ap (λ y. both.step y (op_of op)) x.states ∙ v.1)
            nf in
            record {
              object = k.0;
              link = k.1;
              linked = k.2;
              inc_is = k.3;
              act_is = k.4;
              asked = x.asked;
              took = λ g has. took before a op r nf g m.grant d has;
            })
        | inr c ↦ absurd (let z : before.content ≡ None = subst IsClosed at c in let y : None ≡ Some opened.0 =
            sym z ∙ opened.1 in cc)
      ]

  ui_here : IsHonest hostile inc → (g : ℕ) → a.g ≡ Some g → ActsOn acts inc act n op a r told → IsUi a
  ui_here honest g has (again at en er ec) = h.g_is_ui inc act g a honest at has
  ui_here honest g has (next before at en opened m) = elim ((next_linked honest before at en opened m).took g has) [
    | inl k ↦ k.1
    | inr k ↦ k.1 (h.g_is_ui inc act g before honest at k.0)
  ]
  ui_here honest g has (makes at en fo al ar d ec eg) = absurd (let z : None ≡ Some g = sym eg ∙ has in cc)

  named_here : IsHonest hostile inc → (o g : ℕ) (l : Link) → links o ≡ Some l → l.inc ≡ inc → l.act ≡ act
      → a.g ≡ Some g → ActsOn acts inc act n op a r told → Names (roles o) g
  named_here honest o g l e ei ea has (again at en er ec) =
      h.holder_named o g l a e (subst (IsHonest hostile) (sym ei) honest)
      (ap (λ x. acts x l.act) ei ∙ (ap (acts inc) ea ∙ at)) has
  named_here honest o g l e ei ea has (next before at en opened m) =
      let x = next_linked honest before at en opened m in
      elim (x.took g has) [
        | inl k ↦ (let p = of_link links acts after lives sent owners last counted served inc act n op a r told f
            ready call ch how o l e ei ea honest in
            let y = next_of links acts after lives sent owners last counted served inc act n op a r told f ready
            call ch how o l before p en _ at p.step in
            subst (λ z. Names z g) (sym (getting o g l e (y.asked ∙ ap Some k.0))) refl)
        | inr k ↦ h.holder_named o g l before e (subst (IsHonest hostile) (sym ei) honest)
            (ap (λ z. acts z l.act) ei ∙ (ap (acts inc) ea ∙ at)) k.0
      ]
  named_here honest o g l e ei ea has (makes at en fo al ar d ec eg) =
      absurd (let z : None ≡ Some g = sym eg ∙ has in cc)

  called_now : (i x m : ℕ) (q : Answer) → Among (sent ++ Reply inc act n r ∷ []) (Reply i x m q)
      → (p : Operation) × Among (sent ++ Reply inc act n r ∷ []) (Call i x m p)
  called_now i x m q k = elim (among_join sent (Reply inc act n r ∷ []) _ k) [
    | inl old ↦ (let c = h.replied_called i x m q old in (c.0, among_old sent (Reply inc act n r ∷ []) _ c.1))
    | inr new ↦ elim new [
      | inl e ↦ (
        op,
        among_old sent (Reply inc act n r ∷ []) _ (let ei : i ≡ inc = cc in let ex : x ≡ act = cc in
            let em : m ≡ n = cc in
            subst (λ z. Among sent (Call z x m op)) (sym ei)
            (subst (λ z. Among sent (Call inc z m op)) (sym ex)
            (subst (λ z. Among sent (Call inc act z op)) (sym em) call))),
      )
      | inr z ↦ absurd z
    ]
  ]

  pub grants_acted : Grants hostile links roles after (sent ++ Reply inc act n r ∷ [])
  grants_acted = record {
    g_is_ui = λ i x g b hon e has. elim (same_act i x inc act) [
      | inl s ↦ (let z : Some a ≡ Some b = sym ch.here
          ∙ (ap (after inc) (sym s.1) ∙ (ap (λ y. after y x) (sym s.0) ∙ e)) in let is : a ≡ b = cc in
          subst IsUi is (ui_here (subst (IsHonest hostile) s.0 hon) g (ap (λ (y : Activation). y.g) is ∙ has) how))
      | inr d ↦ h.g_is_ui i x g b hon (sym (ch.others i x d) ∙ e) has
    ];
    holder_named = λ o g l b e hon at has. elim (same_act l.inc l.act inc act) [
      | inl s ↦ (let z : Some a ≡ Some b = sym ch.here
          ∙ (ap (after inc) (sym s.1) ∙ (ap (λ y. after y l.act) (sym s.0) ∙ at)) in let is : a ≡ b = cc in
          named_here (subst (IsHonest hostile) s.0 hon) o g l e s.0 s.1 (ap (λ (y : Activation). y.g) is ∙ has) how)
      | inr d ↦ h.holder_named o g l b e hon (sym (ch.others l.inc l.act d) ∙ at) has
    ];
    replied_called = called_now;
    held_told = λ o g tools l e hon k. told_more sent (Reply inc act n r ∷ []) l.inc l.act g tools
        (h.held_told o g tools l e hon k);
  }
