-- Activations that stay as they are, but for what they contain: who has frames stays.
use Rattle.std.proofs.Common.{◌≡◌, ℕ, List, [], ◌++◌, sym, ap, ◌∙◌, inl, inr, subst}
use Rattle.std.proofs.lemmas.List.{append-nil}
use Rattle.message_values.specs.declared.message.Said.{Said}
use Rattle.object_state.specs.declared.both_states.States.{States}
use Rattle.world_model.specs.Safe.{Among}
use Rattle.world_facts.specs.Words.{Links, Acts}
use Rattle.world_facts.specs.Shapes.{Alike, Tells, IsOwn}
use Rattle.world_facts.proofs.Alike.{before_of}
use Rattle.world_facts.proofs.Honest.{Fewer}
use Rattle.world_facts.proofs.Lookups.{among_join, among_old}
use Rattle.world_grants.specs.Grants.{Roles, Grants}
use Rattle.world_grants.proofs.Stepping.{told_more}

pub grants_told : {hostile : List ℕ} (links : Links) (roles : Roles) (acts after : Acts) (sent more : List Said)
    → Tells acts after → ((m : Said) → Among more m → IsOwn m) → Grants hostile links roles acts sent
    → Grants hostile links roles after (sent ++ more)
grants_told links roles acts after sent more same own h = record {
  g_is_ui = λ inc act g b hon e has.
      (let a = before_of (acts inc act) b (subst (Alike (acts inc act)) e (same inc act)) in
      let k = a.2 in
      let ui = h.g_is_ui inc act g a.0 hon a.1 (sym k.g ∙ has) in
      (k.opened ui.0, ap (λ (v : States). v.object) k.states ∙ ui.1));
  holder_named = λ o g l b e hon at has.
      (let a = before_of (acts l.inc l.act) b (subst (Alike (acts l.inc l.act)) at (same l.inc l.act)) in
      let k = a.2 in
      h.holder_named o g l a.0 e hon a.1 (sym k.g ∙ has));
  replied_called = λ inc act n r k. elim (among_join sent more _ k) [
    | inl old ↦ (let c = h.replied_called inc act n r old in (c.0, among_old sent more _ c.1))
    | inr new ↦ absurd (own _ new)
  ];
  held_told = λ o g tools l e hon k. told_more sent more l.inc l.act g tools (h.held_told o g tools l e hon k);
}

pub grants_alike : {hostile : List ℕ} (links : Links) (roles : Roles) (acts after : Acts) (sent : List Said)
    → Tells acts after → Grants hostile links roles acts sent → Grants hostile links roles after sent
grants_alike {hostile = hostile} links roles acts after sent same h =
    subst (λ s. Grants hostile links roles after s) (append-nil sent)
    (grants_told links roles acts after sent [] same (λ m z. absurd z) h)

-- fewer servers are honest
pub fewer_grants : (hostile more : List ℕ) (links : Links) (roles : Roles) (acts : Acts) (sent : List Said)
    → Fewer hostile more → Grants hostile links roles acts sent → Grants more links roles acts sent
fewer_grants hostile more links roles acts sent fewer h = record {
  g_is_ui = λ inc act g a hon e. h.g_is_ui inc act g a (fewer inc hon) e;
  holder_named = λ o g l a e hon at. h.holder_named o g l a e (fewer l.inc hon) at;
  replied_called = h.replied_called;
  held_told = λ o g tools l e hon k. h.held_told o g tools l e (fewer l.inc hon) k;
}

pub grants_same : {hostile : List ℕ} (links : Links) (roles : Roles) (acts after : Acts) (sent : List Said)
    → ((inc act : ℕ) → after inc act ≡ acts inc act) → Grants hostile links roles acts sent
    → Grants hostile links roles after sent
grants_same links roles acts after sent same h = record {
  g_is_ui = λ inc act g a hon e. h.g_is_ui inc act g a hon (sym (same inc act) ∙ e);
  holder_named = λ o g l a e hon at. h.holder_named o g l a e hon (sym (same l.inc l.act) ∙ at);
  replied_called = h.replied_called;
  held_told = h.held_told;
}
