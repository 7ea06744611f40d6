-- What a server's step leans on of a container's record.
use Rattle.std.proofs.Common.{◌≡◌, ℕ, suc, Bool, List, [], ◌∷◌, Option, Some, None, Ok, refl, sym, ◌∙◌, inl, inr, subst}
use Rattle.std.specs.Prelude.{IsOkAnd, slice_get}
use Rattle.std.specs.List.{AllByRecursion}
use Rattle.message_values.specs.Operations.{op_of}
use Rattle.message_values.specs.declared.operation.Operation.{Operation}
use Rattle.message_values.specs.declared.operation.Operation.TheVariants.{InitNew, Load, Save, SaveCompleted}
use Rattle.object_state.specs.Both as both
use Rattle.object_state.specs.Persists as persist
use Rattle.object_state.specs.Objects as object
use Rattle.object_state.specs.declared.both_states.States.{States}
use Rattle.object_state.specs.declared.operations.Op.TheVariants as op
use Rattle.object_state.specs.declared.persist_states.PersistState.{PersistState}
use Rattle.object_state.specs.declared.persist_states.PersistState.TheVariants.{Unset, Normal, NoScribble}
use Rattle.object_state.specs.declared.persist_states.PersistState.TheVariants as state
use Rattle.container_model.specs.declared.record.Link.{Link}
use Rattle.container_model.specs.declared.record.Phase.{Phase}
use Rattle.container_model.specs.declared.record.Phase.TheVariants.{Idle, Saving}
use Rattle.container_model.specs.Record.{Record}
use Rattle.container_queues.specs.Roles.{Role, role_in}
use Rattle.container_queues.specs.Steady.{queue_of, ended, EndsWell, HasStorage, IsTimely, SteadyLink, Steady}
use Rattle.container_queues.proofs.SteadyLookups.{each_nth}
use Rattle.container_queues.proofs.SteadyQueues.{taken}
use Rattle.world_model.specs.Safe.{links_of}
use Rattle.world_facts.specs.Shapes.{IsFirst, IsReady}
use Rattle.world_steps.proofs.Objects.{link_held}

-- an object with a storage takes no first operation
no_init : (v w : States) (s : PersistState) → v.persist.state ≡ s → HasStorage s
    → both.joined (persist.numbered v.persist op.InitNew (persist.table op.InitNew s))
    (object.table op.InitNew v.object) ≡ Ok w → ⊥
no_init v w Unset e h g = absurd h
no_init v w Normal e h g = cc
no_init v w NoScribble e h g = cc
no_init v w state.HandsOff e h g = cc

no_load : (v w : States) (s : PersistState) → v.persist.state ≡ s → HasStorage s
    → both.joined (persist.numbered v.persist op.Load (persist.table op.Load s)) (object.table op.Load v.object)
    ≡ Ok w → ⊥
no_load v w Unset e h g = absurd h
no_load v w Normal e h g = cc
no_load v w NoScribble e h g = cc
no_load v w state.HandsOff e h g = cc

no_first : (v w : States) (o : Operation) → IsFirst o → HasStorage v.persist.state → both.step v (op_of o) ≡ Ok w → ⊥
no_first v w (InitNew class) f h e = no_init v w v.persist.state refl h e
no_first v w (Load class content) f h e = no_load v w v.persist.state refl h e
no_first v w _ f h e = absurd f

module _ (servers : List Bool) (last_act : ℕ) (phase : Phase) (name : Option (List ℕ)) (k : ℕ) (role : Role)
    (l : Link) (o : Operation) (h : SteadyLink servers last_act phase name k role l)
    (asked : l.pending ≡ Some o) where
  runs : (v : States) × (both.step l.states (op_of o) ≡ Ok v)
  runs = (let t = taken (EndsWell phase name k role) l.states o l.waiting
      (subst (λ p. IsOkAnd (ended (Ok l.states) (queue_of p l.waiting)) (EndsWell phase name k role)) asked
      h.queue_runs) in (t.0, t.1))

  first : IsFirst o → (l.last ≡ 1) × (l.waiting ≡ [])
  first f = elim h.first_call [
    | inl c ↦ (c.last, c.alone)
    | inr p ↦ (let r = runs in absurd (no_first l.states r.0 o f p.storage r.1))
  ]

  timely : AllByRecursion (IsTimely phase l.saved) (o ∷ l.waiting)
  timely = subst (λ p. AllByRecursion (IsTimely phase l.saved) (queue_of p l.waiting)) asked h.save_in_queue

saving_at : (servers : List Bool) (last_act : ℕ) (phase : Phase) (name : Option (List ℕ)) (k j : ℕ) (role : Role)
    (l : Link) → SteadyLink servers last_act phase name k role l → l.pending ≡ Some (Save j) → (phase ≡ Saving)
    × (l.saved ≡ None)
saving_at servers last_act phase name k j role l h e = (timely servers last_act phase name k role l (Save j) h e).0

apart_at : (servers : List Bool) (last_act : ℕ) (phase : Phase) (name : Option (List ℕ)) (k j m i : ℕ)
    (storage : Bool) (role : Role) (l : Link) → SteadyLink servers last_act phase name k role l
    → l.pending ≡ Some (Save j) → slice_get l.waiting i ≡ Some (SaveCompleted m storage) → ⊥
apart_at servers last_act phase name k j m i storage role l h e g =
    let saves = (saving_at servers last_act phase name k j role l h e).0 in
    let idle : phase ≡ Idle = each_nth (IsTimely phase l.saved) l.waiting (suc i) (SaveCompleted m storage)
    (timely servers last_act phase name k role l (Save j) h e).1 g in
    let both_phases : Saving ≡ Idle = sym saves ∙ idle in
    cc

pub ready : (r : Record) → Steady r → IsReady (links_of r.objects)
ready r s = record {
  runs = λ n l o e p. (let h = link_held r n l s e in
      runs r.servers r.last_act h.frame.phase h.frame.asked h.frame.k (role_in h.frame.ui.state h.object.number) l o
      h.steady p);
  first = λ n l o e p f. (let h = link_held r n l s e in
      first r.servers r.last_act h.frame.phase h.frame.asked h.frame.k (role_in h.frame.ui.state h.object.number) l
      o h.steady p f);
  saving = λ n k l e p. (let h = link_held r n l s e in
      (saving_at r.servers r.last_act h.frame.phase h.frame.asked h.frame.k k
      (role_in h.frame.ui.state h.object.number) l h.steady p).1);
  apart = λ n k j i storage l e p g. (let h = link_held r n l s e in
      apart_at r.servers r.last_act h.frame.phase h.frame.asked h.frame.k k j i storage
      (role_in h.frame.ui.state h.object.number) l h.steady p g);
}
