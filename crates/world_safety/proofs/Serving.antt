-- A server takes a call, and its reply is sent.
use Rattle.std.proofs.Common.{◌≡◌, ℕ, List, [], ◌∷◌, ◌++◌, Option, Some, None, option_map, Result, Ok, Err, refl, sym}
use Rattle.std.proofs.Common.{ap, ◌∙◌, inl, inr, subst}
use Rattle.std.proofs.lemmas.Bool.Decides.{eqb_tells}
use Rattle.message_values.specs.Found.{find, nth, set_nth}
use Rattle.message_values.specs.declared.message.Said.TheVariants.{Call, Reply}
use Rattle.message_values.specs.declared.operation.Operation.{Operation}
use Rattle.object_core.specs.Kinds.{Kind}
use Rattle.server_model.specs.Server.{Activation, Served, on_call, wanted}
use Rattle.server_model.specs.declared.counted.Counted.{Counted}
use Rattle.server_model.specs.declared.fault.ServerFault.{ServerFault}
use Rattle.world_model.specs.declared.event.Stop.{Stop}
use Rattle.world_model.specs.declared.life.Life.{Life}
use Rattle.world_model.specs.declared.life.Life.TheVariants.{Running, Ended, Reaped}
use Rattle.world_model.specs.declared.logs.Sent.{Sent}
use Rattle.world_model.specs.declared.logs.View.{View}
use Rattle.world_model.specs.World.{World, Instance, nth_or_zero, view_of, view_in, counted_by, served, stocked}
use Rattle.world_model.specs.World.{called_wanting, called_in, called, is_of, in_session}
use Rattle.world_model.specs.Safe.{Among, links_of, act_at, acts_of, sayings}
use Rattle.world_facts.specs.Words.{life_at, lives_of}
use Rattle.world_facts.specs.Facts.{Facts}
use Rattle.world_facts.specs.Shapes.{entries_of}
use Rattle.world_facts.proofs.Lookups.{length_set_nth}
use Rattle.world_facts.specs.Views.{Views}
use Rattle.world_facts.proofs.Acting.{acted}
use Rattle.world_facts.proofs.Viewing.{views_acted}
use Rattle.world_facts.proofs.Starting.{started}
use Rattle.world_steps.proofs.Instances.{nth_same, nth_other}
use Rattle.world_steps.proofs.Objects.{messages_of_log}
use Rattle.world_steps.proofs.Calls.{IsTaken, call_taken}
use Rattle.world_steps.proofs.Ready.{ready}
use Rattle.world_grants.specs.Grants.{Grants, roles_of}
use Rattle.world_grants.proofs.Acting.{grants_acted}
use Rattle.world_grants.proofs.Answering.{ready_for}
use Rattle.world_safety.specs.Holding.{Agrees, AgreesIn}
use Rattle.world_safety.proofs.Joining.{hosted}

entries_same : (w : World) (inc act : ℕ) (c : Option Counted) → ((v : Counted) → c ≡ Some v → v.act ≡ act)
    → entries_of inc act w.owners c ≡ counted_by w inc c
entries_same w inc act None g = refl
entries_same w inc act (Some v) g =
    ap (λ x. record { inc = inc; object = nth_or_zero (nth w.owners x); k = v.k; content = v.content } ∷ [])
    (sym (g v refl))

module _ (w : World) (h : AgreesIn w) (s inc act n : ℕ) (op : Operation)
    (call : Among (sayings w.sent) (Call inc act n op)) where
  module _ (i : Instance) (told : Served) (box : Option Kind) (at : nth w.instances inc ≡ Some i)
      (runs : i.life ≡ Running) (e : on_call i.core (in_session s (Call inc act n op)) box ≡ Ok told) where
    taken : IsTaken w.instances inc act n op i told
    taken = call_taken w.instances s inc act n op i at box told e

    lives_same : (x : ℕ) → lives_of (set_nth w.instances inc (record i { core = told.server })) x
        ≡ lives_of w.instances x
    lives_same x = elim (eqb_tells x inc) [
      | inl q ↦ ap life_at (ap (nth (set_nth w.instances inc (record i { core = told.server }))) q.1
          ∙ nth_same w.instances inc i (record i { core = told.server }) at)
          ∙ sym (ap life_at (ap (nth w.instances) q.1 ∙ at))
      | inr q ↦ ap life_at (nth_other w.instances inc x (record i { core = told.server }) q.1)
    ]

    hosted_still : (x y : ℕ) (a : Activation) → acts_of (set_nth w.instances inc (record i { core = told.server }))
        x y ≡ Some a → (life : Life) × (lives_of w.instances x ≡ Some life)
    hosted_still x y a g = (let p = hosted (set_nth w.instances inc (record i { core = told.server })) x y a g in
        (p.0, sym (lives_same x) ∙ p.1))

    -- the reply was sent with the view of now
    abbrev replied : Option View → Sent
    replied view = record { message = in_session s (Reply inc act n told.answer); view = view }

    reply_seen : replied (option_map view_of (acts_of w.instances inc act)) ≡ replied (view_in i.core act)
    reply_seen = ap (λ (x : Option Instance). replied (option_map view_of (act_at act x))) at

    views_served : Views w.hostile (links_of w.rec.objects)
        (acts_of (set_nth w.instances inc (record i { core = told.server })))
        (w.sent ++ record { message = in_session s (Reply inc act n told.answer); view = view_in i.core act } ∷ [])
    views_served =
        subst (λ y. Views w.hostile (links_of w.rec.objects)
        (acts_of (set_nth w.instances inc (record i { core = told.server }))) (w.sent ++ y ∷ [])) reply_seen
        (views_acted (links_of w.rec.objects) (acts_of w.instances)
        (acts_of (set_nth w.instances inc (record i { core = told.server }))) (lives_of w.instances)
        (sayings w.sent) w.owners w.rec.last_act w.container_done w.server_done inc act n op taken.after
        told.answer told.counted
        h.facts (ready w.rec h.steady) call taken.changed taken.how w.sent h.views s)

    pub served_agrees : Agrees w.hostile w.rec (set_nth w.instances inc (record i { core = told.server }))
        (w.sent ++ record { message = in_session s (Reply inc act n told.answer); view = view_in i.core act } ∷ [])
        w.owners w.container_done (w.server_done ++ counted_by w inc told.counted)
    served_agrees =
        let links = links_of w.rec.objects in
        let js = set_nth w.instances inc (record i { core = told.server }) in
        let x : Sent = record { message = in_session s (Reply inc act n told.answer); view = view_in i.core act } in
        let more = sayings w.sent ++ Reply inc act n told.answer ∷ [] in
        let ms : sayings (w.sent ++ x ∷ []) ≡ more = messages_of_log w.sent (x ∷ []) in
        let es : entries_of inc act w.owners told.counted ≡ counted_by w inc told.counted =
        entries_same w inc act told.counted taken.of in
        let f : Facts w.hostile links (acts_of js) (lives_of w.instances) more w.owners w.rec.last_act
        w.container_done (w.server_done ++ entries_of inc act w.owners told.counted) =
        acted links (acts_of w.instances) (acts_of js) (lives_of w.instances) (sayings w.sent) w.owners
        w.rec.last_act w.container_done w.server_done inc act n op taken.after told.answer told.counted
        h.facts (ready w.rec h.steady) call taken.changed taken.how in
        let g : Facts w.hostile links (acts_of js) (lives_of js) more w.owners w.rec.last_act w.container_done
        (w.server_done ++ entries_of inc act w.owners told.counted) =
        started links (acts_of js) (acts_of js) (lives_of w.instances) (lives_of js) more w.owners w.rec.last_act
        w.container_done (w.server_done ++ entries_of inc act w.owners told.counted)
        (record {
          same = λ y z. refl;
          there = λ y life q. (life, lives_same y ∙ q);
          runs = λ y life q r. sym (lives_same y) ∙ r;
          hosted = hosted_still;
        }) f in
        record {
          steady = h.steady;
          servers = h.servers ∙ sym (length_set_nth w.instances inc (record i { core = told.server }));
          facts = subst (λ xs. Facts w.hostile links (acts_of js) (lives_of js) xs w.owners w.rec.last_act
              w.container_done (w.server_done ++ counted_by w inc told.counted)) (sym ms)
              (subst (λ y. Facts w.hostile links (acts_of js) (lives_of js) more w.owners w.rec.last_act
              w.container_done (w.server_done ++ y)) es g);
          views = views_served;
          grants = subst (λ xs. Grants w.hostile links (roles_of w.rec) (acts_of js) xs) (sym ms)
              (grants_acted links (acts_of w.instances) (acts_of js) (lives_of w.instances) (sayings w.sent)
              w.owners w.rec.last_act w.container_done w.server_done inc act n op taken.after told.answer
              told.counted
              h.facts (ready w.rec h.steady) call (ap life_at at ∙ ap Some runs) taken.changed taken.how
              (roles_of w.rec) (ready_for w.rec h.steady).getting h.grants);
        }

  agrees_served : (i : Instance) (stock : List Kind) (box : Option Kind) (told : Result Served ServerFault)
      → nth w.instances inc ≡ Some i → i.life ≡ Running → on_call i.core (in_session s (Call inc act n op)) box
      ≡ told → AgreesIn (served w s inc act n i stock told)
  agrees_served i stock box (Err fault) at runs e = h
  agrees_served i stock box (Ok v) at runs e = served_agrees i v box at runs e

  ok_is : (x y : World) → ◌≡◌ {A = Result World Stop} (Ok x) (Ok y) → x ≡ y
  ok_is x y e = cc

  agrees_stocked : (i : Instance) (class : List ℕ) (kind : Option Kind) (v : World) → nth w.instances inc ≡ Some i
      → i.life ≡ Running → stocked w s inc act n op i class kind ≡ Ok v → AgreesIn v
  agrees_stocked i class None v at runs e = cc
  agrees_stocked i class (Some kind) v at runs e = subst AgreesIn (ok_is _ v e)
      (agrees_served i _ (Some kind) (on_call i.core (in_session s (Call inc act n op)) (Some kind)) at runs refl)

  agrees_wanting : (i : Instance) (class : Option (List ℕ)) (v : World) → nth w.instances inc ≡ Some i
      → i.life ≡ Running → called_wanting w s inc act n op i class ≡ Ok v → AgreesIn v
  agrees_wanting i None v at runs e = subst AgreesIn (ok_is _ v e)
      (agrees_served i w.stock None (on_call i.core (in_session s (Call inc act n op)) None) at runs refl)
  agrees_wanting i (Some class) v at runs e = agrees_stocked i class (find (is_of class) w.stock) v at runs e

  agrees_called_in : (i : Instance) (life : Life) (v : World) → nth w.instances inc ≡ Some i → i.life ≡ life
      → called_in w s inc act n op i life ≡ Ok v → AgreesIn v
  agrees_called_in i Running v at runs e = agrees_wanting i (wanted i.core (in_session s (Call inc act n op))) v at
      runs e
  agrees_called_in i Ended v at runs e = subst AgreesIn (ok_is _ v e) h
  agrees_called_in i Reaped v at runs e = subst AgreesIn (ok_is _ v e) h

  pub agrees_called : (i : Option Instance) (v : World) → nth w.instances inc ≡ i → called w s inc act n op i ≡ Ok v
      → AgreesIn v
  agrees_called None v at e = subst AgreesIn (ok_is _ v e) h
  agrees_called (Some i) v at e = agrees_called_in i i.life v at refl e
