-- A server sends a message of its own accord: a world that agrees stays so.
use Rattle.std.proofs.Common.{◌≡◌, ℕ, List, [], ◌∷◌, ◌++◌, Option, Some, None, Result, Ok, Err, refl, sym, ap, ◌∙◌, inl}
use Rattle.std.proofs.Common.{inr, subst}
use Rattle.std.proofs.lemmas.Bool.Decides.{eqb_tells}
use Rattle.message_values.specs.Found.{find, nth, set_nth}
use Rattle.message_values.specs.declared.message.Said.{Said}
use Rattle.server_model.specs.Server.{Told, is_act}
use Rattle.server_model.specs.Server as server
use Rattle.server_model.specs.declared.fault.ServerFault.{ServerFault}
use Rattle.world_model.specs.declared.event.Stop.{Stop}
use Rattle.world_model.specs.declared.life.Life.{Life}
use Rattle.world_model.specs.declared.life.Life.TheVariants.{Running, Ended, Reaped}
use Rattle.world_model.specs.declared.logs.Sent.{Sent}
use Rattle.world_model.specs.World.{World, Instance, view_in, spoken_by, spoken, scribble, ask}
use Rattle.world_model.specs.Safe.{Among, links_of, act_at, acts_of, sayings}
use Rattle.world_facts.specs.Words.{life_at, lives_of}
use Rattle.world_facts.specs.Facts.{Facts}
use Rattle.world_facts.specs.Shapes.{Alike, Tells, IsOwn}
use Rattle.world_facts.proofs.Lookups.{length_set_nth}
use Rattle.world_facts.proofs.Leaving.{tells_leave, grows_one, views_kept}
use Rattle.world_facts.proofs.Telling.{told_all}
use Rattle.world_grants.specs.Grants.{Grants, roles_of}
use Rattle.world_grants.proofs.Alike.{grants_told}
use Rattle.world_steps.proofs.Instances.{nth_same, nth_other}
use Rattle.world_steps.proofs.Objects.{messages_of_log}
use Rattle.world_safety.specs.Holding.{Agrees, AgreesIn}
use Rattle.world_safety.proofs.Speaking.{IsTelling, alike_same, writing_is, asking_is}

module _ (w : World) (h : AgreesIn w) (inc act : ℕ) (i : Instance) (at : nth w.instances inc ≡ Some i) where
  module _ (t : Told) (spoke : IsTelling i.core act t) where
    abbrev later : Instance
    later = record i { core = t.server }

    abbrev js : List Instance
    js = set_nth w.instances inc later

    tells : Tells (acts_of w.instances) (acts_of js)
    tells y x = elim (eqb_tells y inc) [
      | inl s ↦ subst (λ z. Alike z (acts_of js y x)) (sym (ap (act_at x) (ap (nth w.instances) s.1 ∙ at)))
          (subst (Alike (find (is_act x) i.core.acts))
          (sym (ap (act_at x) (ap (nth js) s.1 ∙ nth_same w.instances inc i later at))) (spoke.alike x))
      | inr s ↦ subst (Alike (acts_of w.instances y x))
          (sym (ap (act_at x) (nth_other w.instances inc y later s.1))) (alike_same (acts_of w.instances y x))
    ]

    still : (y : ℕ) → lives_of js y ≡ lives_of w.instances y
    still y = elim (eqb_tells y inc) [
      | inl s ↦ ap life_at (ap (nth js) s.1 ∙ nth_same w.instances inc i later at)
          ∙ sym (ap life_at (ap (nth w.instances) s.1 ∙ at))
      | inr s ↦ ap life_at (nth_other w.instances inc y later s.1)
    ]

    abbrev entry : Sent
    entry = record { message = t.message; view = view_in i.core act }

    own_only : (m : Said) → Among (t.message.said ∷ []) m → IsOwn m
    own_only m (inl e) = subst IsOwn (sym e) spoke.own
    own_only m (inr z) = absurd z

    spoke_agrees : Agrees w.hostile w.rec js (w.sent ++ entry ∷ []) w.owners w.container_done w.server_done
    spoke_agrees =
        let links = links_of w.rec.objects in
        let ms : sayings (w.sent ++ entry ∷ []) ≡ sayings w.sent ++ t.message.said ∷ [] =
        messages_of_log w.sent (entry ∷ []) in
        record {
          steady = h.steady;
          servers = h.servers ∙ sym (length_set_nth w.instances inc later);
          facts = subst (λ s. Facts w.hostile links (acts_of js) (lives_of js) s w.owners w.rec.last_act
              w.container_done w.server_done) (sym ms)
              (told_all links (acts_of w.instances) (acts_of js) (lives_of w.instances) (lives_of js)
              (sayings w.sent) (t.message.said ∷ []) w.owners w.rec.last_act w.container_done w.server_done
              tells still own_only h.facts);
          views = views_kept links links (acts_of w.instances) (acts_of js) w.sent (w.sent ++ entry ∷ [])
              (tells_leave w.hostile links (acts_of w.instances) (acts_of js) tells)
              (grows_one w.sent entry spoke.sent_open) h.views;
          grants = subst (λ s. Grants w.hostile links (roles_of w.rec) (acts_of js) s) (sym ms)
              (grants_told links (roles_of w.rec) (acts_of w.instances) (acts_of js) (sayings w.sent)
              (t.message.said ∷ []) tells own_only h.grants);
        }

  agrees_spoken_by : (told : Result Told ServerFault) → ((t : Told) → told ≡ Ok t → IsTelling i.core act t)
      → AgreesIn (spoken_by w inc act i told)
  agrees_spoken_by (Err fault) e = h
  agrees_spoken_by (Ok t) e = spoke_agrees t (e t refl)

  ok_is : (x y : World) → ◌≡◌ {A = Result World Stop} (Ok x) (Ok y) → x ≡ y
  ok_is x y e = cc

  agrees_spoken : (told : Result Told ServerFault) → ((t : Told) → told ≡ Ok t → IsTelling i.core act t)
      → (life : Life) (v : World) → spoken w inc act i life told ≡ Ok v → AgreesIn v
  agrees_spoken told g Running v e = subst AgreesIn (ok_is _ v e) (agrees_spoken_by told g)
  agrees_spoken told g Ended v e = cc
  agrees_spoken told g Reaped v e = cc

pub agrees_scribble : (w : World) (inc act : ℕ) (i : Option Instance) (v : World) → AgreesIn w
    → nth w.instances inc ≡ i → scribble w inc act i ≡ Ok v → AgreesIn v
agrees_scribble w inc act None v h at e = cc
agrees_scribble w inc act (Some i) v h at e = agrees_spoken w h inc act i at (server.scribble i.core act)
    (λ t. writing_is i.core act t) i.life v e

pub agrees_ask : (w : World) (inc act : ℕ) (i : Option Instance) (v : World) → AgreesIn w → nth w.instances inc ≡ i
    → ask w inc act i ≡ Ok v → AgreesIn v
agrees_ask w inc act None v h at e = cc
agrees_ask w inc act (Some i) v h at e = agrees_spoken w h inc act i at (server.ask_deactivate i.core act)
    (λ t. asking_is i.core act t) i.life v e
