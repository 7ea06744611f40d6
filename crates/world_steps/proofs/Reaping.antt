-- The end of a server that doesn't run any more: links end, and whoever waits for a frame that is free by it is told.
use Rattle.std.proofs.Common.{◌≡◌, ◌⊎◌, ◌==◌, ℕ, Bool, true, false, List, ◌++◌, length, map, Option, Some, None}
use Rattle.std.proofs.Common.{option_map, Result, Ok, Err, refl, sym, ap, ◌∙◌, inl, inr, subst, if◌then◌else◌}
use Rattle.std.proofs.lemmas.Bool.{eqb-true}
use Rattle.message_values.specs.Found.{find}
use Rattle.container_model.specs.declared.record.Link.{Link}
use Rattle.container_model.specs.declared.record.Object.{Object}
use Rattle.container_model.specs.declared.fault.ContainerFault.{ContainerFault}
use Rattle.container_model.specs.declared.fault.ContainerFault.TheVariants.{NoSuch}
use Rattle.container_model.specs.Record.{Record, Took, is_object, is_alive}
use Rattle.container_model.specs.Grants.{freed_frame, freed_claims}
use Rattle.container_model.specs.Saves.{settle_actions, kept}
use Rattle.container_model.specs.Messages.{reaped_object, reaped, reaped_grants, reaped_saving, reap_made, on_reap}
use Rattle.container_queues.specs.Steady.{Steady}
use Rattle.container_steady.proofs.SteadyRecords.{if_told}
use Rattle.world_model.specs.declared.life.Life.TheVariants.{Running}
use Rattle.world_model.specs.Safe.{link_at, links_of}
use Rattle.world_facts.specs.Words.{Acts, Lives, all_said, sayings_of}
use Rattle.world_facts.specs.Shapes.{MayGo, is_over, EndsSome}
use Rattle.world_facts.proofs.Lookups.{length_set_nth, map_map_same}
use Rattle.world_steps.specs.Steps.{IsPlain, AsksInTurn, IsReaped}
use Rattle.world_steps.proofs.Asking.{Rising, ordered_rise}
use Rattle.world_steps.proofs.Handing.{IsOrderly, all_handed, grants_numbers, rises_same}
use Rattle.world_steps.proofs.Objects.{Waits, steady_waits, link_mapped, sent_of, no_start, no_start_settled, no_end}
use Rattle.world_steps.proofs.Objects.{no_end_settled}
use Rattle.world_steps.proofs.Turns.{waits_ended, grants_keep, grants_asked, turns_further, turns_wait}

reaped_number : (inc : ℕ) (o : Object) (x : Option Link) → (reaped_object inc o x).number ≡ o.number
reaped_number inc o None = refl
reaped_number inc o (Some l) = if_told (λ (z : Object). z.number ≡ o.number) (l.inc == inc)
    (record o { work = kept o; link = None }) o (λ e. refl) (λ e. refl)

module _ (hostile : List ℕ) (r : Record) (acts0 : Acts) (lives : Lives) (inc : ℕ) (steady : Steady r)
    (stopped : lives inc ≡ Some Running → ⊥) where
  abbrev after : Object → Object
  after o = reaped_object inc o o.link

  -- a link after it: as it was, or gone with its server
  abbrev IsOver : Option Link → Option Link → Type 0
  IsOver before now = (now ≡ before) ⊎ ((now ≡ None) × ((l : Link) → before ≡ Some l → MayGo hostile acts0 lives l))

  over_at : (o : Object) (x : Option Link) → o.link ≡ x → IsOver o.link (reaped_object inc o x).link
  over_at o None e = inl refl
  over_at o (Some l) e = elim (l.inc == inc) as (λ b. (l.inc == inc) ≡ b
      → IsOver o.link (if b then record o { work = kept o; link = None } else o).link) [
        | true ↦ (λ t. inr (
          refl,
          (λ m g. let z : Some l ≡ Some m = sym e ∙ g in let lm : l ≡ m = cc in
              is_over (λ runs. stopped (ap lives (sym (ap (λ (v : Link). v.inc) (sym lm) ∙ eqb-true l.inc inc t))
              ∙ runs))),
        ))
        | false ↦ (λ t. inl refl)
      ] refl

  over_in : (x : Option Object) → IsOver (link_at x) (link_at (option_map after x))
  over_in None = inl refl
  over_in (Some o) = over_at o o.link refl

  over : EndsSome hostile (links_of r.objects) (links_of (reaped r inc).objects) acts0 lives
  over = record {
    each = λ n. subst (λ z. IsOver (links_of r.objects n) z)
        (sym (link_mapped after r.objects n (λ o. reaped_number inc o o.link)))
        (over_in (find (is_object n) r.objects));
  }

  taken : (b : Bool) (m t : Took) → ◌≡◌ {A = Result Took ContainerFault} (if b then Ok m else Err NoSuch) (Ok t) → m ≡ t
  taken true m t g = cc
  taken false m t g = cc

  -- whoever waits for a frame that is free by it is told of its grant, and then storages may be asked for
  made_reaped : IsReaped hostile (links_of r.objects) (links_of (reap_made r inc).rec.objects) acts0 lives
      (sayings_of (reap_made r inc).answer.actions) × IsPlain r (reap_made r inc)
  made_reaped =
      let u = reaped r inc in
      let freed = record u { frames = map (freed_frame inc r.objects) u.frames } in
      let claims = freed_claims inc r.objects u.frames in
      let v = reaped_grants r inc in
      let rest = grants_keep claims freed in
      let waits : Waits (links_of u.objects) = waits_ended (links_of r.objects) (links_of u.objects) acts0 lives
      over (steady_waits r steady) in
      let granted = grants_asked claims freed waits in
      let rises : Rising u.objects = rises_same r.objects u.objects
      (map_map_same (λ (o : Object). o.number) after r.objects (λ o. reaped_number inc o o.link))
      (ordered_rise r.objects steady.order) in
      let orderly : IsOrderly v.rec = record {
        waits = turns_wait (links_of u.objects) (links_of v.rec.objects) (all_said v.sent) granted waits;
        rises = rises_same u.objects v.rec.objects (grants_numbers claims freed) rises;
      } in
      let w = reaped_saving r inc in
      let k = all_handed v.rec orderly in
      let ms = v.sent ++ w.sent in (
        record {
          between = links_of u.objects;
          ends = over;
          asked = subst (AsksInTurn (links_of u.objects) (links_of w.rec.objects))
              (sym (sent_of ms 1 w.rec.objects w.rec.frames))
              (turns_further (links_of u.objects) (links_of v.rec.objects) (links_of w.rec.objects) v.sent w.sent
              granted k.asked);
        },
        record {
          last_act = k.last_act ∙ rest.last_act;
          servers = ap length (k.servers ∙ rest.servers) ∙ length_set_nth r.servers inc true;
          starts = λ session count. no_start session count ms (settle_actions w.rec)
              (no_start_settled session count 1 w.rec.objects w.rec.frames);
          ends = λ is. no_end ms (settle_actions w.rec) is (no_end_settled 1 w.rec.objects w.rec.frames is);
        },
      )

  pub reap_ends : (t : Took) → on_reap r inc ≡ Ok t → IsReaped hostile (links_of r.objects) (links_of t.rec.objects)
      acts0 lives (sayings_of t.answer.actions) × IsPlain r t
  reap_ends t e = subst (λ (x : Took). IsReaped hostile (links_of r.objects) (links_of x.rec.objects) acts0 lives
      (sayings_of x.answer.actions) × IsPlain r x) (taken (is_alive r inc) (reap_made r inc) t e) made_reaped
