-- A file that is opened: its objects are passive, so no link changes, and nothing is sent.
use Rattle.std.proofs.Common.{◌≡◌, ◌==◌, ℕ, ◌+◌, true, false, List, [], ◌∷◌, ◌++◌, Some, None, Ok, refl, subst}
use Rattle.std.proofs.Common.{if◌then◌else◌}
use Rattle.message_values.specs.Found.{find}
use Rattle.ole_model.specs.declared.object.DocObject.{DocObject}
use Rattle.container_model.specs.declared.record.Object.{Object}
use Rattle.container_model.specs.Record.{Record, Took, is_object}
use Rattle.container_model.specs.Opens.{Given, opened, opened_object, opened_objects}
use Rattle.container_steady.proofs.Opening.{is_opened}
use Rattle.world_model.specs.Safe.{link_at, links_of}
use Rattle.world_facts.specs.Shapes.{AsksAll, IsQuiet}
use Rattle.world_facts.specs.Words.{sayings_of}
use Rattle.world_steps.specs.Steps.{IsPlain}
use Rattle.world_steps.proofs.Asking.{none_asked}

opened_unlinked : (last f : ℕ) (ds : List DocObject) (n : ℕ) → links_of (opened_objects last f ds) n ≡ None
opened_unlinked last f [] n = refl
opened_unlinked last f (d ∷ ds) n =
    let o = opened_object (last + 1) f d in
    elim (o.number == n) as (λ b. link_at (if b then Some o
    else find (is_object n) (opened_objects (last + 1) f ds)) ≡ None) [
      | true ↦ refl
      | false ↦
          opened_unlinked (last + 1) f ds n
    ]

links_opened : (os : List Object) (last f : ℕ) (ds : List DocObject) (n : ℕ)
    → links_of (os ++ opened_objects last f ds) n ≡ links_of os n
links_opened [] last f ds n = opened_unlinked last f ds n
links_opened (z ∷ os) last f ds n =
    elim (z.number == n) as (λ b. link_at (if b then Some z
    else find (is_object n) (os ++ opened_objects last f ds))
    ≡ link_at (if b then Some z else find (is_object n) os)) [ true ↦ refl | false ↦ links_opened os last f ds n ]

pub open_asks : (r : Record) (name : List ℕ) (w h : ℕ) (given : Given) (t : Took) → opened r name w h given ≡ Ok t
    → AsksAll (λ o op. IsQuiet op) (links_of r.objects) (links_of t.rec.objects) (sayings_of t.answer.actions)
    × IsPlain r t
open_asks r name w h given t e =
    let k = is_opened r name w h given t e in
    subst (λ (v : Took). AsksAll (λ o op. IsQuiet op) (links_of r.objects) (links_of v.rec.objects)
    (sayings_of v.answer.actions) × IsPlain r v) k.made (
      none_asked (links_of r.objects) _ (links_opened r.objects r.last_object _ k.d.objects),
      record { last_act = refl; servers = refl; starts = λ session numbers. refl; ends = λ is. refl },
    )
