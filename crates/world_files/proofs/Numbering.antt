-- The objects of a steady record have numbers of their own, which were drawn, and their frames are there.
use Rattle.std.proofs.Common.{◌≡◌, ◌≢◌, ◌<◌, ◌≤◌, List, [], ◌∷◌, map, sym, ap, ◌∙◌, inl, inr, arith, subst}
use Rattle.std.specs.Prelude.{IfSome}
use Rattle.std.specs.List.{AllByRecursion}
use Rattle.message_values.specs.Found.{nth}
use Rattle.container_model.specs.declared.record.Object.{Object}
use Rattle.container_model.specs.declared.record.Frame.{Frame}
use Rattle.container_model.specs.Record.{Record}
use Rattle.container_queues.specs.Steady.{EachPair, InOrder, SteadyLink, SteadyObject, Steady}
use Rattle.container_queues.specs.Roles.{role_in}
use Rattle.container_steady.proofs.SteadyRecords.{some_and}
use Rattle.world_model.specs.Safe.{Among}
use Rattle.world_files.specs.Files.{Id, id_of, Distinct, AreNumbered}
use Rattle.world_facts.proofs.Lookups.{among_mapped}

pub each_among : {A : Type 0} (P : A → Type 0) (xs : List A) (x : A) → AllByRecursion P xs → Among xs x → P x
each_among P [] x h g = absurd g
each_among P (y ∷ ys) x h (inl e) = subst P (sym e) h.0
each_among P (y ∷ ys) x h (inr g) = each_among P ys x h.1 g

apart_from : (o : Object) (os : List Object) → AllByRecursion (InOrder o) os → (y : Id) → Among (map id_of os) y
    → o.number ≢ y.number
apart_from o os h y g q =
    let m = among_mapped id_of os y g in
    let up : o.number < m.0.number = (each_among (InOrder o) os m.0 h m.1).rising in
    let e : y.number ≡ m.0.number = ap (λ (z : Id). z.number) m.2 in
    absurd (omega arith)

pub distinct_ordered : (os : List Object) → EachPair InOrder os → Distinct (map id_of os)
distinct_ordered [] h = tt
distinct_ordered (o ∷ os) h = (apart_from o os h.0, distinct_ordered os h.1)

pub numbered : (r : Record) → Steady r → AreNumbered r.frames (map id_of r.objects) r.last_object
numbered r s = record {
  distinct = distinct_ordered r.objects s.order;
  drawn = λ x g. (let m = among_mapped id_of r.objects x g in
      let le : m.0.number ≤ r.last_object = (each_among (SteadyObject r) r.objects m.0 s.objects m.1).drawn in
      subst (λ n. n ≤ r.last_object) (sym (ap (λ (z : Id). z.number) m.2)) le);
  placed = λ x g. (let m = among_mapped id_of r.objects x g in
      let p =
      some_and (λ (frame : Frame). IfSome m.0.link
      (SteadyLink r.servers r.last_act frame.phase frame.asked frame.k (role_in frame.ui.state m.0.number)))
      (nth r.frames m.0.frame) (each_among (SteadyObject r) r.objects m.0 s.objects m.1).linked in
      (p.0, ap (λ (z : Id). nth r.frames z.frame) m.2 ∙ p.1));
}
