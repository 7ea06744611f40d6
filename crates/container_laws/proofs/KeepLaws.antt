-- The end of a server leaves other objects as they are, but for those that waited for their frames.
use Rattle.std.proofs.Common.{◌≡◌, inl, inr, ℕ, zero, suc, ◌==◌, Bool, true, false, List, [], ◌∷◌, map, Option, Some}
use Rattle.std.proofs.Common.{None, Result, Ok, Err, slice_get, refl, sym, ap, ◌∙◌, subst, if◌then◌else◌, arith, eq-eqb}
use Rattle.std.proofs.Common.{◌+◌}
use Rattle.std.proofs.lemmas.Bool.{eqb-true, eqb-false, ne_eqb}
use Rattle.std.specs.List.{AllByRecursion}
use Rattle.message_values.specs.Found.{find, nth, put}
use Rattle.message_values.specs.declared.operation.Operation.{Operation}
use Rattle.message_values.specs.declared.operation.Operation.TheVariants.{UiActivate}
use Rattle.object_state.specs.Grants.{waiting}
use Rattle.object_state.specs.declared.grant_states.Claim.{Claim}
use Rattle.container_model.specs.declared.record.Object.{Object}
use Rattle.container_model.specs.declared.record.Frame.{Frame}
use Rattle.container_model.specs.declared.fault.ContainerFault.{ContainerFault}
use Rattle.container_model.specs.declared.fault.ContainerFault.TheVariants.{NoSuch}
use Rattle.container_model.specs.Grants.{grant_each, is_hosted, is_hosted_object, requested}
use Rattle.container_model.specs.Record.{Record, Took, asked_link, is_alive, is_object, with_object}
use Rattle.container_model.specs.Saves.{kept}
use Rattle.container_model.specs.Messages.{on_reap, reap_made, reaped_grants, reaped_object, reaped_saving}
use Rattle.container_laws.specs.Laws.{StaysOrIsGranted}
use Rattle.container_queues.specs.Roles.{IsClaim}
use Rattle.container_queues.specs.Steady.{EachPair, InOrder, Steady}
use Rattle.container_steps.proofs.SteadyFates.{Hosted}
use Rattle.container_steady.proofs.SteadyFinds.{number_apart}
use Rattle.container_queues.proofs.SteadyLookups.{each_get, each_weaker, pairs_put}
use Rattle.container_steady.proofs.SteadyMoves.{each_unit}
use Rattle.container_steps.proofs.SteadyReaps.{ClaimsApart, Passing, claims, each_own, freed_all, freed_pairs, gone}
use Rattle.container_steps.proofs.SteadyReaps.{gone_but, gone_link, passing, stays_object, waits_claim}
use Rattle.container_steady.proofs.SteadyRecords.{TookPlace, order_left, order_right}
use Rattle.container_steady.proofs.SteadyShapes.{Among}
use Rattle.container_steady.proofs.SteadyTests.{asked_follows, find_passes, found_numbered}
use Rattle.container_laws.proofs.WriteLaws.{taken_if}

-- what doesn't pass a test stays
pub put_keeps : {A : Type 0} (test : A → Bool) (a : A) (xs : List A) (i : ℕ) (x : A) → slice_get xs i ≡ Some x
    → test x ≡ false → slice_get (put test a xs) i ≡ Some x
put_keeps test a [] i x e f = e
put_keeps test a (y ∷ ys) zero x e f =
    let s : y ≡ x = cc in
    let g : test y ≡ false = rw s f in
    rw g e
put_keeps test a (y ∷ ys) (suc i) x e f =
    elim (test y) as (λ b. slice_get (if b then a ∷ ys else y ∷ put test a ys) (suc i) ≡ Some x) [
      | true ↦ e
      | false ↦ put_keeps test a ys i x e f
    ]

-- and what is put under a number stands in the place of the object of that number
pub put_here : (a : Object) (os : List Object) (i : ℕ) (o : Object) → EachPair InOrder os → slice_get os i ≡ Some o
    → slice_get (put (is_object o.number) a os) i ≡ Some a
put_here a [] i o h e = cc
put_here a (y ∷ ys) zero o h e =
    let same : y ≡ o = cc in
    subst (λ (z : Object). slice_get (put (is_object z.number) a (y ∷ ys)) 0 ≡ Some a) same
    (rw (eq-eqb y.number y.number refl) refl)
put_here a (y ∷ ys) (suc i) o h e = rw (number_apart y o (each_get (InOrder y) ys i o h.0 e)) (put_here a ys i o h.1 e)

pub asked_took : (op : Operation) (y : Object) → TookPlace (record y { link = asked_link op y.link }) y
asked_took op y = record { number = refl; frame = refl; link = asked_follows op y.link }

pub order_put : (os : List Object) (x a : Object) → EachPair InOrder os → find (is_object x.number) os ≡ Some x
    → TookPlace a x → EachPair InOrder (put (is_object x.number) a os)
order_put os x a h e t = pairs_put InOrder (λ (o : Object). Unit {0}) (is_object x.number) a x os
    (λ y p k. order_right y x a t k) (λ y p k. order_left y x a t k) h (each_unit os) e

-- an object that isn't named, and one that is, as grants are given
pub request_keeps : (v : Record) (op : Operation) (n : ℕ) (z : Option Object) (i : ℕ) (o : Object)
    → find (is_object n) v.objects ≡ z → (n ≡ o.number → ⊥) → slice_get v.objects i ≡ Some o
    → slice_get (requested v op z).rec.objects i ≡ Some o
request_keeps v op n None i o e ne at = at
request_keeps v op n (Some y) i o e ne at =
    let named = eqb-true y.number n (find_passes (is_object n) v.objects y e) in
    put_keeps (is_object y.number) (record y { link = asked_link op y.link }) v.objects i o at
    (ne_eqb o.number y.number (λ q. ne (sym (q ∙ named))))

pub request_order : (v : Record) (op : Operation) (n : ℕ) (z : Option Object) → find (is_object n) v.objects ≡ z
    → EachPair InOrder v.objects → EachPair InOrder (requested v op z).rec.objects
request_order v op n None e h = h
request_order v op n (Some y) e h = order_put v.objects y (record y { link = asked_link op y.link }) h
    (found_numbered n v.objects y e) (asked_took op y)

pub unnamed_keeps : (cs : List Claim) (v : Record) (i : ℕ) (o : Object)
    → AllByRecursion (λ (c : Claim). c.object ≡ o.number → ⊥) cs → slice_get v.objects i ≡ Some o
    → slice_get (grant_each v cs).rec.objects i ≡ Some o
unnamed_keeps [] v i o h at = at
unnamed_keeps (c ∷ cs) v i o h at =
    unnamed_keeps cs (requested v (UiActivate c.g) (find (is_object c.object) v.objects)).rec i o h.1
    (request_keeps v (UiActivate c.g) c.object (find (is_object c.object) v.objects) i o refl h.0 at)

-- what is told
pub data IsTold (cs : List Claim) (o later : Object) : Type 0 where
  as_before : later ≡ o → IsTold cs o later
  of_grant : (c : Claim) → Among cs c → c.object ≡ o.number
      → later ≡ record o { link = asked_link (UiActivate c.g) o.link } → IsTold cs o later

told_behind : (d : Claim) (cs : List Claim) (o later : Object) → IsTold cs o later → IsTold (d ∷ cs) o later
told_behind d cs o later (as_before e) = as_before e
told_behind d cs o later (of_grant c a n e) = of_grant c (inr a) n e

pub grants_tell : (cs : List Claim) (v : Record) (i : ℕ) (o : Object) → EachPair ClaimsApart cs
    → EachPair InOrder v.objects → slice_get v.objects i ≡ Some o → (later : Object)
    × (slice_get (grant_each v cs).rec.objects i ≡ Some later) × IsTold cs o later
grants_tell [] v i o p h at = (o, at, as_before refl)
grants_tell (c ∷ cs) v i o p h at = elim (c.object == o.number) as (λ b. (c.object == o.number) ≡ b
    → (later : Object) × (slice_get (grant_each v (c ∷ cs)).rec.objects i ≡ Some later) × IsTold (c ∷ cs) o later) [
      | true ↦ (λ e.
          let named : c.object ≡ o.number = eqb-true c.object o.number e in
          let asked : Object = record o { link = asked_link (UiActivate c.g) o.link } in
          let found : find (is_object c.object) v.objects ≡ Some o = ap (λ (n : ℕ). find (is_object n) v.objects) named
          ∙ each_get (λ (x : Object). find (is_object x.number) v.objects ≡ Some x) v.objects i o
          (each_own v.objects h) at in
          let stays : slice_get (grant_each (with_object v asked) cs).rec.objects i ≡ Some asked =
          unnamed_keeps cs (with_object v asked) i asked
          (each_weaker (ClaimsApart c) (λ (d : Claim). d.object ≡ o.number → ⊥) cs
          (λ d apart q. apart (named ∙ sym q)) p.0) (put_here asked v.objects i o h at) in (
            asked,
            subst (λ (z : Option Object). slice_get
                (grant_each (requested v (UiActivate c.g) z).rec cs).rec.objects i ≡ Some asked) (sym found) stays,
            of_grant c (inl refl) named refl,
          ))
      | false ↦ (λ e.
          let z = find (is_object c.object) v.objects in
          let rest = grants_tell cs (requested v (UiActivate c.g) z).rec i o p.1
          (request_order v (UiActivate c.g) c.object z refl h)
          (request_keeps v (UiActivate c.g) c.object z i o refl (eqb-false c.object o.number e) at) in
          (rest.0, rest.1, told_behind c cs o rest.0 rest.2))
    ] refl

pub all_among : {A : Type 0} (P : A → Type 0) (xs : List A) (x : A) → AllByRecursion P xs → Among xs x → P x
all_among P [] x h a = absurd a
all_among P (y ∷ ys) x h (inl e) = subst P (sym e) h.0
all_among P (y ∷ ys) x h (inr a) = all_among P ys x h.1 a

-- the end of a server
reaped_get : (inc : ℕ) (os : List Object) (i : ℕ) (o : Object) → slice_get os i ≡ Some o
    → slice_get (map (λ (x : Object). reaped_object inc x x.link) os) i ≡ Some (reaped_object inc o o.link)
reaped_get inc [] i o e = cc
reaped_get inc (y ∷ ys) zero o e = let s : y ≡ o = cc in rw s refl
reaped_get inc (y ∷ ys) (suc i) o e = reaped_get inc ys i o e

pub reap_objects : (r : Record) (inc : ℕ) (t : Took) → on_reap r inc ≡ Ok t
    → t.rec.objects ≡ (reaped_saving r inc).rec.objects
reap_objects r inc t e =
    let b = taken_if (is_alive r inc) (Ok (reap_made r inc)) NoSuch t e in
    sym (ap (λ (y : Result Took ContainerFault). elim y [ Ok z ↦ z.rec.objects | Err fault ↦ [] ]) b.1)

module _ (r : Record) (inc : ℕ) (s : Steady r) where
  -- whoever is granted a frame by it waited, in its frame
  record Granted (c : Claim) : Type 0 where
    f : ℕ
    frame : Frame
    at : nth r.frames f ≡ Some frame
    passes : Passing r inc s f frame c

  all_granted : AllByRecursion Granted (claims r inc s)
  all_granted = freed_all inc r.objects Granted r.frames
      (λ i frame c at e. record {
        f = suc i;
        frame = frame;
        at = at;
        passes = passing r inc s (suc i) frame c at e;
      })

  apart : EachPair ClaimsApart (claims r inc s)
  apart = freed_pairs r inc 1 r.objects r.frames
      (λ i frame c at e. (let same : suc i ≡ 1 + i = omega arith in
      subst (λ (n : ℕ). IsClaim r n c) same
      (waits_claim r inc s (suc i) frame c at (passing r inc s (suc i) frame c at e))))

  in_order : EachPair InOrder (gone r inc s).objects
  in_order = (gone_but r inc s).order

  own : (i : ℕ) (o : Object) → slice_get r.objects i ≡ Some o → find (is_object o.number) r.objects ≡ Some o
  own i o at = each_get (λ (x : Object). find (is_object x.number) r.objects ≡ Some x) r.objects i o
      (each_own r.objects s.order) at

  is_told : (o later : Object) (i : ℕ) → slice_get r.objects i ≡ Some o → IsTold (claims r inc s) o later
      → StaysOrIsGranted r o later
  is_told o later i at (as_before e) = inl e
  is_told o later i at (of_grant c a named e) =
      let g = all_among Granted (claims r inc s) c all_granted a in
      let k = waits_claim r inc s g.f g.frame c g.at g.passes in
      let both = sym k.found ∙ (ap (λ (n : ℕ). find (is_object n) r.objects) named ∙ own i o at) in
      let same : k.object ≡ o = cc in
      inr (record {
        frame = g.frame;
        claim = c;
        inside = ap (λ (x : Object). nth r.frames x.frame) (sym same) ∙ (ap (nth r.frames) k.inside ∙ g.at);
        waited = ap waiting g.passes.was;
        named = named;
        told = e;
      })

  pub others_stay : (i : ℕ) (o : Object) → slice_get r.objects i ≡ Some o → is_hosted inc o.link ≡ false
      → (later : Object) × (slice_get (reaped_grants r inc).rec.objects i ≡ Some later) × StaysOrIsGranted r o later
  others_stay i o at other =
      let here : slice_get (gone r inc s).objects i ≡ Some o = reaped_get inc r.objects i o at
      ∙ ap (λ (x : Object). Some x) (stays_object inc o o.link other) in
      let t = grants_tell (claims r inc s) (gone r inc s) i o apart in_order here in
      (t.0, t.1, is_told o t.0 i at t.2)

  not_named : (o : Object) (i : ℕ) → slice_get r.objects i ≡ Some o → is_hosted inc o.link ≡ true → (c : Claim)
      → Granted c → c.object ≡ o.number → ⊥
  not_named o i at theirs c g named =
      let gone : Hosted inc r.objects c ≡ true = ap (λ (n : ℕ). is_hosted_object inc (find (is_object n) r.objects))
      named ∙ (ap (is_hosted_object inc) (own i o at) ∙ theirs) in
      let no = sym gone ∙ g.passes.still in
      cc

  pub theirs_end : (i : ℕ) (o : Object) → slice_get r.objects i ≡ Some o → is_hosted inc o.link ≡ true
      → slice_get (reaped_grants r inc).rec.objects i ≡ Some (record o { work = kept o; link = None })
  theirs_end i o at theirs =
      let ended : Object = record o { work = kept o; link = None } in
      let here : slice_get (gone r inc s).objects i ≡ Some ended = reaped_get inc r.objects i o at
      ∙ ap (λ (x : Object). Some x) (gone_link inc o o.link theirs) in
      unnamed_keeps (claims r inc s) (gone r inc s) i ended
      (each_weaker Granted (λ (c : Claim). c.object ≡ o.number → ⊥) (claims r inc s) (not_named o i at theirs)
      all_granted) here
