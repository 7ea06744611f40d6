-- A file that is opened keeps a record steady.
use Rattle.std.proofs.Common.{◌≡◌, ◌≤◌, ◌+◌, ◌==◌, ◌++◌, ℕ, suc, Bool, true, false, List, [], ◌∷◌, length, Some, None}
use Rattle.std.proofs.Common.{Ok, refl, sym, ◌∙◌, ap, arith, subst, if◌then◌else◌}
use Rattle.std.proofs.lemmas.Bool.{ne_eqb}
use Rattle.std.specs.List.{AllByRecursion}
use Rattle.message_values.specs.Found.{nth}
use Rattle.tree_streams.specs.Limits.{is_within}
use Rattle.ole_model.specs.CompObjs.{PAST_USER_TYPE}
use Rattle.std.specs.Prelude.{nat_lt}
use Rattle.ole_model.specs.DocOf.{is_object}
use Rattle.ole_model.specs.declared.object.DocObject.{DocObject}
use Rattle.container_model.specs.declared.record.Frame.{Frame}
use Rattle.container_model.specs.declared.record.Object.{Object}
use Rattle.container_model.specs.Opens.{Given, opened, opened_frame, opened_object}
use Rattle.container_model.specs.Record.{Record, Took, MOST_OBJECTS, count_objects}
use Rattle.container_queues.specs.Steady.{Steady, SteadyObject}
use Rattle.container_steady.proofs.Opening.{each_opened, framed, is_opened, nth_last, nth_past, one_opened}
use Rattle.container_steady.proofs.SteadyCounts.{count_append}
use Rattle.container_steady.proofs.SteadyRecords.{some_and, Held}
use Rattle.container_steady.proofs.SteadyTells.{and_both}
use Rattle.container_commands.proofs.SteadyCommands.{frame_steady, object_steady}

-- no object is in a frame that isn't there
pub elsewhere : (r : Record) (o : Object) → SteadyObject r o → o.frame ≡ length r.frames + 1 → ⊥
elsewhere r o h e =
    let s = some_and (Held r o.number o.link) (nth r.frames o.frame) h.linked in
    let none : nth r.frames o.frame ≡ None = ap (nth r.frames) e ∙ nth_past r.frames in
    let no = sym none ∙ s.1 in
    cc

none_in : (r : Record) (os : List Object) → AllByRecursion (SteadyObject r) os
    → count_objects (length r.frames + 1) os ≡ 0
none_in r [] h = refl
none_in r (o ∷ os) h = rw (ne_eqb o.frame (length r.frames + 1) (elsewhere r o h.0)) (none_in r os h.1)

-- a frame that is there, with room for so many objects more
record HasPlaces (f : ℕ) (frame : Frame) (n : ℕ) (r : Record) : Type 0 where
  steady : Steady r
  there : nth r.frames f ≡ Some frame
  room : count_objects f r.objects + n ≤ MOST_OBJECTS

one_more : (f : ℕ) (frame : Frame) (n : ℕ) (r : Record) (d : DocObject) → is_object d ≡ true
    → HasPlaces f frame (suc n) r → HasPlaces f frame n (one_opened r f d)
one_more f frame n r d held h =
    let a : Object = opened_object (r.last_object + 1) f d in
    let fits = and_both (is_within d.stored) (nat_lt (length d.user_type) PAST_USER_TYPE) held in
    let before = h.room in
    let counted : count_objects f (r.objects ++ a ∷ []) ≡ count_objects f r.objects + (if f == f then 1 else 0) =
    count_append f a r.objects in
    let most : (b : Bool) → (count_objects f r.objects + (if b then 1 else 0)) + n ≤ MOST_OBJECTS =
    λ b. elim b as (λ z. (count_objects f r.objects + (if z then 1 else 0)) + n ≤ MOST_OBJECTS) [
      | true ↦
          omega (arith, before)
      | false ↦ omega (arith, before)
    ] in
    record {
      steady = object_steady r a frame h.steady refl refl h.there fits.0 fits.1 (omega (arith, before));
      there = h.there;
      room = subst (λ (m : ℕ). m + n ≤ MOST_OBJECTS) (sym counted) (most (f == f));
    }

pub opened_keeps : (r : Record) (name : List ℕ) (w h : ℕ) (given : Given) (t : Took) → Steady r
    → opened r name w h given ≡ Ok t → Steady t.rec
opened_keeps r name w h given t s e =
    let o = is_opened r name w h given t e in
    let frame : Frame = opened_frame name w h o.d.session in
    let f : ℕ = length r.frames + 1 in
    let empty : count_objects f r.objects ≡ 0 = none_in r r.objects s.objects in
    let most = o.most in
    let places : HasPlaces f frame (length o.d.objects) (framed r frame) = record {
      steady = frame_steady r frame s (record { asked = refl }) refl;
      there = nth_last r.frames frame;
      room = subst (λ (m : ℕ). m + length o.d.objects ≤ MOST_OBJECTS) (sym empty) (omega (arith, most));
    } in
    subst (λ (z : Took). Steady z.rec) o.made
    (each_opened (HasPlaces f frame) f (one_more f frame) o.d.objects (framed r frame) o.within places).steady
