-- An object and its frame, where they stand, and the steps that are taken of both.
use Rattle.std.proofs.Common.{◌≡◌, ◌<◌, ◌||◌, ℕ, zero, suc, arith, true, false, List, [], ◌∷◌, length, Result, Option}
use Rattle.std.proofs.Common.{Some, None, Err, IfSome, IsSomeAnd, get_or, refl, sym, ◌∙◌, ap, subst, slice_get}
use Rattle.message_values.specs.Found.{IsPlace}
use Rattle.container_model.specs.declared.fault.ContainerFault.{ContainerFault}
use Rattle.container_model.specs.declared.fault.ContainerFault.TheVariants.{InDoubt, Busy}
use Rattle.container_model.specs.declared.record.Frame.{Frame}
use Rattle.container_model.specs.declared.record.Object.{Object}
use Rattle.container_model.specs.Numbered.{IsNth}
use Rattle.container_model.specs.Record.{Record, Took, is_busy, is_doubtful, is_object, is_saving, unless}
use Rattle.container_commands.proofs.VerbsPlaced.{frame_here, in_frame, object_here}
use Rattle.container_model.specs.Located.{located, located_at, located_in, ready}

-- what stands at a place
item_at : {A : Type 0} (xs : List A) (i : ℕ) → i < length xs → (x : A) × (slice_get xs i ≡ Some x)
item_at [] i lt = absurd (omega arith)
item_at (x ∷ xs) zero lt = (x, refl)
item_at (x ∷ xs) (suc i) lt = item_at xs i (omega arith)

-- the frame of the object that stands there
pub framed : (s r : Record) (i at : ℕ) (fs : List Frame) (x : Object) → s ≡ r → fs ≡ s.frames → i < length r.objects
    → x ≡ get_or s.objects i x → IsNth x.frame fs at
    → IfSome (slice_get r.objects i) (λ o. IsNth o.frame r.frames at)
framed s r i at fs x e ef lt is p =
    let here : slice_get r.objects i ≡ Some x = object_here s r i x e lt is in
    subst (λ t. IfSome t (λ o. IsNth o.frame r.frames at)) (sym here)
    (subst (λ (ys : List Frame). IsNth x.frame ys at) (ef ∙ ap (λ (t : Record). t.frames) e) p)

both_and : (P : Object → Frame → Type 0) (xo : Option Object) (xf : Option Frame) (x : Object) (y : Frame)
    → xo ≡ Some x → xf ≡ Some y → P x y → IsSomeAnd xo (λ o. IsSomeAnd xf (λ f. P o f))
both_and P xo xf x y ex ey p = rw (ex, ey) p

-- a step is taken of the two that stand there
pub stands : (s r : Record) (n i at : ℕ) (os : List Object) (fs : List Frame) (x : Object) → s ≡ r → os ≡ s.objects
    → fs ≡ s.frames → IsPlace (is_object n) os i → x ≡ get_or s.objects i x → IsNth x.frame fs at
    → IsSomeAnd (slice_get r.objects i)
    (λ o. IsSomeAnd (slice_get r.frames at) (λ f. (step : Object → Frame → Result Took ContainerFault)
    → located r n step ≡ step o f))
stands s r n i at os fs x e eo ef p is q =
    let place : IsPlace (is_object n) r.objects i = subst (λ (xs : List Object). IsPlace (is_object n) xs i)
    (eo ∙ ap (λ (t : Record). t.objects) e) p in
    let here : slice_get r.objects i ≡ Some x = object_here s r i x e place.fits is in
    let number : IsNth x.frame r.frames at = subst (λ (ys : List Frame). IsNth x.frame ys at)
    (ef ∙ ap (λ (t : Record). t.frames) e) q in
    let y : (f : Frame) × (slice_get r.frames at ≡ Some f) = item_at r.frames at number.fits in
    both_and (λ o f. (step : Object → Frame → Result Took ContainerFault) → located r n step ≡ step o f)
    (slice_get r.objects i) (slice_get r.frames at) x y.0 here y.1
    (λ step. ap (located_at step r.frames) (place.found ∙ here) ∙ ap (located_in step x) (number.found ∙ y.1))

-- why an object isn't asked, and when it is
pub in_doubt : (step : Object → Frame → Result Took ContainerFault) (o : Object) (f : Frame)
    → is_doubtful f.phase ≡ true → ready step o f ≡ Err InDoubt
in_doubt step o f d = ap (λ b. unless b InDoubt (unless (is_saving f.phase || is_busy f.ui.state o) Busy (step o f))) d

settled : (step : Object → Frame → Result Took ContainerFault) (o : Object) (f : Frame)
    → is_doubtful f.phase ≡ false → ready step o f ≡ unless (is_saving f.phase || is_busy f.ui.state o) Busy
    (step o f)
settled step o f d = ap (λ b. unless b InDoubt (unless (is_saving f.phase || is_busy f.ui.state o) Busy (step o f))) d

pub saving : (step : Object → Frame → Result Took ContainerFault) (o : Object) (f : Frame)
    → is_doubtful f.phase ≡ false → is_saving f.phase ≡ true → ready step o f ≡ Err Busy
saving step o f d s = settled step o f d ∙ ap (λ b. unless (b || is_busy f.ui.state o) Busy (step o f)) s

idle : (step : Object → Frame → Result Took ContainerFault) (o : Object) (f : Frame) → is_doubtful f.phase ≡ false
    → is_saving f.phase ≡ false → ready step o f ≡ unless (is_busy f.ui.state o) Busy (step o f)
idle step o f d s = settled step o f d ∙ ap (λ b. unless (b || is_busy f.ui.state o) Busy (step o f)) s

pub busy : (step : Object → Frame → Result Took ContainerFault) (o : Object) (f : Frame)
    → is_doubtful f.phase ≡ false → is_saving f.phase ≡ false → is_busy f.ui.state o ≡ true
    → ready step o f ≡ Err Busy
busy step o f d s b = idle step o f d s ∙ ap (λ t. unless t Busy (step o f)) b

pub fine : (step : Object → Frame → Result Took ContainerFault) (o : Object) (f : Frame)
    → is_doubtful f.phase ≡ false → is_saving f.phase ≡ false → is_busy f.ui.state o ≡ false
    → ready step o f ≡ step o f
fine step o f d s b = idle step o f d s ∙ ap (λ t. unless t Busy (step o f)) b

-- what stands there, and what holds of a step there holds of the step
pub and_both : (P Q : Object → Frame → Type 0) (xo : Option Object) (xf : Option Frame)
    → IsSomeAnd xo (λ o. IsSomeAnd xf (λ f. P o f))
    → ((o : Object) (f : Frame) → xo ≡ Some o → xf ≡ Some f → P o f → Q o f)
    → IsSomeAnd xo (λ o. IsSomeAnd xf (λ f. Q o f))
and_both P Q None xf h k = absurd h
and_both P Q (Some o) None h k = absurd h
and_both P Q (Some o) (Some f) h k = k o f refl refl h

module _ (T : Result Took ContainerFault → Type 0) (told : Result Took ContainerFault)
    (step : Object → Frame → Result Took ContainerFault) where
  pub by_both : (xo : Option Object) (xf : Option Frame) → IsSomeAnd xo (λ o. IsSomeAnd xf (λ f. told ≡ step o f))
      → IfSome xo (λ o. IfSome xf (λ f. T (step o f))) → T told
  by_both None xf h k = absurd h
  by_both (Some o) None h k = absurd h
  by_both (Some o) (Some f) h k = subst T (sym h) k

pub by_object : (T : Result Took ContainerFault → Type 0) (told : Result Took ContainerFault)
    (step : Object → Result Took ContainerFault) (xo : Option Object) (xf : Option Frame)
    → IsSomeAnd xo (λ o. IsSomeAnd xf (λ f. told ≡ step o)) → IfSome xo (λ o. T (step o)) → T told
by_object T told step None xf h k = absurd h
by_object T told step (Some o) None h k = absurd h
by_object T told step (Some o) (Some f) h k = subst T (sym h) k

-- the same of a step that waits
pub stood : (r : Record) (n i at : ℕ) (step : Object → Frame → Result Took ContainerFault)
    (told : Result Took ContainerFault) → told ≡ located r n (ready step)
    → IsSomeAnd (slice_get r.objects i)
    (λ o. IsSomeAnd (slice_get r.frames at) (λ f. (st : Object → Frame → Result Took ContainerFault)
    → located r n (ready st) ≡ st o f))
    → IsSomeAnd (slice_get r.objects i) (λ o. IsSomeAnd (slice_get r.frames at) (λ f. told ≡ step o f))
stood r n i at step told is h =
    and_both (λ o f. (st : Object → Frame → Result Took ContainerFault) → located r n (ready st) ≡ st o f)
    (λ o f. told ≡ step o f) (slice_get r.objects i) (slice_get r.frames at) h (λ o f eo ef p. is ∙ p step)

-- what was read there
at_and : (P : Object → Frame → Type 0) (xo : Option Object) (xf : Option Frame) (x : Object) (y : Frame)
    → xo ≡ Some x → xf ≡ Some y → IsSomeAnd xo (λ o. IsSomeAnd xf (λ f. P o f)) → P x y
at_and P xo xf x y ex ey h = subst (λ t. IsSomeAnd t (P x)) ey
    (subst (λ t. IsSomeAnd t (λ o. IsSomeAnd xf (λ f. P o f))) ex h)

module _ (P : Object → Frame → Type 0) (s r : Record) (i at : ℕ) (x : Object) (y : Frame) (e : s ≡ r)
    (lt : i < length r.objects) (fr : IfSome (slice_get r.objects i) (λ o. IsNth o.frame r.frames at))
    (ex : x ≡ get_or s.objects i x) (ey : y ≡ get_or s.frames at y) where
  here : slice_get r.objects i ≡ Some x
  here = object_here s r i x e lt ex

  there : slice_get r.frames at ≡ Some y
  there = let p : IsNth x.frame r.frames at = in_frame r i at x here fr in frame_here s r at y e p.fits ey

  pub at_there : IsSomeAnd (slice_get r.objects i) (λ o. IsSomeAnd (slice_get r.frames at) (λ f. P o f)) → P x y
  at_there h = at_and P (slice_get r.objects i) (slice_get r.frames at) x y here there h

  pub to_there : P x y → IsSomeAnd (slice_get r.objects i) (λ o. IsSomeAnd (slice_get r.frames at) (λ f. P o f))
  to_there p = both_and P (slice_get r.objects i) (slice_get r.frames at) x y here there p
