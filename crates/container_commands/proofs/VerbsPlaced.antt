-- An object and its frame, where they stand in their container.
use Rattle.std.proofs.Common.{◌≡◌, ◌<◌, ℕ, length, Result, Option, Some, None, Ok, get_or, set, refl, sym, ◌∙◌, ap}
use Rattle.std.proofs.Common.{subst, IfSome, slice_get}
use Rattle.std.proofs.lemmas.Option.{slice_get_read}
use Rattle.message_values.specs.Found.{IsPlace, put, set_nth}
use Rattle.container_model.specs.declared.answer.Answer.{Answer}
use Rattle.container_model.specs.declared.fault.ContainerFault.{ContainerFault}
use Rattle.container_model.specs.declared.record.Frame.{Frame}
use Rattle.container_model.specs.declared.record.Object.{Object}
use Rattle.container_model.specs.Numbered.{IsNth, IsObjectAt}
use Rattle.container_model.specs.Record.{Record, Took, counts_none, is_object, with_frame, with_object}

-- the object and the frame that stand there
pub object_here : (s r : Record) (i : ℕ) (x : Object) → s ≡ r → i < length r.objects → x ≡ get_or s.objects i x
    → slice_get r.objects i ≡ Some x
object_here s r i x e lt at = slice_get_read r.objects (length r.objects) i x refl lt
    (at ∙ ap (λ t. get_or t.objects i x) e)

pub frame_here : (s r : Record) (at : ℕ) (y : Frame) → s ≡ r → at < length r.frames → y ≡ get_or s.frames at y
    → slice_get r.frames at ≡ Some y
frame_here s r at y e lt is = slice_get_read r.frames (length r.frames) at y refl lt
    (is ∙ ap (λ t. get_or t.frames at y) e)

pub in_frame : (r : Record) (i at : ℕ) (x : Object) → slice_get r.objects i ≡ Some x
    → IfSome (slice_get r.objects i) (λ o. IsNth o.frame r.frames at) → IsNth x.frame r.frames at
in_frame r i at x e p = subst (λ t. IfSome t (λ o. IsNth o.frame r.frames at)) e p

pub own_here : (r : Record) (i : ℕ) (x : Object) → slice_get r.objects i ≡ Some x → IsObjectAt r.objects i
    → IsPlace (is_object x.number) r.objects i
own_here r i x e p = subst (λ t. IfSome t (λ o. IsPlace (is_object o.number) r.objects i)) e p.own

pub both_here : (P : Object → Frame → Type 0) (r : Record) (i at : ℕ) (x : Object) (y : Frame)
    → slice_get r.objects i ≡ Some x → slice_get r.frames at ≡ Some y → P x y
    → IfSome (slice_get r.objects i) (λ o. IfSome (slice_get r.frames at) (λ f. P o f))
both_here P r i at x y ex ey p = rw (ex, ey) p

-- both changed
pub both_changed : (s r u : Record) (i at : ℕ) (x x2 : Object) (y2 : Frame) → s ≡ r
    → IsPlace (is_object x.number) r.objects i → IsNth x.frame r.frames at → x2.number ≡ x.number
    → u ≡ record s { frames = set s.frames at y2; objects = set s.objects i x2 }
    → with_object (with_frame r x.frame y2) x2 ≡ u
both_changed s r u i at x x2 y2 e p q number is =
    let os : put (is_object x2.number) x2 r.objects ≡ set s.objects i x2 =
    ap (λ n. put (is_object n) x2 r.objects) number ∙ (p.puts x2 ∙ ap (λ t. set t.objects i x2) (sym e)) in
    let fs : set_nth r.frames x.frame y2 ≡ set s.frames at y2 = q.puts y2 ∙ ap (λ t. set t.frames at y2) (sym e) in
    let a : with_object (with_frame r x.frame y2) x2 ≡ record r {
      frames = set s.frames at y2;
      objects = set s.objects i x2;
    } = λ t. record r { frames = fs t; objects = os t } in
    let b : (record r { frames = set s.frames at y2; objects = set s.objects i x2 })
    ≡ (record s { frames = set s.frames at y2; objects = set s.objects i x2 }) =
    ap {A = Record} (λ t. record t { frames = set s.frames at y2; objects = set s.objects i x2 }) (sym e) in
    a ∙ (b ∙ sym is)

-- and so a step of both is the container's
pub both_taken : (told : Result Took ContainerFault) (q u : Record) (a b : Answer) → told ≡ Ok (counts_none q a)
    → q ≡ u → b ≡ a → told ≡ Ok (counts_none u b)
both_taken told q u a b e is same = e ∙ (ap (λ t. Ok (counts_none t a)) is ∙ ap (λ t. Ok (counts_none u t)) (sym same))

pub at_both : (P : Object → Frame → Type 0) (r : Record) (i at : ℕ) (x : Object) (y : Frame)
    → slice_get r.objects i ≡ Some x → slice_get r.frames at ≡ Some y
    → IfSome (slice_get r.objects i) (λ o. IfSome (slice_get r.frames at) (λ f. P o f)) → P x y
at_both P r i at x y ex ey h = subst (λ t. IfSome t (P x)) ey
    (subst (λ t. IfSome t (λ o. IfSome (slice_get r.frames at) (λ f. P o f))) ex h)

-- what holds of the object and the frame that stand there gives what holds of them
pub each_both : (P Q : Object → Frame → Type 0) (xo : Option Object) (xf : Option Frame) (y : Frame) → xf ≡ Some y
    → ((o : Object) → P o y → Q o y) → IfSome xo (λ o. IfSome xf (λ f. P o f))
    → IfSome xo (λ o. IfSome xf (λ f. Q o f))
each_both P Q None xf y e k h = tt
each_both P Q (Some o) xf y e k h = subst (λ (z : Option Frame). IfSome z (λ f. Q o f)) (sym e)
    (k o (subst (λ (z : Option Frame). IfSome z (λ f. P o f)) e h))
