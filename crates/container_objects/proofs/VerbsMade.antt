-- What verbs and closes make of an object and its frame.
use Rattle.std.proofs.Common.{◌≡◌, ℕ, zero, suc, Bool, true, false, not, List, [], ◌∷◌, Some, None, Ok, refl, ap, sym}
use Rattle.std.proofs.Common.{◌∙◌, slice_get, if◌then◌else◌}
use Rattle.std.specs.Prelude.{slice_set}
use Rattle.message_values.specs.Found.{nth, set_nth}
use Rattle.object_state.specs.Verbs.{close_steps}
use Rattle.object_state.specs.declared.operations.CloseOption.{CloseOption}
use Rattle.object_state.specs.declared.verbs.Step.{Step}
use Rattle.container_model.specs.declared.answer.Action.{Action}
use Rattle.container_model.specs.declared.fault.ContainerFault.TheVariants.{NumbersSpent}
use Rattle.container_model.specs.declared.record.Frame.{Frame}
use Rattle.container_model.specs.declared.record.Link.{Link}
use Rattle.container_model.specs.declared.record.Object.{Object}
use Rattle.container_model.specs.Record.{Record, acts, counts_none, has_numbers, sends, unless, with_frame, with_object}
use Rattle.container_model.specs.Verbs.{close_linked, close_steps_made, gives_up, leaving_made, left, stepped_link}
use Rattle.container_objects.specs.Stepping.{left_frame, given_up}

-- an item in its own place changes nothing
slice_same : {A : Type 0} (xs : List A) (i : ℕ) (x : A) → slice_get xs i ≡ Some x → slice_set xs i x ≡ xs
slice_same [] i x e = refl
slice_same (y ∷ ys) zero x e = ap (λ p. elim p [ None ↦ y ∷ ys | Some z ↦ z ∷ ys ]) (sym e)
slice_same (y ∷ ys) (suc i) x e = ap (λ zs. y ∷ zs) (slice_same ys i x e)

pub set_same : {A : Type 0} (xs : List A) (n : ℕ) (x : A) → nth xs n ≡ Some x → set_nth xs n x ≡ xs
set_same xs zero x e = refl
set_same xs (suc i) x e = slice_same xs i x e

-- an object that leaves its frame changes that frame alone
left_by : (r : Record) (frame : Frame) (o : Object) (l : Link) (b : Bool) → nth r.frames o.frame ≡ Some frame
    → (if b then with_frame r o.frame (given_up o.number l.act frame) else r)
    ≡ with_frame r o.frame (if b then given_up o.number l.act frame else frame)
left_by r frame o l true e = refl
left_by r frame o l false e = ap (λ fs. record r { frames = fs }) (sym (set_same r.frames o.frame frame e))

pub left_is : (r : Record) (frame : Frame) (o : Object) (l : Link) (steps : List Step)
    → nth r.frames o.frame ≡ Some frame
    → left r frame o l steps ≡ with_frame r o.frame (left_frame o.number l.act steps frame)
left_is r frame o l steps e = left_by r frame o l (gives_up steps) e

-- an object that takes steps that don't take its frame
pub left_made : (r : Record) (frame frame2 : Frame) (o : Object) (l l2 : Link) (steps : List Step)
    (actions : List Action) → nth r.frames o.frame ≡ Some frame
    → l2 ≡ (stepped_link 0 l steps).link → actions ≡ sends (stepped_link 0 l steps).sent
    → frame2 ≡ left_frame o.number l.act steps frame
    → leaving_made r frame o l steps ≡ counts_none
    (with_object (with_frame r o.frame frame2) (record o { link = Some l2 })) (acts actions)
left_made r frame frame2 o l l2 steps actions at link sent made =
    ap (λ q. counts_none (with_object q (record o { link = Some (stepped_link 0 l steps).link }))
    (acts (sends (stepped_link 0 l steps).sent))) (left_is r frame o l steps at)
    ∙ rw (made, link, sent) refl

-- an object that is asked to close
closes_by : (r : Record) (numbers : ℕ) (frame : Frame) (o : Object) (l : Link) (option : CloseOption)
    (steps : List Step) → r.numbers ≡ numbers → o.link ≡ Some l
    → has_numbers numbers l ≡ true → close_steps option l.states.object ≡ Some steps
    → close_linked r frame o option o.link ≡ Ok (leaving_made r frame o l steps)
closes_by r numbers frame o l option steps n e h s =
    ap (close_linked r frame o option) e
    ∙ (ap (λ b. unless (not b) NumbersSpent (close_steps_made r frame o l (close_steps option l.states.object)))
    (ap (λ m. has_numbers m l) n ∙ h)
    ∙ ap (close_steps_made r frame o l) s)

pub close_made : (r : Record) (numbers : ℕ) (frame frame2 : Frame) (o : Object) (l l2 : Link) (option : CloseOption)
    (steps : List Step) (actions : List Action) → r.numbers ≡ numbers → nth r.frames o.frame ≡ Some frame
    → o.link ≡ Some l → has_numbers numbers l ≡ true → close_steps option l.states.object ≡ Some steps
    → l2 ≡ (stepped_link 0 l steps).link → actions ≡ sends (stepped_link 0 l steps).sent
    → frame2 ≡ left_frame o.number l.act steps frame
    → close_linked r frame o option o.link
    ≡ Ok (counts_none (with_object (with_frame r o.frame frame2) (record o { link = Some l2 })) (acts actions))
close_made r numbers frame frame2 o l l2 option steps actions n at e h s link sent made =
    closes_by r numbers frame o l option steps n e h s
    ∙ ap Ok (left_made r frame frame2 o l l2 steps actions at link sent made)
