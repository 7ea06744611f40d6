-- An object that takes its frame, in its container.
use Rattle.std.proofs.Common.{◌≡◌, ◌≢◌, ◌<◌, arith, ◌+◌, ◌++◌, ◌||◌, ℕ, true, false, not, nat_eq, nat_le, List, [], ◌∷◌}
use Rattle.std.proofs.Common.{length, Option, Some, None, IsSomeAnd, Ok, refl, ◌∙◌, ap, slice_get, get_or}
use Rattle.std.proofs.Common.{if◌then◌else◌}
use Rattle.std.proofs.lemmas.Option.{get_or_from_slice_get}
use Rattle.message_values.specs.Found.{find, put, set_nth}
use Rattle.message_values.specs.declared.operation.Operation.TheVariants.{UiDeactivate}
use Rattle.object_state.specs.declared.verbs.Step.{Step}
use Rattle.object_state.specs.Grants.{Ask}
use Rattle.container_model.specs.declared.answer.Action.{Action}
use Rattle.container_model.specs.declared.answer.Answer.{Answer}
use Rattle.container_model.specs.declared.fault.ContainerFault.TheVariants.{NumbersSpent}
use Rattle.container_model.specs.declared.record.Frame.{Frame}
use Rattle.container_model.specs.declared.record.Link.{Link}
use Rattle.container_model.specs.declared.record.Object.{Object}
use Rattle.container_model.specs.Grants.{Requested, moved, requested}
use Rattle.container_model.specs.Record.{Record, acts, counts_none, is_object, quiet_answer, sends, unless, with_object}
use Rattle.container_model.specs.Verbs.{claim_of, claimed, holder_has_numbers, holder_of, leaving_made, revoked_at}
use Rattle.container_model.specs.Verbs.{stepped_link, steps_now, takes, taking, taking_made}
use Rattle.container_objects.specs.Stepping.{told_in, told_objects, told_one, told_sent}
use Rattle.container_checks.specs.Went.{verb_went}

-- the object that has the frame is told
requested_told : (q : Record) (p : Option Object) → ◌≡◌ {A = Requested} (requested q UiDeactivate p)
    (record { rec = record q { objects = told_in q.objects p }; sent = told_one p })
requested_told q None = refl
requested_told q (Some h) = refl

revoked_told : (q : Record) (holder : Option ℕ) → ◌≡◌ {A = Requested} (revoked_at q holder)
    (record { rec = record q { objects = told_objects holder q.objects }; sent = told_sent holder q.objects })
revoked_told q None = refl
revoked_told q (Some n) = requested_told q (find (is_object n) q.objects)

pub taken_made : (r u : Record) (frame frame2 : Frame) (o : Object) (l : Link) (steps now : List Step)
    (os : List Object) (fs : List Frame) (actions : List Action) (a : Answer)
    → now ≡ steps_now frame.ui.state steps → frame2 ≡ moved frame (Ask (claim_of o l (r.last_g + 1)))
    → fs ≡ set_nth r.frames o.frame frame2
    → os ≡ put (is_object o.number) (record o { link = Some (stepped_link (r.last_g + 1) l now).link })
    (told_objects (holder_of frame.ui.state) r.objects)
    → actions ≡ sends (told_sent (holder_of frame.ui.state) r.objects ++ (stepped_link (r.last_g + 1) l now).sent)
    → u ≡ record r { frames = fs; objects = os; last_g = r.last_g + 1 } → a ≡ acts actions
    → taking_made r frame o l steps ≡ counts_none u a
taken_made r u frame frame2 o l steps now os fs actions a n m f p s is told =
    ap (λ v. counts_none
    (with_object v.rec
    (record o { link = Some (stepped_link (r.last_g + 1) l (steps_now frame.ui.state steps)).link }))
    (acts (sends (v.sent ++ (stepped_link (r.last_g + 1) l (steps_now frame.ui.state steps)).sent))))
    (revoked_told (claimed r frame o l) (holder_of frame.ui.state))
    ∙ rw (told, is, s, p, f, m, n) refl

-- what stands there, as it was read
pub read_as : {A : Type 0} (xs : List A) (i : ℕ) (x y : A) → x ≡ get_or xs i x → slice_get xs i ≡ Some y → x ≡ y
read_as xs i x y e s = e ∙ get_or_from_slice_get xs i y x s

-- a grant can be drawn
pub taking_by : (r : Record) (frame : Frame) (o : Object) (l : Link) (steps : List Step)
    → nat_le r.numbers r.last_g ≡ false → holder_has_numbers r (holder_of frame.ui.state) ≡ true
    → taking r frame o l steps ≡ Ok (taking_made r frame o l steps)
taking_by r frame o l steps e h =
    ap (λ b. unless (b || not (holder_has_numbers r (holder_of frame.ui.state))) NumbersSpent
    (Ok (taking_made r frame o l steps))) e
    ∙ ap (λ b. unless (not b) NumbersSpent (Ok (taking_made r frame o l steps))) h

-- what a verb comes to
pub some_and : {A : Type 0} (P : A → Type 0) (t : Option A) → IsSomeAnd t P → (x : A) × (t ≡ Some x) × P x
some_and P None h = absurd h
some_and P (Some x) h = (x, refl, h)

pub went_quiet : (r : Record) (frame : Frame) (o : Object) (l : Link) (steps : List Step) → steps ≡ []
    → verb_went r frame o l steps ≡ Ok (counts_none r quiet_answer)
went_quiet r frame o l steps e = ap (verb_went r frame o l) e

pub went_taking : (r : Record) (frame : Frame) (o : Object) (l : Link) (steps : List Step) → takes steps ≡ true
    → verb_went r frame o l steps ≡ taking r frame o l steps
went_taking r frame o l [] e = absurd (cc)
went_taking r frame o l (s ∷ ss) e = ap (λ b. if b then taking r frame o l (s ∷ ss)
    else Ok (leaving_made r frame o l (s ∷ ss))) e

pub went_leaving : (r : Record) (frame : Frame) (o : Object) (l : Link) (steps : List Step) → steps ≢ []
    → takes steps ≡ false → verb_went r frame o l steps ≡ Ok (leaving_made r frame o l steps)
went_leaving r frame o l [] n e = absurd (n refl)
went_leaving r frame o l (s ∷ ss) n e = ap (λ b. if b then taking r frame o l (s ∷ ss)
    else Ok (leaving_made r frame o l (s ∷ ss))) e

pub past_last : (numbers last : ℕ) → last < numbers → nat_le numbers last ≡ false
past_last numbers last lt = grind arith

-- steps, or none
pub no_items : {A : Type 0} (xs : List A) → true ≡ nat_eq (length xs) 0 → xs ≡ []
no_items [] e = refl
no_items (x ∷ xs) e = absurd (grind arith)

pub some_items : {A : Type 0} (xs : List A) → false ≡ nat_eq (length xs) 0 → xs ≢ []
some_items [] e is = absurd (grind arith)
some_items (x ∷ xs) e is = absurd (cc)
