use Rattle.std.proofs.Common.{◌≡◌, ◌≢◌, ◌∙◌, IfSome, IsOk, Ok, Some, ap, is_some, refl, slice_get, subst, sym, true}
use Rattle.std.proofs.lemmas.Result.{IfErr-weaker, IfOk-weaker}
use Rattle.container_model.specs.declared.fault.ContainerFault.{ContainerFault}
use Rattle.container_model.specs.declared.record.Frame.{Frame}
use Rattle.container_model.specs.declared.record.Link.{Link}
use Rattle.container_model.specs.declared.record.Object.{Object}
use Rattle.container_model.specs.Numbered.{IsNth}
use Rattle.container_model.specs.Record.{Record, Refuses, counts_none, quiet_answer}
use Rattle.container_model.specs.Verbs.{holder_of, steps_of, verb_linked}
use Rattle.container_objects.proofs.VerbsTake.{item_at}
use Rattle.container_checks.specs.Went.{verb_went}
use Rattle.container_commands.proofs.VerbsApart.{apart}
use Rattle.container_commands.proofs.VerbsPlaced.{both_here, both_taken, in_frame, object_here}
use Rattle.container_objects.proofs.VerbsTaken.{no_items, some_and, some_items, went_leaving, went_quiet, went_taking}
use Rattle.container_state.proofs.state.State.verb_object.Goals as goal

pub returns-in-Err-clause-refused : goal.returns-in-Err-clause-refused
returns-in-Err-clause-refused c =
    let r : Record = c.args.self.now in
    let x : Object = c.index.result.now in
    let here : slice_get r.objects c.args.i ≡ Some x = object_here _ r c.args.i x c.self.view_is
    c.requires.place.fits c.index.ensures in
    let place : IsNth x.frame r.frames c.args.at = in_frame r c.args.i c.args.at x here c.requires.frame in
    let y : (f : Frame) × (slice_get r.frames c.args.at ≡ Some f) = item_at r.frames c.args.at place.fits in
    let n : r.numbers ≡ c.self.inside.numbers = ap (λ (t : Record). t.numbers) (sym c.self.view_is) in
    both_here (λ p q. Refuses (verb_linked r q p c.args.verb p.link) c.in-Err.fault) r c.args.i c.args.at x y.0 here
    y.1 (c.in-Err.ensures.refused r y.0 n)

pub returns-then-is_empty-clause-taken : goal.returns-then-is_empty-clause-taken
returns-then-is_empty-clause-taken c =
    let r : Record = c.args.self.now in
    let x : Object = c.index.result.now in
    let here : slice_get r.objects c.args.i ≡ Some x = object_here _ r c.args.i x c.self.view_is
    c.requires.place.fits c.index.ensures in
    let place : IsNth x.frame r.frames c.args.at = in_frame r c.args.i c.args.at x here c.requires.frame in
    let y : (f : Frame) × (slice_get r.frames c.args.at ≡ Some f) = item_at r.frames c.args.at place.fits in
    let n : r.numbers ≡ c.self.inside.numbers = ap (λ (t : Record). t.numbers) (sym c.self.view_is) in
    let w : (l : Link) × (x.link ≡ Some l) × ((q : Record) (f : Frame) → q.numbers ≡ c.self.inside.numbers
    → verb_linked q f x c.args.verb x.link ≡ verb_went q f x l c.in-Ok.steps.now) =
    some_and _ x.link c.in-Ok.ensures.taken in
    let did : verb_linked r y.0 x c.args.verb x.link ≡ verb_went r y.0 x w.0 c.in-Ok.steps.now = w.2 r y.0 n in
    both_here (λ p q. verb_linked r q p c.args.verb p.link ≡ Ok (counts_none _ c.quiet.result)) r c.args.i c.args.at
    x y.0 here y.1
    (both_taken (verb_linked r y.0 x c.args.verb x.link) r _ quiet_answer c.quiet.result
    (did ∙ went_quiet r y.0 x w.0 c.in-Ok.steps.now (no_items c.in-Ok.steps.now c.if-is_empty.ensures)) refl
    c.quiet.ensures)

pub take-requires-clause-linked : goal.take-requires-clause-linked
take-requires-clause-linked c =
    let r : Record = c.args.self.now in
    let x : Object = c.index.result.now in
    let here : slice_get r.objects c.args.i ≡ Some x = object_here _ r c.args.i x c.self.view_is
    c.requires.place.fits c.index.ensures in
    let w : (l : Link) × (x.link ≡ Some l) × ((q : Record) (f : Frame) → q.numbers ≡ c.self.inside.numbers
    → verb_linked q f x c.args.verb x.link ≡ verb_went q f x l c.in-Ok.steps.now) =
    some_and _ x.link c.in-Ok.ensures.taken in
    subst (λ t. IfSome t (λ o. is_some o.link ≡ true)) (sym here) (ap is_some w.1)

pub take-requires-clause-apart : goal.take-requires-clause-apart
take-requires-clause-apart c =
    let r : Record = c.args.self.now in
    let x : Object = c.index.result.now in
    let here : slice_get r.objects c.args.i ≡ Some x = object_here _ r c.args.i x c.self.view_is
    c.requires.place.fits c.index.ensures in
    let place : IsNth x.frame r.frames c.args.at = in_frame r c.args.i c.args.at x here c.requires.frame in
    let y : (f : Frame) × (slice_get r.frames c.args.at ≡ Some f) = item_at r.frames c.args.at place.fits in
    let w : (l : Link) × (x.link ≡ Some l) × ((q : Record) (f : Frame) → q.numbers ≡ c.self.inside.numbers
    → verb_linked q f x c.args.verb x.link ≡ verb_went q f x l c.in-Ok.steps.now) =
    some_and _ x.link c.in-Ok.ensures.taken in
    let steps : steps_of c.args.verb w.0.states.object ≡ Some c.in-Ok.steps.now =
    subst (λ t. IfSome t (λ (l : Link). steps_of c.args.verb l.states.object ≡ Some c.in-Ok.steps.now)) w.1
    c.in-Ok.ensures.steps in
    both_here (λ p q. IfSome (holder_of q.ui.state) (λ m. m ≢ p.number)) r c.args.i c.args.at x y.0 here y.1
    (apart r c.args.i x w.0 y.0 c.args.verb c.in-Ok.steps.now c.requires.steady here w.1 (place.found ∙ y.1)
    steps (sym c.if-takes.ensures))

pub returns-then-takes-clause-taken : goal.returns-then-takes-clause-taken
returns-then-takes-clause-taken c =
    let r : Record = c.args.self.now in
    let x : Object = c.index.result.now in
    let here : slice_get r.objects c.args.i ≡ Some x = object_here _ r c.args.i x c.self.view_is
    c.requires.place.fits c.index.ensures in
    let place : IsNth x.frame r.frames c.args.at = in_frame r c.args.i c.args.at x here c.requires.frame in
    let y : (f : Frame) × (slice_get r.frames c.args.at ≡ Some f) = item_at r.frames c.args.at place.fits in
    let n : r.numbers ≡ c.self.inside.numbers = ap (λ (t : Record). t.numbers) (sym c.self.view_is) in
    let w : (l : Link) × (x.link ≡ Some l) × ((q : Record) (f : Frame) → q.numbers ≡ c.self.inside.numbers
    → verb_linked q f x c.args.verb x.link ≡ verb_went q f x l c.in-Ok.steps.now) =
    some_and _ x.link c.in-Ok.ensures.taken in
    let did : verb_linked r y.0 x c.args.verb x.link ≡ verb_went r y.0 x w.0 c.in-Ok.steps.now = w.2 r y.0 n in
    IfOk-weaker c.take.result _ _
    (λ a made. both_here (λ p q. verb_linked r q p c.args.verb p.link ≡ Ok (counts_none _ a)) r c.args.i
    c.args.at x y.0 here y.1
    ((did ∙ went_taking r y.0 x w.0 c.in-Ok.steps.now (sym c.if-takes.ensures)) ∙ made x w.0 y.0 here y.1 w.1))
    c.take.ensures.taken

pub returns-then-takes-clause-refused : goal.returns-then-takes-clause-refused
returns-then-takes-clause-refused c =
    let r : Record = c.args.self.now in
    let x : Object = c.index.result.now in
    let here : slice_get r.objects c.args.i ≡ Some x = object_here _ r c.args.i x c.self.view_is
    c.requires.place.fits c.index.ensures in
    let place : IsNth x.frame r.frames c.args.at = in_frame r c.args.i c.args.at x here c.requires.frame in
    let y : (f : Frame) × (slice_get r.frames c.args.at ≡ Some f) = item_at r.frames c.args.at place.fits in
    let n : r.numbers ≡ c.self.inside.numbers = ap (λ (t : Record). t.numbers) (sym c.self.view_is) in
    let w : (l : Link) × (x.link ≡ Some l) × ((q : Record) (f : Frame) → q.numbers ≡ c.self.inside.numbers
    → verb_linked q f x c.args.verb x.link ≡ verb_went q f x l c.in-Ok.steps.now) =
    some_and _ x.link c.in-Ok.ensures.taken in
    let did : verb_linked r y.0 x c.args.verb x.link ≡ verb_went r y.0 x w.0 c.in-Ok.steps.now = w.2 r y.0 n in
    IfErr-weaker c.take.result _ _ (λ e told. both_here (λ p q. Refuses (verb_linked r q p c.args.verb p.link) e) r
    c.args.i c.args.at x y.0 here y.1
    (subst (λ t. Refuses t e) (sym (did ∙ went_taking r y.0 x w.0 c.in-Ok.steps.now (sym c.if-takes.ensures)))
    (told x w.0 y.0 here y.1 w.1))) c.take.ensures.refused

pub leave-requires-clause-linked : goal.leave-requires-clause-linked
leave-requires-clause-linked c =
    let r : Record = c.args.self.now in
    let x : Object = c.index.result.now in
    let here : slice_get r.objects c.args.i ≡ Some x = object_here _ r c.args.i x c.self.view_is
    c.requires.place.fits c.index.ensures in
    let w : (l : Link) × (x.link ≡ Some l) × ((q : Record) (f : Frame) → q.numbers ≡ c.self.inside.numbers
    → verb_linked q f x c.args.verb x.link ≡ verb_went q f x l c.in-Ok.steps.now) =
    some_and _ x.link c.in-Ok.ensures.taken in
    subst (λ t. IfSome t (λ o. is_some o.link ≡ true)) (sym here) (ap is_some w.1)

pub returns-clause-taken : goal.returns-clause-taken
returns-clause-taken c =
    let r : Record = c.args.self.now in
    let x : Object = c.index.result.now in
    let here : slice_get r.objects c.args.i ≡ Some x = object_here _ r c.args.i x c.self.view_is
    c.requires.place.fits c.index.ensures in
    let place : IsNth x.frame r.frames c.args.at = in_frame r c.args.i c.args.at x here c.requires.frame in
    let y : (f : Frame) × (slice_get r.frames c.args.at ≡ Some f) = item_at r.frames c.args.at place.fits in
    let n : r.numbers ≡ c.self.inside.numbers = ap (λ (t : Record). t.numbers) (sym c.self.view_is) in
    let w : (l : Link) × (x.link ≡ Some l) × ((q : Record) (f : Frame) → q.numbers ≡ c.self.inside.numbers
    → verb_linked q f x c.args.verb x.link ≡ verb_went q f x l c.in-Ok.steps.now) =
    some_and _ x.link c.in-Ok.ensures.taken in
    let did : verb_linked r y.0 x c.args.verb x.link ≡ verb_went r y.0 x w.0 c.in-Ok.steps.now = w.2 r y.0 n in
    IfOk-weaker c.leave.result _ _
    (λ a made. both_here (λ p q. verb_linked r q p c.args.verb p.link ≡ Ok (counts_none _ a)) r c.args.i
    c.args.at x y.0 here y.1
    ((did ∙ went_leaving r y.0 x w.0 c.in-Ok.steps.now (some_items c.in-Ok.steps.now c.if-is_empty.ensures)
    (sym c.if-takes.ensures)) ∙ ap Ok (made x w.0 y.0 here y.1 w.1))) c.leave.ensures.taken

pub returns-clause-refused : goal.returns-clause-refused
returns-clause-refused c =
    let r : Record = c.args.self.now in
    let x : Object = c.index.result.now in
    let here : slice_get r.objects c.args.i ≡ Some x = object_here _ r c.args.i x c.self.view_is
    c.requires.place.fits c.index.ensures in
    let place : IsNth x.frame r.frames c.args.at = in_frame r c.args.i c.args.at x here c.requires.frame in
    let y : (f : Frame) × (slice_get r.frames c.args.at ≡ Some f) = item_at r.frames c.args.at place.fits in
    let n : r.numbers ≡ c.self.inside.numbers = ap (λ (t : Record). t.numbers) (sym c.self.view_is) in
    let w : (l : Link) × (x.link ≡ Some l) × ((q : Record) (f : Frame) → q.numbers ≡ c.self.inside.numbers
    → verb_linked q f x c.args.verb x.link ≡ verb_went q f x l c.in-Ok.steps.now) =
    some_and _ x.link c.in-Ok.ensures.taken in
    let did : verb_linked r y.0 x c.args.verb x.link ≡ verb_went r y.0 x w.0 c.in-Ok.steps.now = w.2 r y.0 n in
    IfErr-weaker c.leave.result _ _ (λ e is. both_here (λ p q. Refuses (verb_linked r q p c.args.verb p.link) e) r
    c.args.i c.args.at x y.0 here y.1
    (subst (λ (f : ContainerFault). Refuses (verb_linked r y.0 x c.args.verb x.link) f) (sym is)
    (subst (λ t. IsOk t)
    (sym (did ∙ went_leaving r y.0 x w.0 c.in-Ok.steps.now (some_items c.in-Ok.steps.now c.if-is_empty.ensures)
    (sym c.if-takes.ensures))) refl))) c.leave.ensures.refused
