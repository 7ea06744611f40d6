use Rattle.std.proofs.Common.{◌≡◌, ◌∙◌, ◌++◌, [], List, None, Some, ap, slice_get, sym}
use Rattle.std.proofs.lemmas.Result.{IfOk-weaker, on_ok_weaker}
use Rattle.message_values.specs.Found.{IsPlace, find}
use Rattle.container_model.specs.declared.record.Object.{Object}
use Rattle.container_model.specs.Numbered.{IsObjectAt}
use Rattle.container_model.specs.Record.{is_object, sends}
use Rattle.container_model.specs.Verbs.{stepped_link}
use Rattle.container_objects.specs.Stepping.{told_one, told_sent}
use Rattle.container_objects.proofs.VerbsTake.{alone, apart_at, both, both_sent, item_at, told_nobody, told_none}
use Rattle.container_objects.proofs.VerbsNumbers.{alone_kept, both_kept, same_on}
use Rattle.container_objects.proofs.takings.ask_taking.Goals as goal

pub returns-in_default-clause-asked : goal.returns-in_default-clause-asked
returns-in_default-clause-asked c =
    let os : List Object = c.args.objects.now.list.items in
    on_ok_weaker c.ask_at.result (λ h o l at linked. h o l at linked
    ∙ alone os c.args.i o (record o { link = Some (stepped_link c.args.g l c.args.steps.now).link })
    c.args.holder c.requires.place at (told_none os c.args.holder c.in_default.is)) c.ask_at.ensures.asked

pub returns-in_default-place_object-clause-asked : goal.returns-in_default-place_object-clause-asked
returns-in_default-place_object-clause-asked c =
    let os : List Object = c.args.objects.now.list.items in
    let none : find (is_object c.in-Some.holder) os ≡ None = c.in_default-place_object.ensures.found in
    on_ok_weaker c.ask_at-in_default-place_object.result (λ h o l at linked. h o l at linked
    ∙ alone os c.args.i o (record o { link = Some (stepped_link c.args.g l c.args.steps.now).link })
    c.args.holder c.requires.place at (told_nobody os c.args.holder c.in-Some.holder c.in-Some.is none))
    c.ask_at-in_default-place_object.ensures.asked

pub ask_both-requires-clause-apart : goal.ask_both-requires-clause-apart
ask_both-requires-clause-apart c =
    let os : List Object = c.args.objects.now.list.items in
    let place : IsPlace (is_object c.in-Some.holder) os c.in-Some-place_object.j =
    c.in-Some-place_object.ensures.found in
    apart_at os c.args.i c.in-Some-place_object.j c.args.holder c.in-Some.holder c.requires.place.fits
    c.requires.apart c.in-Some.is place

pub returns-clause-asked : goal.returns-clause-asked
returns-clause-asked c =
    let os : List Object = c.args.objects.now.list.items in
    let place : IsPlace (is_object c.in-Some.holder) os c.in-Some-place_object.j =
    c.in-Some-place_object.ensures.found in
    let own : IsObjectAt os c.in-Some-place_object.j = c.in-Some-place_object.ensures.own in
    let h : (x : Object) × (slice_get os c.in-Some-place_object.j ≡ Some x) =
    item_at os c.in-Some-place_object.j place.fits in
    on_ok_weaker c.ask_both.result (λ made o l at linked. made o h.0 l at h.1 linked
    ∙ both os c.args.i c.in-Some-place_object.j c.args.holder c.in-Some.holder o h.0
    (record o { link = Some (stepped_link c.args.g l c.args.steps.now).link }) c.requires.place at
    c.requires.apart c.in-Some.is place own h.1) c.ask_both.ensures.asked

pub returns-clause-sent : goal.returns-clause-sent
returns-clause-sent c =
    let os : List Object = c.args.objects.now.list.items in
    let place : IsPlace (is_object c.in-Some.holder) os c.in-Some-place_object.j =
    c.in-Some-place_object.ensures.found in
    let h : (x : Object) × (slice_get os c.in-Some-place_object.j ≡ Some x) =
    item_at os c.in-Some-place_object.j place.fits in
    IfOk-weaker c.ask_both.result _ _ (λ a made o l at linked. made o h.0 l at h.1 linked
    ∙ both_sent os c.in-Some-place_object.j c.args.holder c.in-Some.holder h.0
    (stepped_link c.args.g l c.args.steps.now).sent c.in-Some.is place h.1) c.ask_both.ensures.sent

pub invariant_of-objects : goal.invariant_of-objects
invariant_of-objects c =
    let os : List Object = c.args.objects.now.list.items in
    record {
      rising = same_on c.ask_at.result os c.ask_at.new.objects.items c.args.objects.now.rising
          (on_ok_weaker c.ask_at.result (alone_kept os c.args.i c.args.g c.args.steps.now c.requires.place.fits
          c.requires.linked c.ask_at.new.objects.items) c.ask_at.ensures.asked) c.ask_at.ensures.kept;
    }

pub invariant_of-objects-in_default-place_object : goal.invariant_of-objects-in_default-place_object
invariant_of-objects-in_default-place_object c =
    let os : List Object = c.args.objects.now.list.items in
    record {
      rising = same_on c.ask_at-in_default-place_object.result os c.ask_at-in_default-place_object.new.objects.items
          c.args.objects.now.rising
          (on_ok_weaker c.ask_at-in_default-place_object.result
          (alone_kept os c.args.i c.args.g c.args.steps.now c.requires.place.fits c.requires.linked
          c.ask_at-in_default-place_object.new.objects.items) c.ask_at-in_default-place_object.ensures.asked)
          c.ask_at-in_default-place_object.ensures.kept;
    }

pub invariant_of-objects-2 : goal.invariant_of-objects-2
invariant_of-objects-2 c =
    let os : List Object = c.args.objects.now.list.items in
    let place : IsPlace (is_object c.in-Some.holder) os c.in-Some-place_object.j =
    c.in-Some-place_object.ensures.found in
    record {
      rising = same_on c.ask_both.result os c.ask_both.new.objects.items c.args.objects.now.rising
          (on_ok_weaker c.ask_both.result (both_kept os c.args.i c.args.g c.args.steps.now c.requires.place.fits
          c.requires.linked c.in-Some-place_object.j place.fits c.ask_both.new.objects.items)
          c.ask_both.ensures.asked) c.ask_both.ensures.kept;
    }

pub returns-in_default-place_object-clause-sent : goal.returns-in_default-place_object-clause-sent
returns-in_default-place_object-clause-sent c =
    let os : List Object = c.args.objects.now.list.items in
    let quiet : told_sent c.args.holder os ≡ [] = ap (λ h. told_sent h os) c.in-Some.is
    ∙ ap told_one c.in_default-place_object.ensures.found in
    IfOk-weaker c.ask_at-in_default-place_object.result _ _ (λ a made o l at linked. made o l at linked
    ∙ ap (λ ms. sends (ms ++ (stepped_link c.args.g l c.args.steps.now).sent)) (sym quiet))
    c.ask_at-in_default-place_object.ensures.sent
