use Rattle.std.proofs.Common.{◌≡◌, ◌∙◌, get_or, rules}
use Rattle.read_outlines.specs.View.{outline_view}
use Rattle.tell_forms.proofs.Rows.{child_rowed, class_out, storage_below}
use Rattle.tell_forms.proofs.Told.{ok_map}
use Rattle.tell_forms.proofs.long_form.+rowing.Goals as goal

pub push_below-loop-part-preserved : goal.push_below-loop-part-preserved
push_below-loop-part-preserved t c =
    let items = c.deref-part-items.result.now in
    let p = c.part-item.result in
    let here : get_or items c.loop-part.part-index p ≡ p = search (rules, c.part-item.is) in
    child_rowed c.args.within.now c.loop-part.text.items c.push_part.new.text.items _ items
    c.args.outline.now.parts.items c.loop-part.part-index p
    c.deref-part-items.ensures.value c.loop-part-test.true here c.in_ok-push_part.ensures c.loop-part.invariant

pub push_inner-returns : goal.push_inner-returns
push_inner-returns t c =
    ok_map c.push_below.result _ _
    (λ written. storage_below (outline_view c.args.inner.now) c.args.text.now.items c.push_storage.new.text.items
    c.push_below.new.text.items c.as_slice.result.now c.args.path.items c.deref.result.now c.deref-2.result.now
    c.args.inner.now.class c.as_slice.ensures (class_out c.args.inner.now) c.in_ok-push_storage.ensures
    c.deref.ensures.value (c.deref-2.ensures.value ∙ c.in_ok-push.ensures.items) written) c.push_below.ensures
