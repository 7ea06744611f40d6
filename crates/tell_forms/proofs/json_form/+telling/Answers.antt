use Rattle.std.proofs.Common.{◌≡◌, ◌∙◌, get_or, rules}
use Rattle.std.specs.Prelude.{string_bytes}
use Rattle.tell_forms.specs.Placed.{placed_view}
use Rattle.tell_forms.proofs.Told.{child_told, class_out, inner_told, ok_map, state_out}
use Rattle.tell_forms.proofs.json_form.+telling.Goals as goal

pub write_below-loop-part-preserved : goal.write_below-loop-part-preserved
write_below-loop-part-preserved t c =
    let items = c.deref-part-items.result.now in
    let p = c.part-item.result in
    let here : get_or items c.loop-part.part-index p ≡ p = search (rules, c.part-item.is) in (
      c.in_ok-write_part.ensures.before ∙ c.loop-part.invariant.0,
      child_told c.args.within.now c.loop-part.writer.tokens c.write_part.new.writer.tokens _ items
          c.args.outline.now.parts.items c.loop-part.part-index p
          c.deref-part-items.ensures.value c.loop-part-test.true here c.in_ok-write_part.ensures.tokens
          c.loop-part.invariant.1,
    )

pub write_inner-returns-clause-tokens : goal.write_inner-returns-clause-tokens
unfolding lib.Utf8.encode
write_inner-returns-clause-tokens t c =
    ok_map c.write_below.result _ _
    (λ told. inner_told (placed_view c.args.inner.now) c.args.writer.now.tokens c.write_storage.new.writer.tokens
    c.write_below.new.writer.tokens (string_bytes c.args.path) c.as_str.result.now
    c.as_str-2.result.now c.args.inner.now.class c.args.inner.now.state (class_out c.args.inner.now)
    (state_out c.args.inner.now) c.in_ok-write_storage.ensures.tokens c.as_str.ensures.value
    (c.as_str-2.ensures.value ∙ c.in_ok-push.ensures.bytes) told) c.write_below.ensures.tokens
