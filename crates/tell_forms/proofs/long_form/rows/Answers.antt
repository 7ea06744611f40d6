use Rattle.std.proofs.Common.{◌∙◌}
use Rattle.read_outlines.specs.View.{outline_view}
use Rattle.tell_forms.proofs.Rows.{all_rowed, class_out}
use Rattle.tell_forms.proofs.long_form.rows.Goals as goal

pub returns : goal.returns
returns c =
    all_rowed (outline_view c.args.outline.now) c.in_ok-text.text.items c.push_storage.new.text.items
    c.push_below.new.text.items c.as_slice-2.result.now c.as_slice-3.result.now c.args.outline.now.class
    c.as_slice-2.ensures c.as_slice-3.ensures (class_out c.args.outline.now)
    (c.in_ok-text.ensures.items ∙ c.as_slice.ensures) c.in_ok-push_storage.ensures c.in_ok-push_below.ensures
