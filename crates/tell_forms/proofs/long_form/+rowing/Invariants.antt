use Rattle.std.proofs.Common.{◌≡◌, ◌++◌, drop}
use Rattle.read_outlines.specs.View.{parts_view}
use Rattle.tell_forms.specs.Long.{each_row}
use Rattle.tell_forms.proofs.long_form.+rowing.Given as goal

abbrev pub invariant-push_below-loop-part : goal.invariant-push_below-loop-part
invariant-push_below-loop-part l =
    l.text.items ++ each_row l.within (parts_view (drop l.part-index l.outline.parts.items)) ≡ l.initial.text.items
    ++ each_row l.within (parts_view l.outline.parts.items)
