use Rattle.std.proofs.Common.{◌≡◌, ◌++◌, drop}
use Rattle.read_outlines.specs.View.{parts_view}
use Rattle.tell_forms.specs.Lines.{each}
use Rattle.tell_forms.proofs.lines_form.+lining.Given as goal

abbrev pub invariant-push_below-loop-part : goal.invariant-push_below-loop-part
invariant-push_below-loop-part l =
    l.text.items ++ each l.within (parts_view (drop l.part-index l.outline.parts.items)) ≡ l.initial.text.items
    ++ each l.within (parts_view l.outline.parts.items)
