use Rattle.std.proofs.Common.{◌≡◌, ◌++◌, drop}
use Rattle.tell_forms.specs.Placed.{parts_placed}
use Rattle.tell_forms.specs.Json.{each_tokens}
use Rattle.tell_forms.proofs.json_form.+telling.Given as goal

abbrev pub invariant-write_below-loop-part : goal.invariant-write_below-loop-part
invariant-write_below-loop-part l =
    (l.writer.before ≡ l.initial.writer.before)
    × (l.writer.tokens ++ each_tokens l.within (parts_placed (drop l.part-index l.outline.parts.items))
    ≡ l.initial.writer.tokens ++ each_tokens l.within (parts_placed l.outline.parts.items))
