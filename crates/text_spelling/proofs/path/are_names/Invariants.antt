use Rattle.std.proofs.Common.{◌≡◌, length, is_some}
use Rattle.text_spelling.specs.Paths.{names_read}
use Rattle.text_spelling.proofs.path.are_names.Given as goal

abbrev pub invariant-loop-part : goal.invariant-loop-part
invariant-loop-part l = is_some (names_read l.parts) ≡ is_some (names_read l.initial.parts)

abbrev pub decreases-loop-part : goal.decreases-loop-part
decreases-loop-part l = length l.parts
