use Rattle.std.proofs.Common.{◌≡◌, length, is_some}
use Rattle.text_spelling.specs.Paths.{name_read}
use Rattle.text_spelling.proofs.path.is_name.Given as goal

abbrev pub invariant-loop-rest : goal.invariant-loop-rest
invariant-loop-rest l = is_some (name_read l.rest) ≡ is_some (name_read l.part)

abbrev pub decreases-loop-rest : goal.decreases-loop-rest
decreases-loop-rest l = length l.rest
