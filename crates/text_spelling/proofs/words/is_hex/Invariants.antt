use Rattle.std.proofs.Common.{◌≡◌, length, is_some}
use Rattle.text_spelling.specs.Words.{hex_read}
use Rattle.text_spelling.proofs.words.is_hex.Given as goal

abbrev pub invariant-loop-rest : goal.invariant-loop-rest
invariant-loop-rest l = is_some (hex_read l.rest) ≡ is_some (hex_read l.word)

abbrev pub decreases-loop-rest : goal.decreases-loop-rest
decreases-loop-rest l = length l.rest
