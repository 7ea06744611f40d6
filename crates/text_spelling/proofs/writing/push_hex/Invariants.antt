use Rattle.std.proofs.Common.{◌≡◌, ◌++◌, drop}
use Rattle.text_spelling.specs.Written.{hex}
use Rattle.text_spelling.proofs.writing.push_hex.Given as goal

abbrev pub invariant-loop-byte : goal.invariant-loop-byte
invariant-loop-byte l = l.text.items ++ hex (drop l.byte-index l.bytes) ≡ l.initial.text.items ++ hex l.bytes
