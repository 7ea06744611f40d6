use Rattle.std.proofs.Common.{◌≡◌, ◌++◌, drop}
use Rattle.text_spelling.specs.Paths.{name_text}
use Rattle.text_spelling.proofs.writing.push_name.Given as goal

abbrev pub invariant-loop-byte : goal.invariant-loop-byte
invariant-loop-byte l = l.text.items ++ name_text (drop l.byte-index l.name) ≡ l.initial.text.items ++ name_text l.name
