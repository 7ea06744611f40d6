use Rattle.std.proofs.Common.{◌≡◌, length}
use Rattle.std.specs.Option.{option_map}
use Rattle.text_spelling.specs.Paths.{named, names_read, path_read}
use Rattle.text_spelling.proofs.Named.{behind}
use Rattle.text_spelling.proofs.path.spelled.Given as goal

abbrev pub invariant-loop-part : goal.invariant-loop-part
invariant-loop-part l = option_map (λ ns. behind l.names.items (named ns)) (names_read l.parts) ≡ path_read l.word

abbrev pub decreases-loop-part : goal.decreases-loop-part
decreases-loop-part l = length l.parts
