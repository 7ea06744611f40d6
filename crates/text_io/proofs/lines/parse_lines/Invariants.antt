use Rattle.std.proofs.Common.{◌≡◌, ◌++◌, ℕ, List, length, Ok}
use Rattle.text_words.specs.Words.{lines}
use Rattle.text_io.specs.Lines.{asking}
use Rattle.text_io.proofs.Asking.{asked}
use Rattle.text_io.proofs.lines.parse_lines.Given as goal

abbrev pub invariant-loop-number : goal.invariant-loop-number
invariant-loop-number g l = (gone : List (ℕ × List ℕ)) × (asking 1 (lines l.text) ≡ gone ++ l.left)
    × (asked g.G.Grammar.read gone ≡ Ok l.asked.items)

abbrev pub decreases-loop-number : goal.decreases-loop-number
decreases-loop-number g l = length l.left
