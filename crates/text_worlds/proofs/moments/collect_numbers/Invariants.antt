use Rattle.std.proofs.Common.{◌≡◌, length}
use Rattle.text_words.specs.Words.{words}
use Rattle.text_worlds.specs.Moments.{numbers_of}
use Rattle.text_worlds.proofs.Stops.{behind}
use Rattle.text_worlds.proofs.moments.collect_numbers.Given as goal

abbrev pub invariant-loop-word : goal.invariant-loop-word
invariant-loop-word l = record { same : behind l.numbers (numbers_of l.left) ≡ numbers_of (words l.text) }

abbrev pub decreases-loop-word : goal.decreases-loop-word
decreases-loop-word l = length l.left
