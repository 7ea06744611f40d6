use Rattle.std.proofs.Common.{◌≡◌, is_some, length}
use Rattle.text_words.specs.Words.{words}
use Rattle.text_worlds.specs.Moments.{numbers_of}
use Rattle.text_worlds.proofs.moments.are_numbers.Given as goal

abbrev pub invariant-loop-word : goal.invariant-loop-word
invariant-loop-word l = record { same : is_some (numbers_of l.left) ≡ is_some (numbers_of (words l.text)) }

abbrev pub decreases-loop-word : goal.decreases-loop-word
decreases-loop-word l = length l.left
