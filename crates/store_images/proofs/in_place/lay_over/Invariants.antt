use Rattle.store_images.proofs.Undoing.{IsLaid}
use Rattle.store_images.proofs.in_place.lay_over.Given as goal

abbrev pub invariant-loop-number : goal.invariant-loop-number
invariant-loop-number l = IsLaid l.number l.fn.file l.was.items l.numbers.items l.file
