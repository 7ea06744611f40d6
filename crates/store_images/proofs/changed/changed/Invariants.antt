use Rattle.std.proofs.Common.{◌≡◌}
use Rattle.store_model.specs.Changes.{changes_from}
use Rattle.store_images.proofs.Numbers.{numbers}
use Rattle.store_images.proofs.changed.changed.Given as goal

abbrev pub invariant-loop-number : goal.invariant-loop-number
invariant-loop-number l = l.numbers.items ≡ numbers (changes_from 0 l.number l.old l.new)
