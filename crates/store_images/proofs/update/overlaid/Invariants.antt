use Rattle.std.proofs.Common.{◌≡◌, ◌*◌, length}
use Rattle.store_images.specs.Changed.{changed_before}
use Rattle.store_images.proofs.update.overlaid.Given as goal

abbrev pub invariant-loop-number : goal.invariant-loop-number
invariant-loop-number l = (length l.file.items ≡ 512 * l.number)
    × (l.numbers.items ≡ changed_before l.number l.old l.file.items)
