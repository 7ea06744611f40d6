use Rattle.std.proofs.Common.{◌≡◌, length}
use Rattle.store_images.specs.Undone.{undone}
use Rattle.store_images.proofs.in_place.put_back.Given as goal

abbrev pub invariant-loop-last : goal.invariant-loop-last
invariant-loop-last l = undone l.was.items l.file ≡ undone l.fn.was.items l.fn.file

abbrev pub decreases-loop-last : goal.decreases-loop-last
decreases-loop-last l = length l.was.items
