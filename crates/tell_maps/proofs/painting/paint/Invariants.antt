use Rattle.std.proofs.Common.{◌≡◌, length}
use Rattle.tell_maps.proofs.Cells.{IsPainting}
use Rattle.tell_maps.proofs.painting.paint.Given as goal

abbrev pub invariant-loop-n : goal.invariant-loop-n
invariant-loop-n l = (length l.cells.items ≡ length l.initial.cells.items)
    × IsPainting (λ _. l.mark) l.sectors l.n-index l.initial.cells.items l.cells.items
