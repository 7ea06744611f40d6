use Rattle.std.proofs.Common.{◌≡◌, cond, get_or, length, nat_eq}
use Rattle.cfb_chains.specs.Chain.{END_OF_CHAIN}
use Rattle.tell_maps.specs.Maps.{LAST, STREAM}
use Rattle.tell_maps.proofs.Cells.{IsPainting}
use Rattle.tell_maps.proofs.painting.paint_stream.Given as goal

abbrev pub invariant-loop-n : goal.invariant-loop-n
invariant-loop-n l = (length l.cells.items ≡ length l.initial.cells.items)
    × IsPainting (λ n. cond (nat_eq (get_or l.table n 0) END_OF_CHAIN) LAST STREAM) l.sectors l.n-index
    l.initial.cells.items l.cells.items
