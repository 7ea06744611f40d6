use Rattle.std.proofs.Common.{map}
use Rattle.world_state.specs.View.{seen_stocked}
use Rattle.world_state.proofs.Stocks.{IsPast}
use Rattle.world_state.proofs.stock.Stock.place.Given as goal

abbrev pub invariant-loop-i : goal.invariant-loop-i
invariant-loop-i g l =
    IsPast l.class
    (map (seen_stocked (λ s. (goal.Embedded-dyn g (s.boxed.vtable, s.boxed.value)).content s.boxed.value))
    l.self.boxes.items) l.i
