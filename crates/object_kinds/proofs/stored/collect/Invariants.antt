use Rattle.std.proofs.Common.{◌≡◌, ◌++◌, length}
use Rattle.std.specs.Option.{option_map}
use Rattle.object_kinds.specs.Drawn.{shapes_told}
use Rattle.object_kinds.specs.Lines.{shapes_on}
use Rattle.object_kinds.proofs.stored.collect.Given as goal

abbrev pub invariant-loop-rest : goal.invariant-loop-rest
invariant-loop-rest l = option_map (λ more. shapes_told l.figures.items ++ more) (shapes_on l.rest) ≡ shapes_on l.bytes

abbrev pub decreases-loop-rest : goal.decreases-loop-rest
decreases-loop-rest l = length l.rest
