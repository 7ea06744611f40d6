use Rattle.std.proofs.Common.{◌-◌, List, ℕ, length}
use Rattle.write_zeros.specs.Taken.{AllIn, AreWithin, IsLinked}
use Rattle.write_zeros.proofs.Ends.{IsMarking}
use Rattle.write_zeros.proofs.marks.mark_chain.Given as goal

abbrev pub invariant-loop-steps : goal.invariant-loop-steps
invariant-loop-steps l =
    (taken ns : List ℕ) → IsLinked l.table l.first l.size ns → AllIn ns taken → AreWithin l.initial.marks taken
    → IsMarking l.table taken l.marks l.at

abbrev pub decreases-loop-steps : goal.decreases-loop-steps
decreases-loop-steps l = length l.table - l.steps
