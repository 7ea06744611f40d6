use Rattle.std.proofs.Common.{List, ℕ}
use Rattle.write_zeros.specs.Taken.{AllIn, AreWithin}
use Rattle.write_zeros.proofs.marks.mark_all.Given as goal

abbrev pub invariant-loop-n : goal.invariant-loop-n
invariant-loop-n l = (taken : List ℕ) → AllIn l.numbers taken → AreWithin l.initial.marks taken
    → AreWithin l.marks taken
