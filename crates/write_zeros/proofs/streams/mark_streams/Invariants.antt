use Rattle.std.proofs.Common.{List, ℕ}
use Rattle.std.specs.List.{All, Contains}
use Rattle.write_zeros.specs.Parts.{AreTaken}
use Rattle.write_zeros.specs.Taken.{AreWithin}
use Rattle.write_zeros.proofs.streams.mark_streams.Given as goal

abbrev pub invariant-loop-id : goal.invariant-loop-id
invariant-loop-id l =
    ((ids longs shorts : List ℕ) → AreTaken l.parts ids longs shorts → All (Contains ids) l.met
    → AreWithin l.initial.sectors longs → AreWithin l.sectors longs)
    × ((ids longs shorts : List ℕ) → AreTaken l.parts ids longs shorts → All (Contains ids) l.met
    → AreWithin l.initial.minis shorts → AreWithin l.minis shorts)
