-- What a file is of which an update leaves what it frees, or zeroes it.
use Rattle.std.specs.Prelude.{ℕ, List}
use Rattle.write_zeros.specs.Zeroed.{IsZeroed}
use Rattle.write_placed.specs.declared.freed.Freed.{Freed}
use Rattle.write_placed.specs.declared.freed.Freed.TheVariants.{Kept, Zeroed}

abbrev pub IsFreedAs : Freed → List ℕ → Type 0
IsFreedAs Kept file = Unit {0}
IsFreedAs Zeroed file = IsZeroed file
