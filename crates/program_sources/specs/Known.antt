-- The bytes of a file, where they are known.
use Rattle.std.specs.Prelude.{ℕ, List, Option, Some, None}
use Rattle.program_sources.specs.declared.source.FileSource.{FileSource}
use Rattle.program_sources.specs.declared.source.FileSource.TheVariants.{Placed, Whole}

abbrev pub known_bytes : {F : Type 0} → FileSource F → Option (List ℕ)
known_bytes (Placed file) = None
known_bytes (Whole bytes) = Some bytes.items
