-- The bytes of a directory that is read.
use Rattle.std.specs.Prelude.{ℕ, List}
use Rattle.read_directories.specs.Held.{held}
use Rattle.read_files.specs.declared.read.FoundDirectory.{FoundDirectory}
use Rattle.read_files.specs.declared.read.FoundDirectory.TheVariants.{Lent, Joined}

abbrev pub directory_bytes : FoundDirectory → List ℕ
directory_bytes (Lent directory) = held directory
directory_bytes (Joined whole) = whole.items
