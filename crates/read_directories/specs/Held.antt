-- The bytes of a directory, however they are held.
use Rattle.std.specs.Prelude.{ℕ, List}
use Rattle.read_directories.specs.declared.held.Directory.{Directory}
use Rattle.read_directories.specs.declared.held.Directory.TheVariants.{Bytes, Packed}

abbrev pub held : Directory → List ℕ
held (Bytes bytes) = bytes.now
held (Packed entries) = entries.now
