-- The bytes of streams.
use Rattle.std.specs.Prelude.{ℕ, List}
use Rattle.read_streams.specs.Blocks.{held_in}
use Rattle.folder_commands.specs.declared.streams.Stream.{Stream}
use Rattle.folder_commands.specs.declared.streams.Stream.TheVariants.{Held, Lies}

-- the bytes of a stream of a file: those that were read, or the first of the blocks where it lies, one after another
abbrev pub bytes_in : List ℕ → Stream → List ℕ
bytes_in file (Held bytes) = bytes.items
bytes_in file (Lies lies) = held_in file lies
