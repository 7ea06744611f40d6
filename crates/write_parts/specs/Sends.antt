-- Bytes on their way to a writer.
use Rattle.std.specs.Prelude.{◌≡◌, ℕ, List, ◌++◌, Option}
use Rattle.std.specs.Io.KnownBytes.{Appends}

-- Bytes went on their way behind those that waited: of all these the first were written, and the others wait.
pub record Sends (old new : Option (List ℕ)) (waited waits bytes : List ℕ) : Type 0 where
  pub gone : List ℕ
  pub written : Appends old new gone
  pub all : gone ++ waits ≡ waited ++ bytes
