-- What stands at a path of a tree.
use Rattle.std.specs.Prelude.{ℕ, List}
use Rattle.cfb_entries.specs.Tree.{Tree}

-- what stands at a path: a stream's bytes, or a storage
pub data Seen : Type 0 where
  bytes : List ℕ → Seen
  inner : Tree → Seen
