-- A child of a storage.
use Rattle.std.specs.Prelude.{ℕ, List}
pub use Rattle.cfb_entries.specs.Seen.{Seen, bytes, inner}
use Rattle.cfb_entries.specs.Tree.{Children, stream, storage}

-- a child under a key: its name as it is spelled, and what it is
abbrev pub child : List ℕ → List ℕ × Seen → Children → Children
child k (name, bytes b) cs = stream k name b cs
child k (name, inner t) cs = storage k name t cs
