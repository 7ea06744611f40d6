-- The outline of a tree: what is left of it without the bytes of its streams.
use Rattle.std.specs.Prelude.{ℕ, [], length}
use Rattle.cfb_entries.specs.Tree.{Tree, Children, tree, none, stream, storage}
use Rattle.tree_storage.specs.Change.{Seen, bytes, inner}
use Rattle.cfb_file.specs.Need.{over_streams}

abbrev mutual
  pub outline : Tree → Tree
  outline (tree class state cs) = tree class state (outlines cs)

  pub outlines : Children → Children
  outlines none = none
  outlines (stream key name content cs) = stream key name [] (outlines cs)
  outlines (storage key name t cs) = storage key name (outline t) (outlines cs)

abbrev pub outlined : Seen → Seen
outlined (bytes content) = bytes []
outlined (inner t) = inner (outline t)

-- how many bytes its streams have together
abbrev pub total : Seen → ℕ
total (bytes content) = length content
total (inner t) = over_streams length t
