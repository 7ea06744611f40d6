-- The outline of a tree: its storages and streams, each stream by its length alone.
use Rattle.std.specs.Prelude.{ℕ, List, length}
use Rattle.cfb_entries.specs.Tree.{Tree, Children, tree, none, stream, storage}
use Rattle.cfb_entries.specs.Seen.{Seen, bytes, inner}

-- A storage is its class id, its state bits and its children in name order, each with its name as it is spelled: a
-- stream of so many bytes, or a storage.
mutual
  pub data Outline : Type 0 where
    outline : List ℕ → ℕ → Parts → Outline

  pub data Parts : Type 0 where
    no_parts : Parts
    stream_part : List ℕ → ℕ → Parts → Parts
    storage_part : List ℕ → Outline → Parts → Parts

abbrev mutual
  pub outline_of : Tree → Outline
  outline_of (tree class state cs) = outline class state (outlines_of cs)

  pub outlines_of : Children → Parts
  outlines_of none = no_parts
  outlines_of (stream key name content cs) = stream_part name (length content) (outlines_of cs)
  outlines_of (storage key name t cs) = storage_part name (outline_of t) (outlines_of cs)

-- what one child is, and how it stands before others
pub data Part : Type 0 where
  sized : ℕ → Part
  nested : Outline → Part

abbrev pub part_of : Seen → Part
part_of (bytes content) = sized (length content)
part_of (inner t) = nested (outline_of t)

abbrev pub part : List ℕ → Part → Parts → Parts
part name (sized size) ps = stream_part name size ps
part name (nested o) ps = storage_part name o ps
