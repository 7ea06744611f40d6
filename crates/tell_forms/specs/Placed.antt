-- An outline of a file with where its streams lie.
use Rattle.std.specs.Prelude.{ℕ, List, [], ◌∷◌, map}
use Rattle.read_outlines.specs.declared.outline.Outline as raw
use Rattle.read_outlines.specs.declared.outline.Outline.{fold-Outline}
use Rattle.read_outlines.specs.declared.outline.Part as raw_part
use Rattle.read_outlines.specs.declared.outline.Part.{fold-Part}
use Rattle.read_outlines.specs.declared.outline.Part.TheOpen.{Part-F, Outline-F}
use Rattle.read_outlines.specs.declared.outline.Place.{Place}

-- A storage is its class id, its state bits and its children in name order, each with its name as it is spelled: a
-- stream, which lies somewhere and has so many bytes, or a storage.
mutual
  pub data Placed : Type 0 where
    placed : List ℕ → ℕ → Parts → Placed

  pub data Parts : Type 0 where
    no_parts : Parts
    stream_part : List ℕ → Place → Parts → Parts
    storage_part : List ℕ → Placed → Parts → Parts

-- what one child is, and how it stands before others
pub data Part : Type 0 where
  lies : Place → Part
  nested : Placed → Part

abbrev pub part : List ℕ → Part → Parts → Parts
part name (lies place) ps = stream_part name place ps
part name (nested o) ps = storage_part name o ps

-- ---- what the reader's outline is
abbrev pub parts_of : List (List ℕ × Part) → Parts
parts_of [] = no_parts
parts_of (p ∷ ps) = part p.0 p.1 (parts_of ps)

abbrev pub part_step : Part-F Part Placed → Part
part_step (Part-F.Stream place) = lies place
part_step (Part-F.Storage o) = nested o

abbrev pub placed_step : Outline-F Part Placed → Placed
placed_step o = placed o.class o.state (parts_of o.parts.items)

abbrev pub part_placed : raw_part.Part → Part
part_placed = fold-Part Part Placed part_step placed_step

abbrev pub placed_view : raw.Outline → Placed
placed_view = fold-Outline Part Placed part_step placed_step

abbrev pub parts_placed : List (List ℕ × raw_part.Part) → Parts
parts_placed ps = parts_of (map (λ p. (p.0, part_placed p.1)) ps)
