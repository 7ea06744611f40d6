-- What an outline of a file stands for, and the tree that it shows once its streams are read.
use Rattle.std.specs.Prelude.{ℕ, List, [], ◌∷◌, map, if◌then◌else◌, nat_lt}
use Rattle.cfb_chains.specs.Fat.{FatValue, held}
use Rattle.cfb_names.specs.Names.{key}
use Rattle.cfb_entries.specs.Tree.{Tree, Children, tree, none}
use Rattle.tree_storage.specs.Change.{Seen, bytes, inner, child}
use Rattle.cfb_file.specs.Limits.{CUTOFF}
use Rattle.cfb_file.specs.Outline as model
use Rattle.cfb_file.specs.Outline.{outline, no_parts, part, sized, nested}
use Rattle.read_outlines.specs.declared.outline.Place.{Place}
use Rattle.read_outlines.specs.declared.outline.Part.{Part, fold-Part}
use Rattle.read_outlines.specs.declared.outline.Part.TheOpen.{Part-F, Outline-F}
use Rattle.read_outlines.specs.declared.outline.Outline.{Outline, fold-Outline}

-- ---- what is listed of it
abbrev pub parts_of : List (List ℕ × model.Part) → model.Parts
parts_of [] = no_parts
parts_of (p ∷ ps) = part p.0 p.1 (parts_of ps)

abbrev pub part_step : Part-F model.Part model.Outline → model.Part
part_step (Part-F.Stream place) = sized place.size
part_step (Part-F.Storage o) = nested o

abbrev pub outline_step : Outline-F model.Part model.Outline → model.Outline
outline_step o = outline o.class o.state (parts_of o.parts.items)

abbrev pub part_view : Part → model.Part
part_view = fold-Part model.Part model.Outline part_step outline_step

abbrev pub outline_view : Outline → model.Outline
outline_view = fold-Outline model.Part model.Outline part_step outline_step

abbrev pub parts_view : List (List ℕ × Part) → model.Parts
parts_view ps = parts_of (map (λ p. (p.0, part_view p.1)) ps)

-- ---- what is read of it
-- the table that a stream of a size lies in
abbrev pub table_for : ℕ → FatValue → FatValue → FatValue
table_for size fat mini = if nat_lt size CUTOFF then mini else fat

-- the bytes of the stream that lies at a place
abbrev pub contents : FatValue → FatValue → Place → List ℕ
contents fat mini place = held (table_for place.size fat mini) place.first place.size

module _ (content : Place → List ℕ) where
  abbrev pub children_of : List (List ℕ × Seen) → Children
  children_of [] = none
  children_of (c ∷ cs) = child (key c.0) c (children_of cs)

  abbrev pub node_step : Part-F Seen Tree → Seen
  node_step (Part-F.Stream place) = bytes (content place)
  node_step (Part-F.Storage t) = inner t

  abbrev pub storage_step : Outline-F Seen Tree → Tree
  storage_step o = tree o.class o.state (children_of o.parts.items)

  abbrev pub shown_part : Part → Seen
  shown_part = fold-Part Seen Tree node_step storage_step

  abbrev pub shown : Outline → Tree
  shown = fold-Outline Seen Tree node_step storage_step

  abbrev pub shown_parts : List (List ℕ × Part) → Children
  shown_parts ps = children_of (map (λ p. (p.0, shown_part p.1)) ps)
