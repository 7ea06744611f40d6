-- The sectors of the streams of an outline, by the FAT's entries; clauses of functions inside the crate cite these.
use Rattle.std.specs.Prelude.{◌++◌, ℕ, zero, suc, List, [], ◌∷◌, if◌then◌else◌, length, map, nat_lt}
use Rattle.cfb_chains.specs.Fat.{followed}
use Rattle.cfb_file.specs.Limits.{CUTOFF}
use Rattle.read_outlines.specs.declared.outline.Outline.{Outline, fold-Outline}
use Rattle.read_outlines.specs.declared.outline.Part.{Part, fold-Part}
use Rattle.read_outlines.specs.declared.outline.Part.TheOpen.{Outline-F, Part-F}

module _ (table : List ℕ) where
  -- the sectors from one on, each followed by the one that its entry names; none where they are to hold nothing
  abbrev pub chained : ℕ → ℕ → List ℕ
  chained start zero = []
  chained start (suc bytes) = followed table (length table) start

  -- those of the stream at a place: none of its own where it lies in mini sectors
  abbrev pub place_sectors : ℕ → ℕ → List ℕ
  place_sectors first size = if nat_lt size CUTOFF then [] else chained first size

  -- of each part, one behind the other
  abbrev pub all_of : List (List ℕ × List ℕ) → List ℕ
  all_of [] = []
  all_of (p ∷ ps) = p.1 ++ all_of ps

  abbrev pub part_step : Part-F (List ℕ) (List ℕ) → List ℕ
  part_step (Part-F.Stream place) = place_sectors place.first place.size
  part_step (Part-F.Storage ns) = ns

  abbrev pub outline_step : Outline-F (List ℕ) (List ℕ) → List ℕ
  outline_step o = all_of o.parts.items

  abbrev pub part_sectors : Part → List ℕ
  part_sectors = fold-Part (List ℕ) (List ℕ) part_step outline_step

  abbrev pub outline_sectors : Outline → List ℕ
  outline_sectors = fold-Outline (List ℕ) (List ℕ) part_step outline_step

  abbrev pub parts_sectors : List (List ℕ × Part) → List ℕ
  parts_sectors ps = all_of (map (λ p. (p.0, part_sectors p.1)) ps)
