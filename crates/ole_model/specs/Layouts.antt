-- The stream "Layout" of a document: a version and a count of four bytes each, and for each object the column, the
-- line, the width and the height of its area, two bytes each; nothing more.
use Rattle.std.specs.Prelude.{ℕ, zero, suc, ◌∷◌, ◌++◌, List, [], cond, not, length, take, drop, nat_eq, nat_lt, Result}
use Rattle.std.specs.Prelude.{Ok, Err}
use Rattle.std.specs.Int.{w16, w32, from_le_bytes, to_le_bytes}
use Rattle.std.specs.List.{flat_map}
use Rattle.tree_streams.specs.declared.area.Area.{Area}
use Rattle.ole_model.specs.Fields.{map_ok}
use Rattle.ole_model.specs.declared.fault.OleFault.{OleFault}
use Rattle.ole_model.specs.declared.fault.OleFault.TheVariants.{NotADocument, TooManyObjects}

-- the most objects of a document
abbrev pub MOST_OBJECTS : ℕ
MOST_OBJECTS = 64

abbrev pub area_bytes : Area → List ℕ
area_bytes a = to_le_bytes w16 a.x ++ to_le_bytes w16 a.y ++ to_le_bytes w16 a.w ++ to_le_bytes w16 a.h

abbrev pub layout_bytes : List Area → List ℕ
layout_bytes areas = to_le_bytes w32 1 ++ to_le_bytes w32 (length areas) ++ flat_map area_bytes areas

abbrev pub area_at : List ℕ → Area
area_at bytes = record {
  x = from_le_bytes w16 (take 2 bytes);
  y = from_le_bytes w16 (take 2 (drop 2 bytes));
  w = from_le_bytes w16 (take 2 (drop 4 bytes));
  h = from_le_bytes w16 (take 2 (drop 6 bytes));
}

-- so many areas, and nothing behind them
abbrev pub areas_read : ℕ → List ℕ → Result (List Area) OleFault
areas_read zero [] = Ok []
areas_read zero (b ∷ bytes) = Err NotADocument
areas_read (suc count) bytes = cond (nat_lt (length bytes) 8) (Err NotADocument)
    (map_ok (λ areas. area_at (take 8 bytes) ∷ areas) (areas_read count (drop 8 bytes)))

abbrev pub count_of : List ℕ → ℕ
count_of head = from_le_bytes w32 (drop 4 head)

-- the areas behind the first eight bytes
abbrev pub areas_behind : List ℕ → List ℕ → Result (List Area) OleFault
areas_behind head bytes =
    cond (not (nat_eq (from_le_bytes w32 (take 4 head)) 1)) (Err NotADocument) (
    cond (nat_lt MOST_OBJECTS (count_of head)) (Err TooManyObjects) (
    areas_read (count_of head) bytes))

abbrev pub layout_read : List ℕ → Result (List Area) OleFault
layout_read bytes = cond (nat_lt (length bytes) 8) (Err NotADocument) (areas_behind (take 8 bytes) (drop 8 bytes))
