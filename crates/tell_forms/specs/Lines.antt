-- The listing of a tree: a line for the root, and then one for each storage and stream, depth first in name order. It
-- is one of the tree's outline, since a stream is listed by its length.
use Rattle.std.specs.Prelude.{◌++◌, ℕ, List, [], ◌∷◌, codes}
use Rattle.std.specs.Fmt.{decimal}
use Rattle.cfb_entries.specs.Tree.{Tree}
use Rattle.cfb_file.specs.Outline.{Outline, Part, Parts, nested, no_parts, outline, outline_of, sized, storage_part}
use Rattle.cfb_file.specs.Outline.{stream_part}
use Rattle.text_words.specs.Spelled.{class_text, name_text}

abbrev pub class_of : Outline → List ℕ
class_of (outline class state ps) = class

-- words parted by one space, and the line's end
abbrev pub line : List (List ℕ) → List ℕ
line [] = 10 ∷ []
line (word ∷ []) = word ++ 10 ∷ []
line (word ∷ next ∷ words) = word ++ 32 ∷ line (next ∷ words)

abbrev pub root_line : List ℕ → List ℕ
root_line class = line (codes "root" ∷ class_text class ∷ [])

abbrev pub storage_line : List ℕ → List ℕ → List ℕ
storage_line path class = line (codes "storage" ∷ path ∷ class_text class ∷ [])

abbrev pub stream_line : List ℕ → ℕ → List ℕ
stream_line path size = line (codes "stream" ∷ path ∷ decimal size ∷ [])

-- The lines of what stands below a storage, before whose names the text `within` stands: nothing for the root, and else
-- the storage's path and a slash.
abbrev mutual
  pub storage_lines : List ℕ → Outline → List ℕ
  storage_lines path (outline class state ps) = storage_line path class ++ each (path ++ 47 ∷ []) ps

  pub each : List ℕ → Parts → List ℕ
  each within no_parts = []
  each within (stream_part name size ps) = stream_line (within ++ name_text name) size ++ each within ps
  each within (storage_part name o ps) = storage_lines (within ++ name_text name) o ++ each within ps

abbrev pub below : List ℕ → Outline → List ℕ
below within (outline class state ps) = each within ps

abbrev pub listed : Outline → List ℕ
listed o = root_line (class_of o) ++ below [] o

abbrev pub listing : Tree → List ℕ
listing t = listed (outline_of t)

-- the lines of one child
abbrev pub child_lines : List ℕ → List ℕ → Part → List ℕ
child_lines within name (sized size) = stream_line (within ++ name_text name) size
child_lines within name (nested o) = storage_lines (within ++ name_text name) o
