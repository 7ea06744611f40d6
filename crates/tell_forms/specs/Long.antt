-- The listing of an outline in columns, for eyes: what each entry is, the size of a stream, its path, and in brackets
-- what its class id or its name tells.
use Rattle.std.specs.Prelude.{◌++◌, ◌-◌, ℕ, List, [], ◌∷◌, codes, cond, length, nat_eq, replicate}
use Rattle.std.specs.Fmt.{decimal}
use Rattle.cfb_file.specs.Outline.{Outline, Part, Parts, nested, no_parts, outline, sized, storage_part, stream_part}
use Rattle.text_words.specs.Spelled.{class_text, name_text}
use Rattle.tell_forms.specs.Classes.{class_name}
use Rattle.tell_forms.specs.Streams.{stream_meaning}

-- the heads of the columns
abbrev pub heading : List ℕ
heading = codes "kind         size  path\n"

-- a number at the right of ten columns
abbrev pub right_text : ℕ → List ℕ
right_text n = replicate (10 - length (decimal n)) 32 ++ decimal n

-- a note in brackets, where there is one
abbrev pub note_text : List ℕ → List ℕ
note_text note = cond (nat_eq (length note) 0) [] (codes "  (" ++ (note ++ 41 ∷ []))

-- the row of the root or of a storage
abbrev pub storage_row : List ℕ → List ℕ → List ℕ → List ℕ
storage_row kind path class =
    kind ++ (codes "            " ++ (path ++ (note_text (class_name (class_text class)) ++ 10 ∷ [])))

-- the row of a stream
abbrev pub stream_row : List ℕ → List ℕ → ℕ → List ℕ
stream_row path name size = codes "stream "
    ++ (right_text size ++ (codes "  " ++ (path ++ (note_text (stream_meaning name) ++ 10 ∷ []))))

-- The rows of what stands below a storage, before whose names the text `within` stands: nothing for the root, and else
-- the storage's path and a slash.
abbrev mutual
  pub storage_rows : List ℕ → Outline → List ℕ
  storage_rows path (outline class state ps) = storage_row (codes "storage") path class ++ each_row (path ++ 47 ∷ []) ps

  pub each_row : List ℕ → Parts → List ℕ
  each_row within no_parts = []
  each_row within (stream_part name size ps) = stream_row (within ++ name_text name) name size ++ each_row within ps
  each_row within (storage_part name o ps) = storage_rows (within ++ name_text name) o ++ each_row within ps

abbrev pub below_rows : List ℕ → Outline → List ℕ
below_rows within (outline class state ps) = each_row within ps

-- the heads, the root under the path of a slash, and what stands below it
abbrev pub long_listed : Outline → List ℕ
long_listed (outline class state ps) = heading ++ (storage_row (codes "root   ") (47 ∷ []) class ++ each_row [] ps)

-- the rows of one child
abbrev pub child_rows : List ℕ → List ℕ → Part → List ℕ
child_rows within name (sized size) = stream_row (within ++ name_text name) name size
child_rows within name (nested o) = storage_rows (within ++ name_text name) o
