-- The lines of an edit, and what they ask for.
use Rattle.std.specs.Prelude.{◌&&◌, ℕ, Bool, Option, Some, None, List, [], ◌∷◌, cond, codes, length, nat_le, replicate}
use Rattle.std.specs.List.{list_all}
use Rattle.std.specs.Option.{option_map}
use Rattle.std.specs.Str.{bytes_eq}
use Rattle.text_words.specs.Words.{words, number_read}
use Rattle.text_spelling.specs.Words.{byte_read, content_read, is_visible}
use Rattle.text_spelling.specs.Paths.{path_read}
use Rattle.uuid.specs.Parts.{swap_fields}
use Rattle.uuid.specs.Text.{parsed}
use Rattle.tree_edits.specs.declared.change.Change.{Change}
use Rattle.tree_edits.specs.declared.change.Change.TheVariants.{Put, Fill, Storage, Remove, Rename, Mark, MarkRoot}
use Rattle.tree_edits.specs.declared.change.Mark.TheVariants.{Class, State}
use Rattle.tree_edits.specs.declared.change.Mark as declared
use Rattle.tree_edits.specs.declared.change.Line.{Line}
use Rattle.tree_edits.specs.declared.change.Line.TheVariants.{Plain, File}

-- what two words ask for that are read
abbrev pub both : {A B C : Type 0} → (A → B → C) → Option A → Option B → Option C
both f (Some a) (Some b) = Some (f a b)
both f (Some a) None = None
both f None b = None

-- and three
abbrev pub all_three : {A B C D : Type 0} → (A → B → C → D) → Option A → Option B → Option C → Option D
all_three f (Some a) (Some b) (Some c) = Some (f a b c)
all_three f (Some a) (Some b) None = None
all_three f (Some a) None c = None
all_three f None b c = None

-- a file that a line names has 1 to 64 visible characters
abbrev pub is_file_name : List ℕ → Bool
is_file_name name = nat_le 1 (length name) && nat_le (length name) 64 && list_all is_visible name

abbrev pub name_read : List ℕ → Option (List ℕ)
name_read word = cond (is_file_name word) (Some word) None

-- a class id, as a listing prints it
abbrev pub class_read : List ℕ → Option (List ℕ)
class_read word = option_map swap_fields (parsed word)

-- what stands behind the name of a line
abbrev pub stream_read : List (List ℕ) → Option Line
stream_read (path ∷ bytes ∷ []) = both (λ p b. Plain (Put p b)) (path_read path) (content_read bytes)
stream_read _ = None

abbrev pub fill_read : List (List ℕ) → Option Line
fill_read (path ∷ count ∷ byte ∷ []) = all_three (λ p n b. Plain (Fill p n b)) (path_read path) (number_read count)
    (byte_read byte)
fill_read _ = None

abbrev pub file_read : List (List ℕ) → Option Line
file_read (path ∷ name ∷ []) = both File (path_read path) (name_read name)
file_read _ = None

abbrev pub storage_of : List ℕ → List ℕ → Option Line
storage_of class path = option_map (λ p. Plain (Storage p class)) (path_read path)

abbrev pub storage_classed : Option (List ℕ) → List ℕ → Option Line
storage_classed (Some class) path = storage_of class path
storage_classed None path = None

abbrev pub storage_read : List (List ℕ) → Option Line
storage_read (path ∷ []) = storage_of (replicate 16 0) path
storage_read (path ∷ class ∷ []) = storage_classed (class_read class) path
storage_read _ = None

abbrev pub remove_read : List (List ℕ) → Option Line
remove_read (path ∷ []) = option_map (λ p. Plain (Remove p)) (path_read path)
remove_read _ = None

abbrev pub rename_read : List (List ℕ) → Option Line
rename_read (path ∷ name ∷ []) = both (λ p n. Plain (Rename p n)) (path_read path) (path_read name)
rename_read _ = None

-- A slash alone stands for the root, which has no path.
abbrev pub marked_at : declared.Mark → List ℕ → Option Line
marked_at mark path = cond (bytes_eq path (codes "/")) (Some (Plain (MarkRoot mark)))
    (option_map (λ p. Plain (Mark p mark)) (path_read path))

abbrev pub classed : Option (List ℕ) → List ℕ → Option Line
classed (Some class) path = marked_at (Class class) path
classed None path = None

abbrev pub stated : Option ℕ → List ℕ → Option Line
stated (Some bits) path = marked_at (State bits) path
stated None path = None

abbrev pub class_line : List (List ℕ) → Option Line
class_line (path ∷ class ∷ []) = classed (class_read class) path
class_line _ = None

abbrev pub state_line : List (List ℕ) → Option Line
state_line (path ∷ bits ∷ []) = stated (number_read bits) path
state_line _ = None

-- what a name and the words behind it ask for
abbrev pub mark_named : List ℕ → List (List ℕ) → Option Line
mark_named name others =
    cond (bytes_eq name (codes "class")) (class_line others) (
    cond (bytes_eq name (codes "state")) (state_line others) None)

abbrev pub change_named : List ℕ → List (List ℕ) → Option Line
change_named name others =
    cond (bytes_eq name (codes "storage")) (storage_read others) (
    cond (bytes_eq name (codes "remove")) (remove_read others) (
    cond (bytes_eq name (codes "rename")) (rename_read others) (mark_named name others)))

abbrev pub line_named : List ℕ → List (List ℕ) → Option Line
line_named name others =
    cond (bytes_eq name (codes "stream")) (stream_read others) (
    cond (bytes_eq name (codes "fill")) (fill_read others) (
    cond (bytes_eq name (codes "file")) (file_read others) (change_named name others)))

abbrev pub words_read : List (List ℕ) → Option Line
words_read [] = None
words_read (name ∷ others) = line_named name others

-- what a line asks for
abbrev pub line_read : List ℕ → Option Line
line_read line = words_read (words line)

-- what line n asks for, with its number
abbrev pub numbered_read : ℕ → List ℕ → Option (ℕ × Line)
numbered_read n line = option_map (λ asked. (n, asked)) (line_read line)
