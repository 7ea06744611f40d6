-- The changes that lines ask for once the files are read that they name.
use Rattle.std.specs.Prelude.{◌≡◌, ◌++◌, ℕ, List, [], ◌∷◌}
use Rattle.tree_edits.specs.declared.change.Change.{Change}
use Rattle.tree_edits.specs.declared.change.Change.TheVariants.{Put}
use Rattle.tree_edits.specs.declared.change.Line.{Line}
use Rattle.tree_edits.specs.declared.change.Line.TheVariants.{Plain, File}
use Rattle.tree_edits.specs.declared.files.FilesFault.{FilesFault}
use Rattle.tree_edits.specs.declared.files.FilesFault.TheVariants.{Unread, NoMemory}

-- The change that a line asks for: a file that it names gave the stream's bytes.
abbrev pub IsGiven : (List ℕ → List ℕ → Type 0) → Line → Change → Type 0
IsGiven gives (Plain asked) change = change ≡ asked
IsGiven gives (File path name) change = (bytes : List ℕ) × gives name bytes × (change ≡ Put path bytes)

-- those that lines ask for, each with the number of its line
abbrev pub AreGiven : (List ℕ → List ℕ → Type 0) → List (ℕ × Line) → List (ℕ × Change) → Type 0
AreGiven gives [] [] = Unit {0}
AreGiven gives [] (change ∷ changes) = ⊥
AreGiven gives (line ∷ lines) [] = ⊥
AreGiven gives ((n, line) ∷ lines) ((m, change) ∷ changes) = (m ≡ n) × IsGiven gives line change
    × AreGiven gives lines changes

-- a line names this file
abbrev pub NamesFile : Line → List ℕ → Type 0
NamesFile (Plain asked) name = ⊥
NamesFile (File path named) name = named ≡ name

-- one of the lines names this file
pub record IsNamed (lines : List (ℕ × Line)) (name : List ℕ) : Type 0 where
  pub n : ℕ
  pub before : List (ℕ × Line)
  pub line : Line
  pub behind : List (ℕ × Line)
  pub all : lines ≡ before ++ (n, line) ∷ behind
  pub names : NamesFile line name

-- when files aren't read
abbrev pub MayRefuseFiles : List (ℕ × Line) → FilesFault → Type 0
MayRefuseFiles lines (Unread name fault) = IsNamed lines name
MayRefuseFiles lines NoMemory = Unit {0}
