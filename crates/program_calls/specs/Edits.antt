-- What the edit of a file puts, and what its faults mean.
use Rattle.std.specs.Prelude.{◌≡◌, ◌<◌, ◌⊎◌, ℕ, List, Ok, length}
use Rattle.text_io.specs.Input.{most}
use Rattle.text_io.specs.Lines.{RefusesText, text_read}
use Rattle.text_io.specs.declared.lines.SyntaxFault.{SyntaxFault}
use Rattle.tree_edits.specs.Given.{AreGiven, IsNamed}
use Rattle.tree_edits.specs.Lines.{numbered_read}
use Rattle.tree_edits.specs.declared.change.Change.{Change}
use Rattle.tree_edits.specs.declared.change.Line.{Line}
use Rattle.store_edits.specs.Edits.{IsEdit, MayRefuseUpdate}
use Rattle.store_edits.specs.declared.fault.EditFault.{EditFault}
use Rattle.store_edits.specs.declared.fault.EditFault.TheVariants as edit
use Rattle.program_calls.specs.declared.editing.LinesFault.{LinesFault}
use Rattle.program_calls.specs.declared.editing.LinesFault.TheVariants as lines_fault
use Rattle.program_calls.specs.Numbers.{edit_number, syntax_number}

-- In memory no file has a name, so a line that names one gives nothing.
abbrev pub no_file : List ℕ → List ℕ → Type 0
no_file name bytes = ⊥

-- the line of a fault of an edit; 0 where it is of none
abbrev pub edit_line : EditFault → ℕ
edit_line (edit.Store fault) = 0
edit_line (edit.Read fault) = 0
edit_line (edit.Line n fault) = n
edit_line (edit.Write fault) = 0

-- why there is no file of the tree that changes make of another's, and which line is refused
abbrev pub IsRefusedUpdate : List ℕ → List (ℕ × Change) → ℕ → ℕ → Type 0
IsRefusedUpdate file changes line number =
    (fault : EditFault) × (line ≡ edit_line fault) × (number ≡ edit_number fault) × MayRefuseUpdate changes file fault

-- when lines ask for no changes: one names a file, or no memory was left
abbrev pub MayRefuseLines : List (ℕ × Line) → LinesFault → Type 0
MayRefuseLines lines (lines_fault.Named n) = (name : List ℕ) × (named : IsNamed lines name) × (n ≡ named.n)
MayRefuseLines lines lines_fault.NoMemory = Unit {0}

-- likewise of the changes that lines ask for: one that names a file is refused
abbrev pub IsEditedBy : List ℕ → List (ℕ × Line) → List ℕ → Type 0
IsEditedBy file lines bytes = (changes : List (ℕ × Change)) × AreGiven no_file lines changes × IsEdit changes file bytes

abbrev pub IsRefusedBy : List ℕ → List (ℕ × Line) → ℕ → ℕ → Type 0
IsRefusedBy file lines line number =
    ((number ≡ 4) × MayRefuseLines lines (lines_fault.Named line))
    ⊎ ((number ≡ 2) × (line ≡ 0))
    ⊎ ((changes : List (ℕ × Change)) × AreGiven no_file lines changes × IsRefusedUpdate file changes line number)

-- likewise of the lines of a text
abbrev pub IsEdited : List ℕ → List ℕ → List ℕ → Type 0
IsEdited file text bytes = (lines : List (ℕ × Line)) × (text_read numbered_read text ≡ Ok lines)
    × IsEditedBy file lines bytes

abbrev pub IsRefusedEdit : List ℕ → List ℕ → ℕ → ℕ → Type 0
IsRefusedEdit file text line number =
    ((number ≡ 3) × (line ≡ 0) × (most < length text))
    ⊎ ((fault : SyntaxFault) × (number ≡ syntax_number fault) × RefusesText numbered_read text (line, fault))
    ⊎ ((lines : List (ℕ × Line)) × (text_read numbered_read text ≡ Ok lines) × IsRefusedBy file lines line number)
