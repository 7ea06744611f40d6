-- The three kinds: their classes, what they show, what they do with an edit.
use Rattle.std.specs.Prelude.{ℕ, List, [], ◌∷◌, codes}
use Rattle.object_state.specs.declared.menu_texts.Menus.{Menus}
use Rattle.object_core.specs.Content.{Content, note, table, drawing}

pub data Kind : Type 0 where
  Note : Kind
  Table : Kind
  Drawing : Kind

abbrev pub kind_of : Content → Kind
kind_of (note text) = Note
kind_of (table entries) = Table
kind_of (drawing shapes) = Drawing

-- a class id of this project, as it stands in a file: 6f1d2aNN-3c4b-4e5f-8a9b-0c1d2e3f4051
abbrev pub class_with : ℕ → List ℕ
class_with n = n ∷ 0x2a ∷ 0x1d ∷ 0x6f ∷ 0x4b ∷ 0x3c ∷ 0x5f ∷ 0x4e ∷ 0x8a ∷ 0x9b ∷ 0x0c ∷ 0x1d ∷ 0x2e ∷ 0x3f ∷ 0x40
    ∷ 0x51 ∷ []

abbrev pub class_of : Kind → List ℕ
class_of Note = class_with 1
class_of Table = class_with 2
class_of Drawing = class_with 3

-- what a new object contains
abbrev pub empty : Kind → Content
empty Note = note []
empty Table = table []
empty Drawing = drawing []

-- the texts of the menus under groups 1, 3 and 5
abbrev pub object_text : Kind → List ℕ
object_text Note = codes "Note"
object_text Table = codes "Table"
object_text Drawing = codes "Draw"

abbrev pub menus_of : Kind → Menus
menus_of k = record { edit = codes "Edit"; object = object_text k; help = codes "Help" }

-- the border space that the object asks for: left, top, right, bottom
abbrev pub border_of : Kind → List ℕ
border_of Note = 0 ∷ 1 ∷ 0 ∷ 0 ∷ []
border_of Table = 2 ∷ 1 ∷ 0 ∷ 0 ∷ []
border_of Drawing = 3 ∷ 0 ∷ 0 ∷ 0 ∷ []
