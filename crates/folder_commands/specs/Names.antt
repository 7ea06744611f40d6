-- Names in folders, read as names of storages and streams.
use Rattle.std.specs.Prelude.{◌≡◌, ◌||◌, ℕ, Bool, Option, Some, None, List, [], ◌∷◌, nat_eq, if◌then◌else◌}
use Rattle.cfb_names.specs.Names.{IsName}
use Rattle.text_spelling.specs.Words.{is_hidden, lower_digit, onto, pair_value}
use Rattle.text_spelling.specs.Paths.{plain_byte}
use Rattle.folder_commands.specs.Paths.{component}

-- what a backslash and two digits may stand for: a byte that can't be seen, or a dot
abbrev pub is_escaped : ℕ → Bool
is_escaped c = is_hidden c || nat_eq c 46

abbrev pub escaped_byte : Option ℕ → Option ℕ
escaped_byte None = None
escaped_byte (Some c) = if is_escaped c then Some c else None

-- what the name of a text in a folder is
abbrev pub component_read : List ℕ → Option (List ℕ)
component_read [] = Some []
component_read (c ∷ []) = onto (plain_byte c) (Some [])
component_read (c ∷ d ∷ []) = onto (plain_byte c) (component_read (d ∷ []))
component_read (c ∷ d ∷ e ∷ cs) = if nat_eq c 92
    then onto (escaped_byte (pair_value (lower_digit d) (lower_digit e))) (component_read cs)
    else onto (plain_byte c) (component_read (d ∷ e ∷ cs))

-- what a folder holds a name as is read as that name
abbrev pub ComponentsAreRead : Type 0
ComponentsAreRead = (name : List ℕ) → IsName name → component_read (component name) ≡ Some name
