-- How paths are spelled.
use Rattle.std.specs.Prelude.{◌||◌, ℕ, Bool, Option, Some, None, List, [], ◌∷◌, Result, Ok, Err, nat_eq, nat_le}
use Rattle.std.specs.Prelude.{if◌then◌else◌, map}
use Rattle.std.specs.List.{join_with_byte}
use Rattle.std.specs.Option.{option_map}
use Rattle.cfb_names.specs.Names.{is_forbidden, name_read as taken_name}
use Rattle.cfb_names.specs.declared.fault.DirFault.{DirFault}
use Rattle.text_words.specs.Words.{pieces}
use Rattle.text_spelling.specs.Words.{is_hidden, lower_digit, pair_value, onto}
pub use Rattle.text_words.specs.Spelled.{byte_text, name_text}

-- the names of a path, joined by slashes
abbrev pub path_text : List (List ℕ) → List ℕ
path_text names = join_with_byte 47 (map name_text names)

-- what doesn't stand for itself in a name
abbrev pub is_escaped : ℕ → Bool
is_escaped c = is_hidden c || nat_eq c 92

-- what can't stand in a name that spells itself: a hidden byte, one that no name has, or one past ASCII
abbrev pub is_special : ℕ → Bool
is_special c = is_hidden c || is_forbidden c || nat_le 128 c

-- what does stand for itself
abbrev pub plain_byte : ℕ → Option ℕ
plain_byte c = if is_hidden c || nat_eq c 92 then None else Some c

abbrev pub hidden_byte : Option ℕ → Option ℕ
hidden_byte None = None
hidden_byte (Some c) = if is_hidden c then Some c else None

-- what the name of these bytes is
abbrev pub name_read : List ℕ → Option (List ℕ)
name_read [] = Some []
name_read (c ∷ []) = onto (plain_byte c) (Some [])
name_read (c ∷ d ∷ []) = onto (plain_byte c) (name_read (d ∷ []))
name_read (c ∷ d ∷ e ∷ cs) = if nat_eq c 92 then onto (hidden_byte (pair_value (lower_digit d) (lower_digit e)))
    (name_read cs)
    else onto (plain_byte c) (name_read (d ∷ e ∷ cs))

abbrev pub names_read : List (List ℕ) → Option (List (List ℕ))
names_read [] = Some []
names_read (part ∷ parts) = onto (name_read part) (names_read parts)

-- the names that a word spells
abbrev pub spelled_names : List ℕ → Option (List (List ℕ))
spelled_names [] = None
spelled_names (c ∷ cs) = names_read (pieces 47 (c ∷ cs))

abbrev pub named_onto : Result (List ℕ) DirFault → Result (List (List ℕ)) DirFault → Result (List (List ℕ)) DirFault
named_onto (Ok name) (Ok names) = Ok (name ∷ names)
named_onto (Ok name) (Err fault) = Err fault
named_onto (Err fault) others = Err fault

-- these names, where a directory takes all of them, or why it doesn't take the first that it doesn't
abbrev pub named : List (List ℕ) → Result (List (List ℕ)) DirFault
named [] = Ok []
named (name ∷ names) = named_onto (taken_name name) (named names)

-- the path that a word spells
abbrev pub path_read : List ℕ → Option (Result (List (List ℕ)) DirFault)
path_read word = option_map named (spelled_names word)

-- a path of these names, or of this fault of one
abbrev pub path_of : Option DirFault → List (List ℕ) → Result (List (List ℕ)) DirFault
path_of None names = Ok names
path_of (Some fault) names = Err fault
