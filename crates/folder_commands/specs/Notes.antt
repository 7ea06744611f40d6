-- What a folder tells of its storage beside its children.
use Rattle.std.specs.Prelude.{◌++◌, ◌&&◌, ℕ, Bool, List, [], ◌∷◌, codes, nat_eq, replicate}
use Rattle.std.specs.Str.{bytes_eq}
use Rattle.text_words.specs.Spelled.{class_text, numbered}

-- a class id and state bits of zeros
abbrev pub is_plain : List ℕ → ℕ → Bool
is_plain class state = bytes_eq class (replicate 16 0) && nat_eq state 0

-- a line of both
abbrev pub notes_text : List ℕ → ℕ → List ℕ
notes_text class state = class_text class ++ numbered (codes " ") state ++ 10 ∷ []
