-- How names of storages and streams are spelled as names of folders and files, and paths of these.
use Rattle.std.specs.Prelude.{◌≡◌, ◌≢◌, ◌||◌, ◌++◌, ℕ, Bool, false, List, [], ◌∷◌, nat_eq, cond}
use Rattle.std.specs.List.{AllByRecursion, join_with_byte, list_any}
use Rattle.text_words.specs.Spelled.{byte_text}

-- The last byte of a name: a dot is spelled as a backslash and its two digits, since `.` and `..` are the folder itself
-- and the one above it, and some systems drop a dot at the end.
abbrev pub last_text : ℕ → List ℕ
last_text c = cond (nat_eq c 46) (92 ∷ 50 ∷ 101 ∷ []) (byte_text c)

-- a name as a folder can hold it: as paths spell it, but for a dot at its end
abbrev pub component : List ℕ → List ℕ
component [] = []
component (c ∷ []) = last_text c
component (c ∷ d ∷ ds) = byte_text c ++ component (d ∷ ds)

-- what no name in a folder can hold: a zero, and a slash
abbrev pub is_parting : ℕ → Bool
is_parting c = nat_eq c 0 || nat_eq c 47

-- a name in a folder, which leads neither to the folder itself nor above it
pub record IsComponent (text : List ℕ) : Type 0 where
  pub some : text ≢ []
  pub below : text ≢ 46 ∷ []
  pub not_above : text ≢ 46 ∷ 46 ∷ []
  pub one : list_any is_parting text ≡ false

-- a path of such names alone: it is relative, and what it leads to stands inside the folder that it begins at
pub record IsInside (path : List ℕ) : Type 0 where
  pub names : List (List ℕ)
  pub are : AllByRecursion IsComponent names
  pub joined : path ≡ join_with_byte 47 names

-- what stands before a name below a path: nothing, or the path and a slash
abbrev pub before : List ℕ → List ℕ
before [] = []
before (c ∷ cs) = (c ∷ cs) ++ 47 ∷ []

-- the path of a name below a path
abbrev pub joined : List ℕ → List ℕ → List ℕ
joined path name = before path ++ component name
