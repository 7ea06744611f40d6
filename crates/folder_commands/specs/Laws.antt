-- Laws of the names in folders.
use Rattle.std.specs.Prelude.{◌≡◌, ℕ, List, map}
use Rattle.std.specs.Char.{to_ascii_uppercase}
use Rattle.cfb_names.specs.Names.{IsName, key}
use Rattle.folder_commands.specs.Paths.{component}

-- a name in a folder, as a file system sees it that takes the two cases of a letter for one
abbrev pub folded : List ℕ → List ℕ
folded text = map to_ascii_uppercase text

-- names that stand under one name in a folder, but for the case of letters, are one name of a storage
abbrev pub ComponentsAreApart : Type 0
ComponentsAreApart = (a b : List ℕ) → IsName a → IsName b → folded (component a) ≡ folded (component b) → key a ≡ key b
