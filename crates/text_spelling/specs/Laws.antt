-- Laws of the texts.
use Rattle.std.specs.Prelude.{◌≡◌, ◌≢◌, ◌<◌, ◌^◌, ℕ, List, [], Some, Ok}
use Rattle.std.specs.List.{AllByRecursion}
use Rattle.std.specs.Fmt.{decimal}
use Rattle.cfb_names.specs.Names.{IsName}
use Rattle.text_words.specs.Words.{number_read}
use Rattle.text_spelling.specs.Paths.{path_text, path_read}

-- what spells a path of names that a directory takes is read as that path
abbrev pub SpelledPathsAreRead : Type 0
SpelledPathsAreRead = (names : List (List ℕ)) → names ≢ [] → AllByRecursion IsName names
    → path_read (path_text names) ≡ Some (Ok names)

-- a number of 32 bits as Rust prints it is read as that number
abbrev pub PrintedNumbersAreRead : Type 0
PrintedNumbersAreRead = (n : ℕ) → n < 2 ^ 32 → number_read (decimal n) ≡ Some n
