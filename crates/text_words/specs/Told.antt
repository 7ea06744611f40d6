-- How a text from outside is told.
use Rattle.std.specs.Prelude.{ℕ, ◌/◌, ◌%◌, List, [], ◌∷◌, if◌then◌else◌}
use Rattle.std.specs.Char.{is_control}
use Rattle.std.specs.List.{flat_map}
use Rattle.std.specs.Str.{chars, encode_utf8_all}
use Rattle.text_words.specs.Spelled.{digit_text}

-- The characters in which one is told: a control character, whose code is below 256, as a backslash and two digits.
abbrev pub told_as : ℕ → List ℕ
told_as c = if is_control c then 92 ∷ digit_text (c / 16 % 16) ∷ digit_text (c % 16) ∷ [] else c ∷ []

abbrev pub told_character : ℕ → List ℕ
told_character c = encode_utf8_all (told_as c)

abbrev pub told : List ℕ → List ℕ
told text = flat_map told_character (chars text)
