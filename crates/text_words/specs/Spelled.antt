-- How lines, numbers, bytes, names and class ids are spelled.
use Rattle.std.specs.Fmt.{decimal}
use Rattle.std.specs.Prelude.{◌+◌, ◌/◌, ◌%◌, ◌||◌, ◌++◌, ℕ, Bool, List, [], ◌∷◌, if◌then◌else◌, nat_le, nat_lt, nat_eq}
use Rattle.std.specs.List.{flat_map}
use Rattle.uuid.specs.Parts.{swap_fields}
use Rattle.uuid.specs.Text.{hyphenated_text, lower}

-- words parted by one space, and the line's end
abbrev pub line : List (List ℕ) → List ℕ
line [] = 10 ∷ []
line (word ∷ []) = word ++ 10 ∷ []
line (word ∷ next ∷ words) = word ++ 32 ∷ line (next ∷ words)

-- the lower-case hexadecimal digit of a number below 16
abbrev pub digit_text : ℕ → ℕ
digit_text n = if nat_lt n 10 then 48 + n else 87 + n

abbrev pub byte_hex : ℕ → List ℕ
byte_hex c = digit_text (c / 16) ∷ digit_text (c % 16) ∷ []

-- bytes, two hexadecimal digits each
abbrev pub hex : List ℕ → List ℕ
hex bytes = flat_map byte_hex bytes

-- a byte up to 32, or 127: one that ends a word or can't be seen
abbrev pub is_hidden : ℕ → Bool
is_hidden c = nat_le c 32 || nat_eq c 127

-- how a byte of a name is spelled: a hidden one as a backslash and two digits
abbrev pub byte_text : ℕ → List ℕ
byte_text c = if is_hidden c then 92 ∷ byte_hex c else c ∷ []

abbrev pub name_text : List ℕ → List ℕ
name_text name = flat_map byte_text name

-- The text of a class id, whose first three fields stand in files with their lowest bytes first (MS-DTYP 2.3.4.2).
abbrev pub class_text : List ℕ → List ℕ
class_text class = hyphenated_text lower (swap_fields class)

-- a number in decimal, behind a text
abbrev pub numbered : List ℕ → ℕ → List ℕ
numbered before n = before ++ decimal n
