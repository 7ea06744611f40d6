-- Bytes in the words of the texts that the program reads.
use Rattle.std.specs.Prelude.{◌+◌, ◌-◌, ◌*◌, ◌&&◌, ℕ, Bool, Option, Some, None, List, [], ◌∷◌, nat_le, nat_lt, nat_eq}
use Rattle.std.specs.Prelude.{cond}
use Rattle.std.specs.Char.{is_ascii_digit}
pub use Rattle.text_words.specs.Spelled.{is_hidden}

-- the value of a hexadecimal digit, a lower-case one
abbrev pub lower_digit : ℕ → Option ℕ
lower_digit c = cond (is_ascii_digit c) (Some (c - 48)) (cond (nat_le 97 c && nat_le c 102) (Some (c - 87)) None)

-- the value of a hexadecimal digit, in either case
abbrev pub hex_digit : ℕ → Option ℕ
hex_digit c = cond (nat_le 65 c && nat_le c 70) (Some (c - 55)) (lower_digit c)

-- so many times the value of a digit, or 256 where there is none
abbrev pub weighed : ℕ → Option ℕ → ℕ
weighed weight None = 256
weighed weight (Some value) = weight * value

-- what a number tells of a byte: its value, or that there is none
abbrev pub byte_told : ℕ → Option ℕ
byte_told value = cond (nat_lt value 256) (Some value) None

-- two digits as one byte
abbrev pub pair_value : Option ℕ → Option ℕ → Option ℕ
pair_value (Some a) (Some b) = Some (16 * a + b)
pair_value (Some a) None = None
pair_value None b = None

-- a byte in two hexadecimal digits of either case
abbrev pub byte_read : List ℕ → Option ℕ
byte_read (a ∷ b ∷ []) = pair_value (hex_digit a) (hex_digit b)
byte_read _ = None

abbrev pub onto : {A : Type 0} → Option A → Option (List A) → Option (List A)
onto None xs = None
onto (Some x) None = None
onto (Some x) (Some xs) = Some (x ∷ xs)

-- bytes, two hexadecimal digits each
abbrev pub hex_read : List ℕ → Option (List ℕ)
hex_read [] = Some []
hex_read (a ∷ []) = None
hex_read (a ∷ b ∷ cs) = onto (pair_value (hex_digit a) (hex_digit b)) (hex_read cs)

-- the bytes of a stream: hexadecimal, or `-` for none
abbrev pub content_read : List ℕ → Option (List ℕ)
content_read [] = None
content_read (c ∷ []) = cond (nat_eq c 45) (Some []) None
content_read (c ∷ d ∷ ds) = hex_read (c ∷ d ∷ ds)

-- printable ASCII, and no space
abbrev pub is_visible : ℕ → Bool
is_visible c = nat_le 33 c && nat_le c 126
