-- The stream "\1CompObj" (MS-OLEDS 2.3.8).
use Rattle.std.specs.Prelude.{ℕ, ◌∷◌, ◌++◌, List, [], cond, length, drop, nat_lt, Result, Err}
use Rattle.ole_model.specs.declared.fault.OleFault.{OleFault}
use Rattle.ole_model.specs.declared.fault.OleFault.TheVariants.{Truncated}
use Rattle.ole_model.specs.Fields.{map_ok, on_ok, string, format, string_bytes}

-- how many bytes a class id has (MS-DTYP 2.3.4.2)
abbrev pub CLASS_BYTES : ℕ
CLASS_BYTES = 16

-- the first length that a user type can't have, so that its size with the closing zero fits four bytes
abbrev pub PAST_USER_TYPE : ℕ
PAST_USER_TYPE = 0xFFFFFFFF

-- how many bytes stand before the user type
abbrev pub BEFORE_USER_TYPE : ℕ
BEFORE_USER_TYPE = 28

-- A header of 28 bytes, the user type, a clipboard format. What is read is the user type; the header is free, and so is
-- what stands behind the format.
unfoldable pub user_type_behind : List ℕ → Result (List ℕ) OleFault
user_type_behind bytes = on_ok (λ user. map_ok (λ rest. user.0) (format user.1)) (string bytes)

abbrev pub user_type_read : List ℕ → Result (List ℕ) OleFault
user_type_read bytes = cond (nat_lt (length bytes) BEFORE_USER_TYPE) (Err Truncated)
    (user_type_behind (drop BEFORE_USER_TYPE bytes))

-- the first twelve bytes of the header, before the class id
abbrev pub header : List ℕ
header = 0x01 ∷ 0x00 ∷ 0xFE ∷ 0xFF ∷ 0x03 ∷ 0x0A ∷ 0x00 ∷ 0x00 ∷ 0xFF ∷ 0xFF ∷ 0xFF ∷ 0xFF ∷ []

-- it is written with the class id in its header, without a clipboard format, and with one more string, which is empty
abbrev pub comp_obj_bytes : List ℕ → List ℕ → List ℕ
comp_obj_bytes class user_type = header ++ class ++ string_bytes user_type ++ string_bytes [] ++ string_bytes []
