-- Names of directory entries and their order (MS-CFB 2.6.1, 2.6.4).
use Rattle.std.specs.Prelude.{◌≡◌, ◌≤◌, ◌<◌, ◌-◌, ◌||◌, ℕ, Bool, false, List, [], ◌∷◌, ◌++◌, length, map, replicate}
use Rattle.std.specs.Prelude.{nat_lt, nat_le, nat_eq, cond, Result, Ok, Err}
use Rattle.std.specs.List.{list_any}
use Rattle.std.specs.Char.{to_ascii_uppercase}
use Rattle.std.specs.Ordering.{nat_cmp, is_eq}
use Rattle.std.specs.Cmp.Lexicographic.{slice_cmp}
use Rattle.std.specs.declared.cmp.Ordering.{Ordering}
use Rattle.cfb_names.specs.declared.fault.DirFault.{DirFault}
use Rattle.cfb_names.specs.declared.fault.DirFault.TheVariants.{NameEmpty, NameTooLong, NameNotAscii, NameForbidden}

-- zero, or one of / \ : !
abbrev pub is_forbidden : ℕ → Bool
is_forbidden c = nat_eq c 0 || nat_eq c 47 || nat_eq c 92 || nat_eq c 58 || nat_eq c 33

-- 1 to 31 characters of ASCII, none of them forbidden
pub record IsName (name : List ℕ) : Type 0 where
  pub some : 0 < length name
  pub short : length name ≤ 31
  pub ascii : list_any (nat_le 128) name ≡ false
  pub allowed : list_any is_forbidden name ≡ false

-- "Root Entry", the name of the root (MS-CFB 2.6.2)
abbrev pub root_name : List ℕ
root_name = 82 ∷ 111 ∷ 111 ∷ 116 ∷ 32 ∷ 69 ∷ 110 ∷ 116 ∷ 114 ∷ 121 ∷ []

-- what bytes are refused for as a name, in the order of the checks
abbrev pub name_read : List ℕ → Result (List ℕ) DirFault
name_read bytes =
    cond (nat_eq (length bytes) 0) (Err NameEmpty) (
    cond (nat_lt 31 (length bytes)) (Err NameTooLong) (
    cond (list_any (nat_le 128) bytes) (Err NameNotAscii) (
    cond (list_any is_forbidden bytes) (Err NameForbidden) (
    Ok bytes))))

-- names are compared by their lengths, the shorter being less, and then by their characters in upper case
abbrev pub name_cmp : List ℕ → List ℕ → Ordering
name_cmp a b = slice_cmp nat_cmp (length a ∷ map to_ascii_uppercase a) (length b ∷ map to_ascii_uppercase b)

-- The key of a name, by which children are found and ordered: its length, its characters in upper case, and zeros
-- up to 32 numbers.
abbrev pub key : List ℕ → List ℕ
key name = length name ∷ (map to_ascii_uppercase name ++ replicate (31 - length name) 0)

abbrev pub key_cmp : List ℕ → List ℕ → Ordering
key_cmp a b = slice_cmp nat_cmp a b

abbrev pub key_eq : List ℕ → List ℕ → Bool
key_eq a b = is_eq (key_cmp a b)

-- keys are ordered as their names are
abbrev pub KeysAgree : Type 0
KeysAgree = (a b : List ℕ) → length a ≤ 31 → length b ≤ 31 → key_cmp (key a) (key b) ≡ name_cmp a b
