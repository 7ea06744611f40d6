-- Entries whose names were read, as they are held (MS-CFB 2.6.1).
use Rattle.std.specs.Prelude.{◌≡◌, ◌+◌, ◌-◌, ◌*◌, ℕ, List, [], ◌∷◌, ◌++◌, drop, length, nat_le, replicate, take, false}
use Rattle.std.specs.List.{flat_map, list_any}
use Rattle.cfb_bytes.specs.Bytes.{block, u16_at}
use Rattle.cfb_names.specs.Names.{IsName, is_forbidden}

-- a character below 256 in UTF-16, least byte first
abbrev pub unit : ℕ → List ℕ
unit c = c ∷ 0 ∷ []

-- The bytes of an entry of which most are zero: the class id, the state bits and the times, and the upper bytes of its
-- size. The others are the lower bytes of the characters of its name, what stands from the name's length to the links,
-- and where its stream lies.
abbrev pub laid_out : List ℕ → List ℕ → List ℕ → List ℕ
laid_out characters head place = flat_map unit characters ++ head ++ replicate 36 0 ++ place ++ replicate 5 0

-- a name with zeros behind it, as many characters as there is room for
abbrev pub characters_of : List ℕ → List ℕ
characters_of name = name ++ replicate (32 - length name) 0

-- what is kept of an entry whose name was read
pub record NamedValue : Type 0 where
  pub name : List ℕ
  pub head : List ℕ
  pub place : List ℕ

-- the bytes of the entry
unfoldable pub named_bytes : NamedValue → List ℕ
named_bytes n = block 128 (laid_out (characters_of n.name) n.head n.place) 0

-- the name is one, and the entry's head says how long it is
pub record IsSound (n : NamedValue) : Type 0 where
  pub valid : IsName n.name
  pub head : length n.head ≡ 16
  pub place : length n.place ≡ 7
  pub counted : u16_at n.head 0 ≡ 2 * length n.name + 2

-- the first of some characters, so many, are allowed in a name, and the others are zeros
pub record HoldsName (characters : List ℕ) (count : ℕ) : Type 0 where
  pub ascii : list_any (nat_le 128) (take count characters) ≡ false
  pub allowed : list_any is_forbidden (take count characters) ≡ false
  pub zeros : drop count characters ≡ replicate (32 - count) 0
