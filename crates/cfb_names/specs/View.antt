-- How a name lies in its 32 bytes.
use Rattle.std.specs.Prelude.{◌≡◌, ◌-◌, ℕ, List, ◌∷◌, ◌++◌, length, drop, take, replicate, slice_index}
use Rattle.cfb_names.specs.Names.{IsName}

abbrev pub name_held : List ℕ → List ℕ
name_held units = take (slice_index units 0) (drop 1 units)

-- the length, the characters of a name, zeros
abbrev pub units_of : List ℕ → List ℕ
units_of name = length name ∷ (name ++ replicate (31 - length name) 0)

pub record IsHeld (units : List ℕ) : Type 0 where
  pub name : IsName (name_held units)
  pub spelled : units ≡ units_of (name_held units)
