-- Where an activation stands.
use Rattle.std.specs.Prelude.{◌≡◌, ℕ, nat_eq, List, map, Some, slice_get}
use Rattle.std.specs.List.{IsDistinct}

-- the item of this number stands at i, and no two have one number
pub record IsAt {A : Type 0} (entries : List (ℕ × A)) (act i : ℕ) : Type 0 where
  pub item : A
  pub stands : slice_get entries i ≡ Some (act, item)
  pub distinct : IsDistinct nat_eq (map (λ e. e.0) entries)
