-- Keys that are below another.
use Rattle.std.specs.Prelude.{◌≡◌, ℕ, List}
use Rattle.std.specs.List.{AllByRecursion}
use Rattle.std.specs.declared.cmp.Ordering.TheVariants.{Less}
use Rattle.cfb_names.specs.Names.{key_cmp}

-- every one of these keys is below another
abbrev pub AreBelow : List ℕ → List (List ℕ) → Type 0
AreBelow k keys = AllByRecursion (λ other. key_cmp other k ≡ Less) keys
