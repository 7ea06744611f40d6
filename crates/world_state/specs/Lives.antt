-- How far the life of a server is, and where it stands.
use Rattle.std.specs.Prelude.{◌≡◌, ℕ, List, IfSome, IsSome}
use Rattle.message_values.specs.Found.{nth}
use Rattle.container_model.specs.Numbered.{IsNth}
use Rattle.world_model.specs.declared.life.Life.{Life}
use Rattle.world_model.specs.World.{Instance}

-- the server of this incarnation stands at a place in a list; among the servers as they are seen it is there, with this
-- life
abbrev pub Lives : {A : Type 0} → ℕ → List A → List Instance → ℕ × Life → Type 0
Lives inc servers seen found = IsNth inc servers found.0 × IfSome (nth seen inc) (λ x. x.life ≡ found.1)
    × IsSome (nth seen inc)
