-- Worlds as they are shown: the objects in boxes by what they contain.
use Rattle.object_core.specs.Content.{Content}
use Rattle.server_core.specs.declared.server.Seat.{Seat}
use Rattle.world_model.specs.Story.{Story}
use Rattle.world_run.specs.declared.world.World as held
use Rattle.world_run.specs.Told.{told}

module _ {X : Type 0} {V : X → Type 0} (content : Seat X V → Content) where
  abbrev pub shown : held.World X V → Story
  shown w = told content w.runs
