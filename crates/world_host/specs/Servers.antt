-- The servers that a step of the container ends, and those that it starts.
use Rattle.std.specs.Prelude.{ℕ, List, [], ◌∷◌, Result, Ok, Err}
use Rattle.message_values.specs.Found.{nth}
use Rattle.container_model.specs.Record.{Took}
use Rattle.container_model.specs.declared.answer.Action.{Action}
use Rattle.container_model.specs.declared.answer.Action.TheVariants.{Send, Start, End, Commit}
use Rattle.container_model.specs.declared.fault.ContainerFault.{ContainerFault}
use Rattle.world_model.specs.World.{Instance, ended_at}

abbrev pub starts_of : List Action → List ℕ
starts_of [] = []
starts_of (Send m ∷ rest) = starts_of rest
starts_of (Start inc ∷ rest) = inc ∷ starts_of rest
starts_of (End inc ∷ rest) = starts_of rest
starts_of (Commit f ∷ rest) = starts_of rest

abbrev pub ends_of : List Action → List ℕ
ends_of [] = []
ends_of (Send m ∷ rest) = ends_of rest
ends_of (Start inc ∷ rest) = ends_of rest
ends_of (End inc ∷ rest) = inc ∷ ends_of rest
ends_of (Commit f ∷ rest) = ends_of rest

-- a step that is refused ends none
abbrev pub ends_in : Result Took ContainerFault → List ℕ
ends_in (Err fault) = []
ends_in (Ok t) = ends_of t.answer.actions

-- servers after these have ended, one after the other
abbrev pub ends_by : List ℕ → List Instance → List Instance
ends_by [] instances = instances
ends_by (inc ∷ rest) instances = ends_by rest (ended_at inc instances (nth instances inc))
