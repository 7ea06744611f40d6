-- Laws of a container's numbers: a step leaves a record within them.
use Rattle.std.specs.Prelude.{◌≡◌, ℕ, Ok}
use Rattle.container_model.specs.Inputs.{Input, on_input}
use Rattle.container_model.specs.Record.{Record, Took}
use Rattle.container_model.specs.Room.{HasNumbers, IsSound}
use Rattle.container_queues.specs.Steady.{Steady}

abbrev pub SoundAfter : Type 0
SoundAfter = (r : Record) (x : Input) (t : Took) → Steady r → IsSound r → on_input r x ≡ Ok t → IsSound t.rec

-- The same for any limit, which no step changes.
abbrev pub IsNumbered : ℕ → Record → Type 0
IsNumbered limit r = HasNumbers (λ numbers. numbers ≡ limit) r

abbrev pub NumbersAfter : Type 0
NumbersAfter = (limit : ℕ) (r : Record) (x : Input) (t : Took) → Steady r → IsNumbered limit r → on_input r x ≡ Ok t
    → IsNumbered limit t.rec
