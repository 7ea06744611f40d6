-- What a history says of servers, all at once: that they are left as they were is one equation.
use Rattle.std.specs.Prelude.{ℕ, Bool, List}
use Rattle.script_model.specs.Bounds.{Pace, pace}
use Rattle.script_model.specs.Events.{Event, running}
use Rattle.script_model.specs.Origins.{Passed, passed}
use Rattle.script_container.specs.Handed.{handed}

-- How far each server is in its turns, and how many messages the container was given of any of them, both since the
-- command began that began last.
pub record Turned : Type 0 where
  pub pacing : ℕ → Pace
  pub handing : (ℕ → Bool) → ℕ

unfoldable pub turned : {D : Type 0} → List (Event D) → Turned
turned es = record { pacing = λ s. pace s es; handing = λ f. handed f es }

-- The same, and how often each server runs, and what passed between it and the container.
pub record Servers : Type 0 where
  pub runs : ℕ → ℕ
  pub passing : ℕ → Passed
  pub turns : Turned

unfoldable pub servers : {D : Type 0} → List (Event D) → Servers
servers es = record { runs = λ s. running s es; passing = λ s. passed s es; turns = turned es }
