-- What a history says, but for what passes on the link of one server.
use Rattle.std.specs.Prelude.{◌==◌, ℕ, Bool, List, if◌then◌else◌}
use Rattle.script_model.specs.Bounds.{Pace}
use Rattle.script_model.specs.Courses.{Course, course}
use Rattle.script_model.specs.Events.{Event, running}
use Rattle.script_model.specs.Origins.{Passed}
use Rattle.script_container.specs.Beside.{beside}
use Rattle.script_container.specs.Handed.{handed}
use Rattle.script_links.specs.Ready.{pace_beside}

-- How often each server runs; of each server but one what passed between it and the container, and how far it is in its
-- turns; how many messages the container was given of servers that a test tells, which says of this one whether its
-- link holds what comes; and the course of the command.
pub record Others (D : Type 0) : Type 0 where
  pub runs : ℕ → ℕ
  pub passing : ℕ → Passed
  pub pacing : ℕ → Pace
  pub handing : (ℕ → Bool) → ℕ
  pub ordering : Course D

-- a test that says this of one server
abbrev pub telling : ℕ → Bool → (ℕ → Bool) → ℕ → Bool
telling inc held f s = if inc == s then held else f s

unfoldable pub others : {D : Type 0} → (inc : ℕ) → (held : Bool) → List (Event D) → Others D
others inc held es = record {
  runs = λ s. running s es;
  passing = λ s. beside inc s es;
  pacing = λ s. pace_beside inc s es;
  handing = λ f. handed (telling inc held f) es;
  ordering = course es;
}
