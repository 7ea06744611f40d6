-- What the container is given of servers.
use Rattle.std.proofs.Common.{◌≡◌, ◌+◌, ℕ, Bool, true, false, List, ◌∷◌, if◌then◌else◌, refl, ap, ◌∙◌}
use Rattle.message_values.specs.declared.message.Message.{Message}
use Rattle.script_model.specs.declared.step.Step.TheVariants as step
use Rattle.script_model.specs.Events.{Event, Stepped}
use Rattle.script_container.specs.Handed.{handed}

not_counted : (b : Bool) (n : ℕ) → b ≡ false → (if b then n + 1 else n) ≡ n
not_counted true n is = absurd (cc)
not_counted false n is = refl

-- a message of a server that isn't one of these
pub handed_other : {D : Type 0} (f : ℕ → Bool) (es after : List (Event D)) (inc : ℕ) (m : Message)
    → after ≡ Stepped (step.Message inc m) ∷ es → f inc ≡ false → handed f after ≡ handed f es
handed_other f es after inc m is other = ap (handed f) is ∙ not_counted (f inc) (handed f es) other
