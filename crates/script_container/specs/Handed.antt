-- How many messages a container was given of some servers.
use Rattle.std.specs.Prelude.{◌+◌, ℕ, Bool, List, [], ◌∷◌, if◌then◌else◌}
use Rattle.script_model.specs.declared.step.Step.{Step}
use Rattle.script_model.specs.declared.step.Step.TheVariants as step
use Rattle.script_model.specs.Events.{Event, Started, Connected, Sent, Heard, Ended, Opened, Found, Shut, Stepped}

abbrev pub behind_handed : (ℕ → Bool) → Step → ℕ → ℕ
behind_handed f (step.Begins n) many = 0
behind_handed f (step.Command c) many = many
behind_handed f (step.Message inc m) many = if f inc then many + 1 else many
behind_handed f (step.Reap inc) many = many
behind_handed f (step.Committed g) many = many
behind_handed f (step.Failed g) many = many
behind_handed f (step.Resolved g is_kept) many = many
behind_handed f (step.Open name w h session objects) many = many
behind_handed f step.NoMemory many = many

-- how many messages the container was given of these servers since the command began that began last
abbrev pub handed : {D : Type 0} → (ℕ → Bool) → List (Event D) → ℕ
handed f [] = 0
handed f (Stepped step ∷ es) = behind_handed f step (handed f es)
handed f (Started session inc ok ∷ es) = handed f es
handed f (Connected inc ok ∷ es) = handed f es
handed f (Sent inc bytes ok ∷ es) = handed f es
handed f (Heard inc bytes ok ∷ es) = handed f es
handed f (Ended inc ∷ es) = handed f es
handed f (Opened name disk ∷ es) = handed f es
handed f (Found name disk ∷ es) = handed f es
handed f (Shut name disk ∷ es) = handed f es
