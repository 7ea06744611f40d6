-- Which servers a script holds, by its history.
use Rattle.std.specs.Prelude.{◌≡◌, ◌≤◌, ◌&&◌, ℕ, zero, suc, Bool, true, false, List, [], ◌∷◌, Option, Some, None, Ok}
use Rattle.std.specs.Prelude.{slice_get}
use Rattle.script_model.specs.declared.command.ScriptCommand.{ScriptCommand}
use Rattle.script_model.specs.declared.step.Step.TheVariants as step
use Rattle.script_model.specs.Errors.{IsLeftHeld, behind_hold}
use Rattle.script_model.specs.Events.{Event, Started, Connected, Sent, Heard, Ended, Opened, Found, Shut, Stepped}
use Rattle.script_model.specs.Events.{running}
use Rattle.script_texts.specs.Commands.{commands_read}

-- whether a server runs
abbrev pub is_some_of : ℕ → Bool
is_some_of zero = false
is_some_of (suc n) = true

abbrev pub runs : {D : Type 0} → ℕ → List (Event D) → Bool
runs s es = is_some_of (running s es)

-- whether a server is held behind the command of a place, if there is one
abbrev pub behind_place : Option ScriptCommand → ℕ → Bool → Bool
behind_place None s held = held
behind_place (Some c) s held = behind_hold c s held

-- Whether what comes from a server is held since the command began that began last: it ran and was held when that
-- began, or that command holds it; and that command doesn't release it.
abbrev pub held_in : {D : Type 0} → List ScriptCommand → List (Event D) → ℕ → Bool
held_in commands [] s = false
held_in commands (Stepped (step.Begins n) ∷ es) s = behind_place (slice_get commands n) s
    (runs s es && held_in commands es s)
held_in commands (Stepped (step.Command c) ∷ es) s = held_in commands es s
held_in commands (Stepped (step.Message inc m) ∷ es) s = held_in commands es s
held_in commands (Stepped (step.Reap inc) ∷ es) s = held_in commands es s
held_in commands (Stepped (step.Committed f) ∷ es) s = held_in commands es s
held_in commands (Stepped (step.Failed f) ∷ es) s = held_in commands es s
held_in commands (Stepped (step.Resolved f is_kept) ∷ es) s = held_in commands es s
held_in commands (Stepped (step.Open name w h session objects) ∷ es) s = held_in commands es s
held_in commands (Stepped step.NoMemory ∷ es) s = held_in commands es s
held_in commands (Started session inc ok ∷ es) s = held_in commands es s
held_in commands (Connected inc ok ∷ es) s = held_in commands es s
held_in commands (Sent inc bytes ok ∷ es) s = held_in commands es s
held_in commands (Heard inc bytes ok ∷ es) s = held_in commands es s
held_in commands (Ended inc ∷ es) s = held_in commands es s
held_in commands (Opened name disk ∷ es) s = held_in commands es s
held_in commands (Found name disk ∷ es) s = held_in commands es s
held_in commands (Shut name disk ∷ es) s = held_in commands es s

-- All these commands began, and a server runs that is held since the last one.
pub record IsStillHeld {D : Type 0} (es : List (Event D)) (commands : List ScriptCommand) : Type 0 where
  pub left : IsLeftHeld es commands
  pub held : held_in commands es left.server ≡ true

-- No server that runs is held since the last of these commands began.
abbrev pub AreReleased : {D : Type 0} → List (Event D) → List ScriptCommand → Type 0
AreReleased es commands = (s : ℕ) → 1 ≤ running s es → held_in commands es s ≡ false

-- The same of the commands that a text spells.
abbrev pub AreReleasedOf : {D : Type 0} → List (Event D) → List ℕ → Type 0
AreReleasedOf es text = (commands : List ScriptCommand) × (commands_read text ≡ Ok commands) × AreReleased es commands
