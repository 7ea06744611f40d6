-- That no message of a server is given to the container while it is held.
use Rattle.std.specs.Prelude.{◌≡◌, ℕ, false, List, Ok}
use Rattle.script_model.specs.declared.command.ScriptCommand.{ScriptCommand}
use Rattle.script_model.specs.declared.step.Step.{Step}
use Rattle.script_model.specs.declared.step.Step.TheVariants as step
use Rattle.script_model.specs.Events.{Event}
use Rattle.script_model.specs.Saved.{OfEachStep}
use Rattle.script_texts.specs.Commands.{commands_read}
use Rattle.script_run.specs.Holding.{held_in}

-- a step that gives the container a message, behind these calls: its server isn't held
abbrev pub GivesFree : {D : Type 0} → List ScriptCommand → Step → List (Event D) → Type 0
GivesFree commands (step.Begins n) es = Unit {0}
GivesFree commands (step.Command c) es = Unit {0}
GivesFree commands (step.Message inc m) es = held_in commands es inc ≡ false
GivesFree commands (step.Reap inc) es = Unit {0}
GivesFree commands (step.Committed f) es = Unit {0}
GivesFree commands (step.Failed f) es = Unit {0}
GivesFree commands (step.Resolved f is_kept) es = Unit {0}
GivesFree commands (step.Open name w h session objects) es = Unit {0}
GivesFree commands step.NoMemory es = Unit {0}

-- Each message that the container was given is of a server that wasn't held then: from the command on that holds a
-- server which runs, up to the one that releases it, or to its end, none of its messages is given to the container.
abbrev pub AreHeldBack : {D : Type 0} → List ScriptCommand → List (Event D) → Type 0
AreHeldBack commands es = OfEachStep (GivesFree commands) es

-- the same of the commands that a text spells
abbrev pub AreHeldBackOf : {D : Type 0} → List (Event D) → List ℕ → Type 0
AreHeldBackOf es text = (commands : List ScriptCommand) → commands_read text ≡ Ok commands → AreHeldBack commands es
