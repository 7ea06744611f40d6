-- Which commands of a script began, and what the container was given of them.
use Rattle.std.specs.Prelude.{◌≡◌, ◌⊎◌, ℕ, List, [], Ok}
use Rattle.script_model.specs.declared.command.ScriptCommand.{ScriptCommand}
use Rattle.script_model.specs.Events.{Event}
use Rattle.script_model.specs.Orders.{HaveBegun, behind_commands, orders}
use Rattle.script_texts.specs.Commands.{commands_read}

-- All commands that a text spells began, in their order, each once, and the container was given what its user asks for
-- by each, in its turn, and nothing else that a user asks for. What the other commands do, and what servers answer,
-- isn't said by this.
pub record AreCarriedOut {D : Type 0} (es : List (Event D)) (text : List ℕ) : Type 0 where
  pub commands : List ScriptCommand
  pub read : commands_read text ≡ Ok commands
  pub ordered : orders es ≡ behind_commands 0 commands []

-- So many of the first ones began, the last of them maybe in part; none where the text spells none.
abbrev pub MayHaveBegun : {D : Type 0} → List (Event D) → List ℕ → Type 0
MayHaveBegun es text = (orders es ≡ []) ⊎ ((commands : List ScriptCommand) × (commands_read text ≡ Ok commands)
    × HaveBegun es commands)
