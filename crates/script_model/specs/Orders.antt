-- What a history has of the commands of its script: where each begins, and what the container's user asks for.
use Rattle.std.specs.Prelude.{◌≡◌, ◌≢◌, ◌+◌, ◌++◌, ◌⊎◌, ℕ, List, [], ◌∷◌, length}
use Rattle.container_model.specs.Record.{Record}
use Rattle.container_model.specs.declared.command.Command.{Command}
use Rattle.container_model.specs.declared.command.Command.TheVariants as command
use Rattle.script_model.specs.declared.command.ScriptCommand.{ScriptCommand}
use Rattle.script_model.specs.declared.command.ScriptCommand.TheVariants as script
use Rattle.script_model.specs.declared.step.Step.{Step}
use Rattle.script_model.specs.declared.step.Step.TheVariants as step
use Rattle.script_model.specs.Courses.{course}
use Rattle.script_model.specs.Events.{Event}

-- what is asked of a container, the newest first: the beginnings of commands, and each command that it is given
abbrev pub asked : {D : Type 0} → List (Event D) → List Step
asked es = (course es).asked

-- a command that the container is given; Session is passed over, since a script gives it by itself before a start too
abbrev pub behind_given : Command → List Step → List Step
behind_given command.Session os = os
behind_given c os = step.Command c ∷ os

abbrev pub behind_order : Step → List Step → List Step
behind_order (step.Command c) os = behind_given c os
behind_order st os = st ∷ os

abbrev pub ordered_by : List Step → List Step
ordered_by [] = []
ordered_by (st ∷ steps) = behind_order st (ordered_by steps)

-- the beginnings of commands, and what the container's user asked for, the newest first
abbrev pub orders : {D : Type 0} → List (Event D) → List Step
orders es = ordered_by (asked es)

-- A start that the container is given while it has no session stands directly behind a Session that it was given, which
-- was to raise one.
abbrev pub IsReadied : Command → Record → List Step → Type 0
IsReadied command.Start r steps = (r.session ≢ 0)
    ⊎ ((before : List Step) × (steps ≡ step.Command command.Session ∷ before))
IsReadied c r steps = Unit {0}

-- behind the orders of the commands before it, those of a command: the container is given what its user asks for
abbrev pub behind_command : ScriptCommand → List Step → List Step
behind_command (script.Container c) os = behind_given c os
behind_command (script.Open name w h) os = os
behind_command (script.Cut inc) os = os
behind_command (script.Hold inc) os = os
behind_command (script.Release inc) os = os
behind_command (script.Screen f) os = os

-- the orders of commands, the first of them at this place
abbrev pub behind_commands : ℕ → List ScriptCommand → List Step → List Step
behind_commands place [] os = os
behind_commands place (c ∷ cs) os = behind_commands (place + 1) cs (behind_command c (step.Begins place ∷ os))

-- Behind the orders before it, those of a command; or none of them, where that is a start: the save that is to raise
-- the session comes before it, and may end the script.
abbrev pub IsBegun : ScriptCommand → (before after : List Step) → Type 0
IsBegun c before after = (after ≡ behind_command c before) ⊎ ((c ≡ script.Container command.Start) × (after ≡ before))

-- the orders of commands of which the last one is a start that the container isn't given
abbrev pub AreBeforeStart : List Step → List ScriptCommand → Type 0
AreBeforeStart os cs = (before : List ScriptCommand) × (cs ≡ before ++ script.Container command.Start ∷ [])
    × (os ≡ step.Begins (length before) ∷ behind_commands 0 before [])

-- Commands began one after another, from the first on, each once, and no other: so many of them, of which the container
-- was given what its user asks for. Where the last one is a start, it may not have been given that: the save that was
-- to raise the session ended the script.
pub record HaveBegun {D : Type 0} (es : List (Event D)) (commands : List ScriptCommand) : Type 0 where
  pub front : List ScriptCommand
  pub rest : List ScriptCommand
  pub are : commands ≡ front ++ rest
  pub ordered : (orders es ≡ behind_commands 0 front []) ⊎ AreBeforeStart (orders es) front
