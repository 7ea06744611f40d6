-- Which errors a script ends with, and what its history shows of each.
use Rattle.std.specs.Prelude.{◌≡◌, ◌⊎◌, ℕ, List, [], Option, IfSome, Ok}
use Rattle.store_model.specs.declared.disk.Disk.{Ghosts as Disks}
use Rattle.text_io.specs.Input.{MayRefuseInput}
use Rattle.text_io.specs.Lines.{RefusesText}
use Rattle.script_container.specs.declared.fault.ScriptFault.{ScriptFault}
use Rattle.script_container.specs.declared.fault.ScriptFault.TheVariants as fault
use Rattle.script_model.specs.declared.command.ScriptCommand.{ScriptCommand}
use Rattle.script_model.specs.Errors.{IsUnknown, IsUnsettled, IsUnstarted, before_ends}
use Rattle.script_model.specs.Events.{Event}
use Rattle.script_texts.specs.Commands.{commands_read, line_read}
use Rattle.script_run.specs.Holding.{IsStillHeld}

-- A script isn't read for this error: where the bytes of the input are known, they may be refused for it.
abbrev pub RefusesScript : Option (List ℕ) → ScriptFault → Type 0
RefusesScript input (fault.Input why) = IfSome input (λ text. MayRefuseInput text why)
RefusesScript input (fault.Line n why) = IfSome input (λ text. RefusesText line_read text (n, why))
RefusesScript input (fault.Link inc) = ⊥
RefusesScript input fault.Stalled = ⊥
RefusesScript input (fault.File name why) = ⊥
RefusesScript input fault.NoMemory = ⊥
RefusesScript input fault.Unwritable = ⊥

-- A history shows this error of the commands of a script: that of its last command, or, where all of them were carried
-- out, that a server is left held.
abbrev pub ShowsOf : {D : Type 0} (disks : Disks D) → List ScriptCommand → List (Event D) → ScriptFault → Type 0
ShowsOf disks commands es (fault.Input why) = ⊥
ShowsOf disks commands es (fault.Line n why) = ⊥
ShowsOf disks commands es (fault.Link inc) = IsUnstarted inc es
ShowsOf disks commands es fault.Stalled = IsUnsettled es ⊎ IsStillHeld es commands
ShowsOf disks commands es (fault.File name why) = IsUnknown disks es name.items why
ShowsOf disks commands es fault.NoMemory = Unit {0}
ShowsOf disks commands es fault.Unwritable = Unit {0}

-- All commands that the input spells began, one after another, and a server runs that they hold and don't release
-- again: it ran when it was held, and since then.
pub record IsHeldToTheEnd {D : Type 0} (input : Option (List ℕ)) (es : List (Event D)) : Type 0 where
  pub commands : List ScriptCommand
  pub read : IfSome input (λ text. commands_read text ≡ Ok commands)
  pub left : IsStillHeld es commands

-- The error that a script over this input ended with, by its whole history. Where the input isn't read, or a line of it
-- is refused, nothing was asked and nothing was given to the container; and where the bytes of the input are known,
-- they may be refused for it. Every other error is shown by the history without the ends of servers that are its last
-- calls: a server isn't started; what a server that runs is asked isn't answered, a frame's file is still to be
-- committed, or a server is still held behind the last command; or it isn't known what became of a save. Of memory and
-- of writers a history says nothing.
abbrev pub IsFaultOf : {D : Type 0} (disks : Disks D) → Option (List ℕ) → List (Event D) → ScriptFault → Type 0
IsFaultOf disks input es (fault.Input why) = (es ≡ []) × RefusesScript input (fault.Input why)
IsFaultOf disks input es (fault.Line n why) = (es ≡ []) × RefusesScript input (fault.Line n why)
IsFaultOf disks input es (fault.Link inc) = IsUnstarted inc (before_ends es)
IsFaultOf disks input es fault.Stalled = IsUnsettled (before_ends es) ⊎ IsHeldToTheEnd input (before_ends es)
IsFaultOf disks input es (fault.File name why) = IsUnknown disks (before_ends es) name.items why
IsFaultOf disks input es fault.NoMemory = Unit {0}
IsFaultOf disks input es fault.Unwritable = Unit {0}
