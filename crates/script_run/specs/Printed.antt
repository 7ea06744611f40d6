-- What a script prints: a line for each command that ended.
use Rattle.std.specs.Prelude.{◌≡◌, ◌++◌, ◌⊎◌, ℕ, zero, suc, List, [], ◌∷◌, length, slice_get, Option, Some, Ok}
use Rattle.std.specs.Io.KnownBytes.{Appends}
use Rattle.store_model.specs.declared.disk.Disk.{Ghosts as Disks}
use Rattle.script_container.specs.declared.fault.ScriptFault.{ScriptFault}
use Rattle.script_container.specs.declared.fault.ScriptFault.TheVariants as fault
use Rattle.script_model.specs.Events.{Event, Started, Connected, Sent, Heard, Ended, Opened, Found, Shut, Stepped}
use Rattle.script_model.specs.declared.command.ScriptCommand.{ScriptCommand}
use Rattle.script_model.specs.declared.step.Step.TheVariants as step
use Rattle.script_texts.specs.Commands.{commands_read}
use Rattle.script_commands.specs.Lines.{IsLine}

-- Behind a text that P is of, what is printed of the command of this place, which ended here.
pub record IsBehind {D : Type 0} (disks : Disks D) (commands : List ScriptCommand) (place : ℕ) (es : List (Event D))
    (P : List ℕ → Type 0) (text : List ℕ) : Type 0 where
  pub command : ScriptCommand
  pub stands : slice_get commands place ≡ Some command
  pub before : List ℕ
  pub line : List ℕ
  pub earlier : P before
  pub last : IsLine disks command es line
  pub joined : text ≡ before ++ line

-- what was printed of the commands that ended before the last one began
abbrev pub PrintedBefore : {D : Type 0} (disks : Disks D) → List ScriptCommand → List (Event D) → List ℕ → Type 0
PrintedBefore disks commands [] text = text ≡ []
PrintedBefore disks commands (Stepped (step.Begins zero) ∷ es) text = text ≡ []
PrintedBefore disks commands (Stepped (step.Begins (suc place)) ∷ es) text =
    IsBehind disks commands place es (λ t. PrintedBefore disks commands es t) text
PrintedBefore disks commands (Stepped (step.Command c) ∷ es) text = PrintedBefore disks commands es text
PrintedBefore disks commands (Stepped (step.Message inc m) ∷ es) text = PrintedBefore disks commands es text
PrintedBefore disks commands (Stepped (step.Reap inc) ∷ es) text = PrintedBefore disks commands es text
PrintedBefore disks commands (Stepped (step.Committed f) ∷ es) text = PrintedBefore disks commands es text
PrintedBefore disks commands (Stepped (step.Failed f) ∷ es) text = PrintedBefore disks commands es text
PrintedBefore disks commands (Stepped (step.Resolved f is_kept) ∷ es) text = PrintedBefore disks commands es text
PrintedBefore disks commands (Stepped (step.Open name w h session objects) ∷ es) text =
    PrintedBefore disks commands es text
PrintedBefore disks commands (Stepped step.NoMemory ∷ es) text = PrintedBefore disks commands es text
PrintedBefore disks commands (Started session inc ok ∷ es) text = PrintedBefore disks commands es text
PrintedBefore disks commands (Connected inc ok ∷ es) text = PrintedBefore disks commands es text
PrintedBefore disks commands (Sent inc bytes ok ∷ es) text = PrintedBefore disks commands es text
PrintedBefore disks commands (Heard inc bytes ok ∷ es) text = PrintedBefore disks commands es text
PrintedBefore disks commands (Ended inc ∷ es) text = PrintedBefore disks commands es text
PrintedBefore disks commands (Opened name disk ∷ es) text = PrintedBefore disks commands es text
PrintedBefore disks commands (Found name disk ∷ es) text = PrintedBefore disks commands es text
PrintedBefore disks commands (Shut name disk ∷ es) text = PrintedBefore disks commands es text

-- what is printed of so many commands, at the end of the last of them
abbrev pub Printed : {D : Type 0} (disks : Disks D) → List ScriptCommand → ℕ → List (Event D) → List ℕ → Type 0
Printed disks commands zero es text = text ≡ []
Printed disks commands (suc place) es text = IsBehind disks commands place es
    (λ t. PrintedBefore disks commands es t) text

-- ---- writers

-- A writer got what is printed of so many commands.
pub record HasLines {D : Type 0} (disks : Disks D) (commands : List ScriptCommand) (count : ℕ) (es : List (Event D))
    (old new : Option (List ℕ)) : Type 0 where
  pub lines : List ℕ
  pub written : Appends old new lines
  pub printed : Printed disks commands count es lines

-- A writer got what is printed of the commands that ended before the last one began.
pub record HasEarlier {D : Type 0} (disks : Disks D) (commands : List ScriptCommand) (es : List (Event D))
    (old new : Option (List ℕ)) : Type 0 where
  pub lines : List ℕ
  pub written : Appends old new lines
  pub printed : PrintedBefore disks commands es lines

-- A writer got what is printed of all commands that a text spells.
pub record HasAll {D : Type 0} (disks : Disks D) (es : List (Event D)) (text : List ℕ) (old new : Option (List ℕ)) :
    Type 0 where
  pub commands : List ScriptCommand
  pub read : commands_read text ≡ Ok commands
  pub printed : HasLines disks commands (length commands) es old new

-- What a writer got of commands that weren't carried out to their end, by the error: the lines of all that ended before
-- the last one began; where a server is still held behind the last command, those of all. Of a write that fails nothing
-- is said.
abbrev pub HasSome : {D : Type 0} (disks : Disks D) → List ScriptCommand → List (Event D)
    → (old new : Option (List ℕ)) → ScriptFault → Type 0
HasSome disks commands es old new (fault.Input why) = Unit {0}
HasSome disks commands es old new (fault.Line n why) = Unit {0}
HasSome disks commands es old new (fault.Link inc) = HasEarlier disks commands es old new
HasSome disks commands es old new fault.Stalled = HasEarlier disks commands es old new
    ⊎ HasLines disks commands (length commands) es old new
HasSome disks commands es old new (fault.File name why) = HasEarlier disks commands es old new
HasSome disks commands es old new fault.NoMemory = HasEarlier disks commands es old new
HasSome disks commands es old new fault.Unwritable = Unit {0}

-- The same of the commands that a text spells. Of a text that isn't read nothing is written.
abbrev pub HasSomeOf : {D : Type 0} (disks : Disks D) → List (Event D) → List ℕ → (old new : Option (List ℕ))
    → ScriptFault → Type 0
HasSomeOf disks es text old new (fault.Input why) = new ≡ old
HasSomeOf disks es text old new (fault.Line n why) = new ≡ old
HasSomeOf disks es text old new (fault.Link inc) = (commands : List ScriptCommand)
    × (commands_read text ≡ Ok commands) × HasSome disks commands es old new (fault.Link inc)
HasSomeOf disks es text old new fault.Stalled = (commands : List ScriptCommand) × (commands_read text ≡ Ok commands)
    × HasSome disks commands es old new fault.Stalled
HasSomeOf disks es text old new (fault.File name why) = (commands : List ScriptCommand)
    × (commands_read text ≡ Ok commands) × HasSome disks commands es old new (fault.File name why)
HasSomeOf disks es text old new fault.NoMemory = (commands : List ScriptCommand)
    × (commands_read text ≡ Ok commands) × HasSome disks commands es old new fault.NoMemory
HasSomeOf disks es text old new fault.Unwritable = Unit {0}
