-- The lines of a script and the commands that they spell.
use Rattle.std.specs.Prelude.{ℕ, Bool, false, List, [], ◌∷◌, codes, cond, Option, Some, None, option_map, Result}
use Rattle.std.specs.Str.{bytes_eq}
use Rattle.text_words.specs.Words.{words}
use Rattle.text_worlds.specs.Events.{event_read, open_in, sole_number}
use Rattle.script_model.specs.declared.command.ScriptCommand.{ScriptCommand}
use Rattle.script_model.specs.declared.command.ScriptCommand.TheVariants as script
use Rattle.text_io.specs.Lines.{text_read}
use Rattle.text_io.specs.declared.lines.SyntaxFault.{SyntaxFault}
use Rattle.world_model.specs.declared.event.Event.{Event}
use Rattle.world_model.specs.declared.event.Event.TheVariants as event

-- a script has the container's commands and files that are opened, and none of the world's other events
abbrev pub command_of : Event → Option ScriptCommand
command_of (event.Command c) = Some (script.Container c)
command_of (event.Deliver p) = None
command_of (event.Forge inc message) = None
command_of (event.Crash s inc) = None
command_of (event.Reap inc) = None
command_of (event.Done f) = None
command_of (event.Fail f) = None
command_of (event.Resolve f is_kept) = None
command_of (event.Open name width height) = Some (script.Open name width height)
command_of (event.Scribble s inc act) = None
command_of (event.Ask s inc act) = None

abbrev pub command_in : Option Event → Option ScriptCommand
command_in None = None
command_in (Some e) = command_of e

-- the commands of links and of frames, each a name and a number
abbrev pub link_named : List ℕ → Option ℕ → Option ScriptCommand
link_named name number =
    cond (bytes_eq name (codes "cut")) (option_map script.Cut number) (
    cond (bytes_eq name (codes "hold")) (option_map script.Hold number) (
    cond (bytes_eq name (codes "release")) (option_map script.Release number) (
    cond (bytes_eq name (codes "screen")) (option_map script.Screen number) None)))

abbrev pub link_in : List (List ℕ) → Option ScriptCommand
link_in [] = None
link_in (name ∷ others) = link_named name (sole_number others)

abbrev pub or_else : Option ScriptCommand → Option ScriptCommand → Option ScriptCommand
or_else (Some c) other = Some c
or_else None other = other

-- whether the first word is that of a file to be opened
abbrev pub is_open : List (List ℕ) → Bool
is_open [] = false
is_open (name ∷ others) = bytes_eq name (codes "open")

-- the command that a line spells
abbrev pub command_read : List ℕ → Option ScriptCommand
command_read line = or_else (link_in (words line))
    (or_else (command_in (open_in (words line))) (command_in (event_read line)))

abbrev pub line_read : ℕ → List ℕ → Option ScriptCommand
line_read n line = command_read line

-- the commands of a text, or the first line that spells none
abbrev pub commands_read : List ℕ → Result (List ScriptCommand) (ℕ × SyntaxFault)
commands_read text = text_read line_read text
