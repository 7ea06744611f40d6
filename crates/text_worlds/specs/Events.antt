-- The lines of a text of events and the events that they spell.
use Rattle.std.specs.Prelude.{◌≡◌, ◌-◌, ◌&&◌, ◌||◌, ℕ, ℤ, pos, negsuc, zero, suc, Bool, true, false, not, List, [], ◌∷◌}
use Rattle.std.specs.Prelude.{length, nat_le, nat_eq, cond, codes, if◌then◌else◌, Option, Some, None, option_map}
use Rattle.std.specs.Prelude.{is_some, slice_get, take, Result, Err, IsOk, IsTrue}
use Rattle.std.specs.List.{ends_with, join_with_byte, list_all}
use Rattle.std.specs.Option.{option_and_then}
use Rattle.std.specs.Str.{bytes_eq}
use Rattle.text_words.specs.Words.{lines, pieces, words, number_read}
use Rattle.tree_streams.specs.declared.area.Area.{Area}
use Rattle.object_state.specs.declared.operations.CloseOption.{CloseOption}
use Rattle.object_state.specs.declared.operations.CloseOption.TheVariants.{SaveIfDirty, NoSave}
use Rattle.container_model.specs.declared.command.Command.{Command}
use Rattle.container_model.specs.declared.command.Command.TheVariants as command
use Rattle.container_model.specs.declared.command.ObjectKind.{ObjectKind}
use Rattle.container_model.specs.declared.command.ObjectKind.TheVariants.{Note, Table, Drawing}
use Rattle.message_values.specs.declared.message.Message.{Message}
use Rattle.world_model.specs.declared.event.Event.{Event}
use Rattle.world_model.specs.declared.event.Event.TheVariants as event
use Rattle.text_io.specs.Lines.{is_skipped, lines_read, text_read}
use Rattle.text_spelling.specs.Words.{content_read, is_visible}
use Rattle.text_io.specs.declared.lines.SyntaxFault.{SyntaxFault}
use Rattle.text_io.specs.declared.lines.SyntaxFault.TheVariants.{Bad, NoMemory}
use Rattle.text_worlds.specs.Forged.{message_in}

-- a number of 16 bits
abbrev pub short_of : Option ℕ → Option ℕ
short_of None = None
short_of (Some n) = if nat_le n 65535 then Some n else None

abbrev pub short_read : List ℕ → Option ℕ
short_read word = short_of (number_read word)

-- the name of a frame's file: 1 to 64 printable characters, no space, and not the name of a journal
abbrev pub is_file_name : List ℕ → Bool
is_file_name name = nat_le 1 (length name) && nat_le (length name) 64 && list_all is_visible name && not
    (ends_with nat_eq name (codes ".journal"))

abbrev pub name_read : List ℕ → Option (List ℕ)
name_read word = if is_file_name word then Some word else None

abbrev pub option_read : List ℕ → Option CloseOption
option_read word =
    cond (bytes_eq word (codes "save")) (Some SaveIfDirty) (
    cond (bytes_eq word (codes "nosave")) (Some NoSave) None)

abbrev pub outcome_read : List ℕ → Option Bool
outcome_read word =
    cond (bytes_eq word (codes "kept")) (Some true) (
    cond (bytes_eq word (codes "lost")) (Some false) None)

abbrev pub kind_read : List ℕ → Option ObjectKind
kind_read word =
    cond (bytes_eq word (codes "note")) (Some Note) (
    cond (bytes_eq word (codes "table")) (Some Table) (
    cond (bytes_eq word (codes "drawing")) (Some Drawing) None))

-- one number alone, and what it makes
abbrev pub sole_number : List (List ℕ) → Option ℕ
sole_number (n ∷ []) = number_read n
sole_number _ = None

abbrev pub one_number : (ℕ → Event) → List (List ℕ) → Option Event
one_number f words = option_map f (sole_number words)

-- two numbers alone, and what they make
abbrev pub pair_of : Option ℕ → Option ℕ → Option (ℕ × ℕ)
pair_of (Some a) (Some b) = Some (a, b)
pair_of (Some a) None = None
pair_of None b = None

abbrev pub pair_read : List (List ℕ) → Option (ℕ × ℕ)
pair_read (a ∷ b ∷ []) = pair_of (number_read a) (number_read b)
pair_read _ = None

abbrev pub two_numbers : (ℕ → ℕ → Event) → List (List ℕ) → Option Event
two_numbers f words = option_map (λ (p : ℕ × ℕ). f p.0 p.1) (pair_read words)

-- a server by its session and its incarnation, `S.I`: two numbers with a point between them
abbrev pub server_read : List ℕ → Option (ℕ × ℕ)
server_read word = pair_read (pieces 46 word)

-- one server alone
abbrev pub sole_server : List (List ℕ) → Option (ℕ × ℕ)
sole_server (server ∷ []) = server_read server
sole_server _ = None

-- a server and a number behind it, alone: as an activation of it is named
abbrev pub activation_of : Option (ℕ × ℕ) → Option ℕ → Option ((ℕ × ℕ) × ℕ)
activation_of (Some server) (Some act) = Some (server, act)
activation_of (Some server) None = None
activation_of None act = None

abbrev pub activation_read : List (List ℕ) → Option ((ℕ × ℕ) × ℕ)
activation_read (server ∷ act ∷ []) = activation_of (server_read server) (number_read act)
activation_read _ = None

-- a number and a word behind it, alone
abbrev pub numbered_word : List (List ℕ) → Option (ℕ × List ℕ)
numbered_word (n ∷ word ∷ []) = option_map (λ k. (k, word)) (number_read n)
numbered_word _ = None

-- and what they make, the word as it is read
abbrev pub number_and : {A : Type 0} → (ℕ → A → Event) → (List ℕ → Option A) → List (List ℕ) → Option Event
number_and f read words = option_and_then (λ (p : ℕ × List ℕ). option_map (f p.0) (read p.1)) (numbered_word words)

-- the number of a verb: a number, which may stand behind a minus sign
abbrev pub opposite : ℕ → ℤ
opposite zero = pos zero
opposite (suc n) = negsuc n

abbrev pub signed_read : List ℕ → Option ℤ
signed_read [] = None
signed_read (c ∷ cs) = cond (nat_eq c 45) (option_map opposite (number_read cs)) (option_map pos (number_read (c ∷ cs)))

abbrev pub area_of : Option ℕ → Option ℕ → Option ℕ → Option ℕ → Option Area
area_of (Some x) (Some y) (Some w) (Some h) = Some (record { x = x; y = y; w = w; h = h })
area_of _ _ _ _ = None

-- a frame of a name and a size, and what makes it
abbrev pub Sized : Type 0
Sized = List ℕ × ℕ × ℕ

abbrev pub sized_of : Option (List ℕ) → Option ℕ → Option ℕ → Option Sized
sized_of (Some name) (Some w) (Some h) = Some (name, w, h)
sized_of _ _ _ = None

abbrev pub new_of : Sized → Event
new_of s = event.Command (command.New s.0 s.1 s.2)

abbrev pub open_of : Sized → Event
open_of s = event.Open s.0 s.1 s.2

abbrev pub insert_of : Option ℕ → Option ObjectKind → Option Area → Option Event
insert_of (Some f) (Some kind) (Some area) = Some (event.Command (command.Insert f kind area))
insert_of _ _ _ = None

abbrev pub run_of : ℕ → ℕ → Event
run_of o inc = event.Command (command.Run o inc)

abbrev pub scribble_of : (ℕ × ℕ) × ℕ → Event
scribble_of a = event.Scribble a.0.0 a.0.1 a.1

abbrev pub delete_of : ℕ → Event
delete_of o = event.Command (command.Delete o)

abbrev pub kill_of : ℕ → Event
kill_of inc = event.Command (command.Kill inc)

abbrev pub close_of : ℕ → CloseOption → Event
close_of o option = event.Command (command.Close o option)

abbrev pub verb_of : ℕ → ℤ → Event
verb_of o number = event.Command (command.Verb o number)

abbrev pub resolve_of : ℕ → Bool → Event
resolve_of f is_kept = event.Resolve f is_kept

abbrev pub ask_of : (ℕ × ℕ) × ℕ → Event
ask_of a = event.Ask a.0.0 a.0.1 a.1

abbrev pub crash_of : ℕ × ℕ → Event
crash_of server = event.Crash server.0 server.1

abbrev pub edit_of : List ℕ → ℕ → Event
edit_of bytes o = event.Command (command.Edit o bytes)

abbrev pub save_of : ℕ → Event
save_of f = event.Command (command.Save f)

abbrev pub save_as_of : ℕ → List ℕ → Event
save_as_of f name = event.Command (command.SaveAs f name)

-- what stands behind the event's name
abbrev pub sized_read : List (List ℕ) → Option Sized
sized_read (name ∷ w ∷ h ∷ []) = sized_of (name_read name) (short_read w) (short_read h)
sized_read _ = None

abbrev pub new_read : List (List ℕ) → Option Event
new_read words = option_map new_of (sized_read words)

abbrev pub open_read : List (List ℕ) → Option Event
open_read words = option_map open_of (sized_read words)

abbrev pub save_as_read : List (List ℕ) → Option Event
save_as_read words = number_and save_as_of name_read words

abbrev pub insert_read : List (List ℕ) → Option Event
insert_read (f ∷ kind ∷ x ∷ y ∷ w ∷ h ∷ []) = insert_of (number_read f) (kind_read kind)
    (area_of (short_read x) (short_read y) (short_read w) (short_read h))
insert_read _ = None

-- a command of which nothing stands behind its name
abbrev pub alone_read : Command → List (List ℕ) → Option Event
alone_read c [] = Some (event.Command c)
alone_read c (word ∷ others) = None

abbrev pub close_read : List (List ℕ) → Option Event
close_read words = number_and close_of option_read words

abbrev pub verb_read : List (List ℕ) → Option Event
verb_read words = number_and verb_of signed_read words

abbrev pub resolve_read : List (List ℕ) → Option Event
resolve_read words = number_and resolve_of outcome_read words

-- an edit is all that stands behind the space, spaces too
abbrev pub edit_read : List (List ℕ) → Option Event
edit_read (o ∷ t ∷ ts) = option_map (edit_of (join_with_byte 32 (t ∷ ts))) (number_read o)
edit_read _ = None

abbrev pub commit_named : List ℕ → List (List ℕ) → Option Event
commit_named name others =
    cond (bytes_eq name (codes "done")) (one_number event.Done others) (
    cond (bytes_eq name (codes "fail")) (one_number event.Fail others) (
    cond (bytes_eq name (codes "resolve")) (resolve_read others) None))

abbrev pub end_named : List ℕ → List (List ℕ) → Option Event
end_named name others =
    cond (bytes_eq name (codes "crash")) (option_map crash_of (sole_server others)) (
    cond (bytes_eq name (codes "reap")) (one_number event.Reap others) (
    cond (bytes_eq name (codes "kill")) (one_number kill_of others) (commit_named name others)))

abbrev pub object_named : List ℕ → List (List ℕ) → Option Event
object_named name others =
    cond (bytes_eq name (codes "delete")) (one_number delete_of others) (
    cond (bytes_eq name (codes "close")) (close_read others) (
    cond (bytes_eq name (codes "verb")) (verb_read others) (
    cond (bytes_eq name (codes "scribble")) (option_map scribble_of (activation_read others)) (
    cond (bytes_eq name (codes "ask")) (option_map ask_of (activation_read others)) (end_named name others)))))

abbrev pub numbers_named : List ℕ → List (List ℕ) → Option Event
numbers_named name others =
    cond (bytes_eq name (codes "insert")) (insert_read others) (
    cond (bytes_eq name (codes "run")) (two_numbers run_of others) (
    cond (bytes_eq name (codes "save")) (one_number save_of others) (
    cond (bytes_eq name (codes "deliver")) (one_number event.Deliver others) (object_named name others))))

abbrev pub event_named : List ℕ → List (List ℕ) → Option Event
event_named name others =
    cond (bytes_eq name (codes "session")) (alone_read command.Session others) (
    cond (bytes_eq name (codes "start")) (alone_read command.Start others) (
    cond (bytes_eq name (codes "new")) (new_read others) (
    cond (bytes_eq name (codes "saveas")) (save_as_read others) (
    cond (bytes_eq name (codes "edit")) (edit_read others) (numbers_named name others)))))

abbrev pub event_in : List (List ℕ) → Option Event
event_in [] = None
event_in (name ∷ others) = event_named name others

-- the event that a line spells, but for a file that is opened
abbrev pub event_read : List ℕ → Option Event
event_read line = event_in (words line)

-- a file that is opened
abbrev pub open_named : List ℕ → List (List ℕ) → Option Event
open_named name others = cond (bytes_eq name (codes "open")) (open_read others) None

abbrev pub open_in : List (List ℕ) → Option Event
open_in [] = None
open_in (name ∷ others) = open_named name others

-- a message that is forged on the link of a server: the message of which the hexadecimal bytes are the byte form
abbrev pub forge_of : ℕ → Message → Event
forge_of inc m = event.Forge inc m

abbrev pub message_told : Option (List ℕ) → Option Message
message_told None = None
message_told (Some bytes) = message_in bytes

abbrev pub forge_read : List (List ℕ) → Option Event
forge_read words = number_and forge_of (λ bytes. message_told (content_read bytes)) words

abbrev pub forge_named : List ℕ → List (List ℕ) → Option Event
forge_named name others = cond (bytes_eq name (codes "forge")) (forge_read others) None

abbrev pub forge_in : List (List ℕ) → Option Event
forge_in [] = None
forge_in (name ∷ others) = forge_named name others

abbrev pub or_else : Option Event → Option Event → Option Event
or_else (Some e) other = Some e
or_else None other = other

-- the event that a line spells
abbrev pub event_of : List ℕ → Option Event
event_of line = or_else (open_in (words line)) (or_else (forge_in (words line)) (event_read line))

-- the event of line n
abbrev pub line_read : ℕ → List ℕ → Option Event
line_read n line = event_of line

-- the events of a text, or the first line that spells none
abbrev pub events_read : List ℕ → Result (List Event) (ℕ × SyntaxFault)
events_read text = text_read line_read text

-- a server, and hexadecimal bytes, whatever these are
abbrev pub forge_told : Option ℕ → Option (List ℕ) → Bool
forge_told (Some inc) (Some bytes) = true
forge_told (Some inc) None = false
forge_told None bytes = false

abbrev pub forge_spelled : List (List ℕ) → Bool
forge_spelled (inc ∷ bytes ∷ []) = forge_told (number_read inc) (content_read bytes)
forge_spelled _ = false

abbrev pub forge_tells : List ℕ → List (List ℕ) → Bool
forge_tells name others = cond (bytes_eq name (codes "forge")) (forge_spelled others) false

abbrev pub is_forge : List (List ℕ) → Bool
is_forge [] = false
is_forge (name ∷ others) = forge_tells name others

-- Lines that may want memory: those that spell an event, and those that forge bytes, of which it isn't known before
-- what message they are.
abbrev pub may_want : List ℕ → Bool
may_want line = is_some (event_of line) || is_forge (words line)

-- Memory may have run out at line n: it may want some, and all lines before it spell events.
pub record MayWantMemory (text : List ℕ) (n : ℕ) : Type 0 where
  pub line : List ℕ
  pub stands : slice_get (lines text) (n - 1) ≡ Some line
  pub asks : is_skipped line ≡ false
  pub before : IsOk (lines_read line_read 1 (take (n - 1) (lines text)))
  pub wants : IsTrue (may_want line)

-- when a text of events may be refused
abbrev pub RefusesEvents : List ℕ → ℕ × SyntaxFault → Type 0
RefusesEvents text (n, Bad) = events_read text ≡ Err (n, Bad)
RefusesEvents text (n, NoMemory) = MayWantMemory text n

-- Memory is taken for the name of a new frame, for another name of one, and for the bytes of an edit (and for the name
-- of a file that is opened, and a forged message).
abbrev pub command_takes_memory : Command → Bool
command_takes_memory (command.New name w h) = true
command_takes_memory (command.Edit o bytes) = true
command_takes_memory (command.SaveAs f name) = true
command_takes_memory (command.Insert f kind area) = false
command_takes_memory command.Session = false
command_takes_memory command.Start = false
command_takes_memory (command.Run o inc) = false
command_takes_memory (command.Save f) = false
command_takes_memory (command.Delete o) = false
command_takes_memory (command.Kill inc) = false
command_takes_memory (command.Close o option) = false
command_takes_memory (command.Verb o number) = false

abbrev pub event_takes_memory : Event → Bool
event_takes_memory (event.Command c) = command_takes_memory c
event_takes_memory (event.Deliver p) = false
event_takes_memory (event.Forge inc m) = false
event_takes_memory (event.Crash s inc) = false
event_takes_memory (event.Reap inc) = false
event_takes_memory (event.Done f) = false
event_takes_memory (event.Fail f) = false
event_takes_memory (event.Resolve f is_kept) = false
event_takes_memory (event.Open name w h) = false
event_takes_memory (event.Scribble s inc act) = false
event_takes_memory (event.Ask s inc act) = false

abbrev pub takes_memory : Option Event → Bool
takes_memory None = false
takes_memory (Some e) = event_takes_memory e
