-- The lines of a text of moments and the moments that they spell: an event, or a stop of the container.
use Rattle.std.specs.Prelude.{◌≡◌, ◌-◌, ◌||◌, ℕ, Bool, false, List, [], ◌∷◌, cond, codes, Option, Some, None}
use Rattle.std.specs.Prelude.{option_map, is_some, slice_get, take, Result, Err, IsOk, IsTrue}
use Rattle.std.specs.Str.{bytes_eq}
use Rattle.text_words.specs.Words.{lines, words, number_read}
use Rattle.world_model.specs.declared.event.Event.{Event}
use Rattle.world_model.specs.declared.moment.Moment.{Moment}
use Rattle.world_model.specs.declared.moment.Moment.TheVariants as moment
use Rattle.text_io.specs.Lines.{is_skipped, lines_read, text_read}
use Rattle.text_io.specs.declared.lines.SyntaxFault.{SyntaxFault}
use Rattle.text_io.specs.declared.lines.SyntaxFault.TheVariants.{Bad, NoMemory}
use Rattle.text_worlds.specs.Events.{event_of, may_want}

-- the numbers that all of these words spell
abbrev pub put_number : Option ℕ → Option (List ℕ) → Option (List ℕ)
put_number None others = None
put_number (Some n) None = None
put_number (Some n) (Some ns) = Some (n ∷ ns)

abbrev pub numbers_of : List (List ℕ) → Option (List ℕ)
numbers_of [] = Some []
numbers_of (word ∷ words) = put_number (number_read word) (numbers_of words)

-- a stop, of the frames whose commit the disk has kept
abbrev pub stop_of : List ℕ → Moment
stop_of frames = moment.Stop frames

abbrev pub stop_named : List ℕ → List (List ℕ) → Option Moment
stop_named name others = cond (bytes_eq name (codes "stop")) (option_map stop_of (numbers_of others)) None

abbrev pub stop_in : List (List ℕ) → Option Moment
stop_in [] = None
stop_in (name ∷ others) = stop_named name others

-- an event
abbrev pub moment_by : Event → Moment
moment_by e = moment.Event e

abbrev pub or_else : Option Moment → Option Moment → Option Moment
or_else (Some m) other = Some m
or_else None other = other

-- the moment that a line spells
abbrev pub moment_of : List ℕ → Option Moment
moment_of line = or_else (stop_in (words line)) (option_map moment_by (event_of line))

abbrev pub moment_read : ℕ → List ℕ → Option Moment
moment_read n line = moment_of line

-- the moments of a text, or the first line that spells none
abbrev pub moments_read : List ℕ → Result (List Moment) (ℕ × SyntaxFault)
moments_read text = text_read moment_read text

-- Lines that may want memory: those that spell a stop, and those of events that may.
abbrev pub may_want_any : List ℕ → Bool
may_want_any line = is_some (stop_in (words line)) || may_want line

-- Memory may have run out at line n: it may want some, and all lines before it spell moments.
pub record MayWantAny (text : List ℕ) (n : ℕ) : Type 0 where
  pub line : List ℕ
  pub stands : slice_get (lines text) (n - 1) ≡ Some line
  pub asks : is_skipped line ≡ false
  pub before : IsOk (lines_read moment_read 1 (take (n - 1) (lines text)))
  pub wants : IsTrue (may_want_any line)

-- when a text of moments may be refused
abbrev pub RefusesMoments : List ℕ → ℕ × SyntaxFault → Type 0
RefusesMoments text (n, Bad) = moments_read text ≡ Err (n, Bad)
RefusesMoments text (n, NoMemory) = MayWantAny text n
