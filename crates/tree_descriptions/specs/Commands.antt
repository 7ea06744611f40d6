-- The lines of a description and the commands that they spell.
use Rattle.std.specs.Prelude.{ℕ, Option, Some, None, List, [], ◌∷◌, cond, codes, Result}
use Rattle.std.specs.Option.{option_map}
use Rattle.std.specs.Str.{bytes_eq}
use Rattle.text_words.specs.Words.{words, number_read}
use Rattle.text_spelling.specs.Words.{byte_read, content_read}
use Rattle.text_spelling.specs.Paths.{path_read}
use Rattle.tree_descriptions.specs.declared.command.Command.{Command}
use Rattle.tree_descriptions.specs.declared.command.Command.TheVariants.{Storage, Stream, Fill}
use Rattle.cfb_names.specs.declared.fault.DirFault.{DirFault}
use Rattle.text_io.specs.Lines.{text_read}
use Rattle.text_io.specs.declared.lines.SyntaxFault.{SyntaxFault}

-- a stream at a path, of given bytes
abbrev pub stream_of : Option (Result (List (List ℕ)) DirFault) → Option (List ℕ) → Option Command
stream_of (Some path) (Some bytes) = Some (Stream path bytes)
stream_of (Some path) None = None
stream_of None bytes = None

-- a stream at a path, of so many equal bytes
abbrev pub fill_of : Option (Result (List (List ℕ)) DirFault) → Option ℕ → Option ℕ → Option Command
fill_of (Some path) (Some count) (Some byte) = Some (Fill path count byte)
fill_of (Some path) (Some count) None = None
fill_of (Some path) None byte = None
fill_of None count byte = None

-- what stands behind the command's name
abbrev pub storage_read : List (List ℕ) → Option Command
storage_read (path ∷ []) = option_map Storage (path_read path)
storage_read _ = None

abbrev pub stream_read : List (List ℕ) → Option Command
stream_read (path ∷ bytes ∷ []) = stream_of (path_read path) (content_read bytes)
stream_read _ = None

abbrev pub fill_read : List (List ℕ) → Option Command
fill_read (path ∷ count ∷ byte ∷ []) = fill_of (path_read path) (number_read count) (byte_read byte)
fill_read _ = None

abbrev pub command_read : List (List ℕ) → Option Command
command_read [] = None
command_read (name ∷ others) =
    cond (bytes_eq name (codes "storage")) (storage_read others) (
    cond (bytes_eq name (codes "stream")) (stream_read others) (
    cond (bytes_eq name (codes "fill")) (fill_read others) None))

-- the command that a line spells
abbrev pub line_read : List ℕ → Option Command
line_read line = command_read (words line)

-- the command of line n, with its number
abbrev pub numbered_read : ℕ → List ℕ → Option (ℕ × Command)
numbered_read n line = option_map (λ command. (n, command)) (line_read line)

-- the commands of a description, or the first line that spells none
abbrev pub commands_read : List ℕ → Result (List (ℕ × Command)) (ℕ × SyntaxFault)
commands_read text = text_read numbered_read text
