-- What is told of a file that isn't cleaned.
use Rattle.write_cleaned.specs.declared.fault.CleanFault.{CleanFault}
use Rattle.write_cleaned.specs.declared.fault.CleanFault.TheVariants as clean
use Rattle.write_cleaned.specs.declared.moving_fault.SourceFault.{SourceFault}
use Rattle.write_cleaned.specs.declared.moving_fault.SourceFault.TheVariants as source
use Rattle.write_cleaned.specs.declared.moving.MoveFault.{MoveFault}
use Rattle.write_cleaned.specs.declared.moving.MoveFault.TheVariants as move
use Rattle.read_streams.specs.declared.fault.CopyFault.TheVariants as copy
use Rattle.text_io.specs.declared.input.InputFault.TheVariants as input

-- a fault of a file that is opened
abbrev pub of_source_fault : SourceFault → CleanFault
of_source_fault (source.Input fault) = clean.Input fault
of_source_fault (source.Read fault) = clean.Read fault

-- a fault of a file that is written anew
abbrev pub of_move_fault : MoveFault → CleanFault
of_move_fault (move.Write fault) = clean.Write fault
of_move_fault (move.Copy copy.Unreadable) = clean.Cut input.Unreadable
of_move_fault (move.Copy copy.NoMemory) = clean.Cut input.NoMemory
of_move_fault (move.Copy copy.Unwritable) = clean.Unwritable
