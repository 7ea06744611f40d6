-- When a file that can be sought in isn't opened.
use Rattle.std.specs.Prelude.{ℕ, List}
use Rattle.read_source.specs.declared.fault.PlacesFault.{PlacesFault}
use Rattle.read_source.specs.declared.fault.PlacesFault.TheVariants as places
use Rattle.read_files.specs.Reads.{MayRefuseRead, chain_fault}
use Rattle.text_io.specs.Input.{MayRefuseInput}
use Rattle.text_io.specs.declared.input.InputFault.TheVariants as input
use Rattle.write_cleaned.specs.declared.moving_fault.SourceFault.{SourceFault}
use Rattle.write_cleaned.specs.declared.moving_fault.SourceFault.TheVariants as source

-- a fault of a file of which only some blocks are read
abbrev pub of_places_fault : PlacesFault → SourceFault
of_places_fault places.Unreadable = source.Input input.Unreadable
of_places_fault places.TooBig = source.Input input.TooBig
of_places_fault places.NoMemory = source.Input input.NoMemory
of_places_fault (places.Header fault) = source.Read (chain_fault fault)

-- when a file may be refused
abbrev pub MayRefuseSource : List ℕ → SourceFault → Type 0
MayRefuseSource file (source.Input fault) = MayRefuseInput file fault
MayRefuseSource file (source.Read fault) = MayRefuseRead file fault
