-- Faults that are told of a listing.
use Rattle.text_io.specs.declared.input.InputFault.TheVariants as input
use Rattle.read_source.specs.declared.fault.PlacesFault.{PlacesFault}
use Rattle.read_source.specs.declared.fault.PlacesFault.TheVariants as places
use Rattle.read_files.specs.Reads.{chain_fault}
use Rattle.tell_lists.specs.declared.fault.ListFault.{ListFault}
use Rattle.tell_lists.specs.declared.fault.ListFault.TheVariants as list

-- a fault of a file of which only some blocks are read
abbrev pub of_places_fault : PlacesFault → ListFault
of_places_fault places.Unreadable = list.Input input.Unreadable
of_places_fault places.TooBig = list.Input input.TooBig
of_places_fault places.NoMemory = list.Input input.NoMemory
of_places_fault (places.Header fault) = list.Read (chain_fault fault)
