-- The names by which faults are printed.
use Rattle.std.specs.Prelude.{ℕ, List, codes}
use Rattle.tree_streams.specs.declared.fault.StreamsFault.{StreamsFault}
use Rattle.tree_streams.specs.declared.fault.StreamsFault.TheVariants.{OutOfOrder, NoMemory}

abbrev pub streams_fault_name : StreamsFault → List ℕ
streams_fault_name OutOfOrder = codes "OutOfOrder"
streams_fault_name NoMemory = codes "NoMemory"
