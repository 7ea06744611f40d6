-- The names of the faults.
use Rattle.std.specs.Prelude.{ℕ, List, codes}
use Rattle.object_state.specs.declared.faults.StateFault.{StateFault}
use Rattle.object_state.specs.declared.faults.StateFault.TheVariants.{AlreadyInitialized, NotInitialized, Scribble}
use Rattle.object_state.specs.declared.faults.StateFault.TheVariants.{HandsOff, NeedsStorage, WrongState}

abbrev pub fault_name : StateFault → List ℕ
fault_name AlreadyInitialized = codes "AlreadyInitialized"
fault_name NotInitialized = codes "NotInitialized"
fault_name Scribble = codes "Scribble"
fault_name HandsOff = codes "HandsOff"
fault_name NeedsStorage = codes "NeedsStorage"
fault_name WrongState = codes "WrongState"
