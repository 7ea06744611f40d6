-- The names of the faults.
use Rattle.std.specs.Prelude.{ℕ, List, codes}
use Rattle.server_model.specs.declared.fault.ServerFault.{ServerFault}
use Rattle.server_model.specs.declared.fault.ServerFault.TheVariants.{WrongIncarnation, Ignored, NumbersSpent}
use Rattle.server_model.specs.declared.fault.ServerFault.TheVariants.{NeedObject, WrongClass, NoMemory}

abbrev pub fault_name : ServerFault → List ℕ
fault_name WrongIncarnation = codes "WrongIncarnation"
fault_name Ignored = codes "Ignored"
fault_name NumbersSpent = codes "NumbersSpent"
fault_name NeedObject = codes "NeedObject"
fault_name WrongClass = codes "WrongClass"
fault_name NoMemory = codes "NoMemory"
