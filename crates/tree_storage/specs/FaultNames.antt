-- The names by which faults are printed.
use Rattle.std.specs.Prelude.{ℕ, List, codes}
use Rattle.tree_storage.specs.declared.fault.TreeFault.{TreeFault}
use Rattle.tree_storage.specs.declared.fault.TreeFault.TheVariants.{NotFound, Exists, WrongKind, NoTransaction, TooDeep}
use Rattle.tree_storage.specs.declared.fault.TreeFault.TheVariants.{NoMemory}

abbrev pub fault_name : TreeFault → List ℕ
fault_name NotFound = codes "NotFound"
fault_name Exists = codes "Exists"
fault_name WrongKind = codes "WrongKind"
fault_name NoTransaction = codes "NoTransaction"
fault_name TooDeep = codes "TooDeep"
fault_name NoMemory = codes "NoMemory"
