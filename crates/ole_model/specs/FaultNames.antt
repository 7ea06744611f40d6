-- The names by which faults are printed.
use Rattle.std.specs.Prelude.{ℕ, List, codes}
use Rattle.ole_model.specs.declared.fault.OleFault.{OleFault}
use Rattle.ole_model.specs.declared.fault.OleFault.TheVariants.{Truncated, BadVersion, Linked, BadString, NotADocument}
use Rattle.ole_model.specs.declared.fault.OleFault.TheVariants.{TooManyObjects, NoMemory}

abbrev pub fault_name : OleFault → List ℕ
fault_name Truncated = codes "Truncated"
fault_name BadVersion = codes "BadVersion"
fault_name Linked = codes "Linked"
fault_name BadString = codes "BadString"
fault_name NotADocument = codes "NotADocument"
fault_name TooManyObjects = codes "TooManyObjects"
fault_name NoMemory = codes "NoMemory"
