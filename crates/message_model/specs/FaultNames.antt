-- The names by which faults are printed.
use Rattle.std.specs.Prelude.{ℕ, List, codes}
use Rattle.message_model.specs.declared.fault.WireFault.{WireFault}
use Rattle.message_model.specs.declared.fault.WireFault.TheVariants.{BadMagic, BadVersion, BadKind, TooLong, BadField}
use Rattle.message_model.specs.declared.fault.WireFault.TheVariants.{NoMemory}

abbrev pub fault_name : WireFault → List ℕ
fault_name BadMagic = codes "BadMagic"
fault_name BadVersion = codes "BadVersion"
fault_name BadKind = codes "BadKind"
fault_name TooLong = codes "TooLong"
fault_name BadField = codes "BadField"
fault_name NoMemory = codes "NoMemory"
