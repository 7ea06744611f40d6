-- The names by which faults are printed.
use Rattle.std.specs.Prelude.{ℕ, List, codes}
use Rattle.object_core.specs.declared.fault.EmbedFault.{EmbedFault}
use Rattle.object_core.specs.declared.fault.EmbedFault.TheVariants.{BadEdit, BadContent, TooBig, NoMemory}

abbrev pub fault_name : EmbedFault → List ℕ
fault_name BadEdit = codes "BadEdit"
fault_name BadContent = codes "BadContent"
fault_name TooBig = codes "TooBig"
fault_name NoMemory = codes "NoMemory"
