-- The names of the faults.
use Rattle.std.specs.Prelude.{ℕ, List, codes}
use Rattle.cfb_file.specs.declared.fault.WriteFault.{WriteFault}
use Rattle.cfb_file.specs.declared.fault.WriteFault.TheVariants.{TooBig, NoMemory}

abbrev pub fault_name : WriteFault → List ℕ
fault_name TooBig = codes "TooBig"
fault_name NoMemory = codes "NoMemory"
