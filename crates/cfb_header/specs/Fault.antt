-- The names of the faults.
use Rattle.std.specs.Prelude.{ℕ, List, codes}
use Rattle.cfb_header.specs.declared.fault.ChainFault.{ChainFault}
use Rattle.cfb_header.specs.declared.fault.ChainFault.TheVariants.{Truncated, BadSignature, Unsupported, OutOfFile}
use Rattle.cfb_header.specs.declared.fault.ChainFault.TheVariants.{Cycle, CrossLinked, ShortChain, TooBig, NoMemory}

abbrev pub name_of : ChainFault → List ℕ
name_of Truncated = codes "Truncated"
name_of BadSignature = codes "BadSignature"
name_of (Unsupported field) = codes "Unsupported"
name_of OutOfFile = codes "OutOfFile"
name_of Cycle = codes "Cycle"
name_of CrossLinked = codes "CrossLinked"
name_of ShortChain = codes "ShortChain"
name_of TooBig = codes "TooBig"
name_of NoMemory = codes "NoMemory"
