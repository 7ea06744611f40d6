-- The names of the faults.
use Rattle.std.specs.Prelude.{ℕ, List, codes}
use Rattle.store_model.specs.declared.fault.StoreFault.{StoreFault}
use Rattle.store_model.specs.declared.fault.StoreFault.TheVariants.{Device, NeedsReopen, TooBig, Damaged, NoMemory}

abbrev pub name_of : StoreFault → List ℕ
name_of Device = codes "Device"
name_of NeedsReopen = codes "NeedsReopen"
name_of TooBig = codes "TooBig"
name_of Damaged = codes "Damaged"
name_of NoMemory = codes "NoMemory"
