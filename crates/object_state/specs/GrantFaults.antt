-- The names of the faults.
use Rattle.std.specs.Prelude.{ℕ, List, codes}
use Rattle.object_state.specs.declared.grant_faults.GrantFault.{GrantFault}
use Rattle.object_state.specs.declared.grant_faults.GrantFault.TheVariants.{NoToolSpace, NotHolder, Busy}

abbrev pub fault_name : GrantFault → List ℕ
fault_name NoToolSpace = codes "NoToolSpace"
fault_name NotHolder = codes "NotHolder"
fault_name Busy = codes "Busy"
