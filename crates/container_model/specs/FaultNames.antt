-- The names of the faults.
use Rattle.std.specs.Prelude.{ℕ, List, codes}
use Rattle.container_model.specs.declared.fault.ContainerFault.{ContainerFault}
use Rattle.container_model.specs.declared.fault.ContainerFault.TheVariants.{NoSuch, Busy, NotRunning, InDoubt}
use Rattle.container_model.specs.declared.fault.ContainerFault.TheVariants.{WrongLink, Stale, Full, NumbersSpent}
use Rattle.container_model.specs.declared.fault.ContainerFault.TheVariants.{WrongState, BadFile, BadAnswer}
use Rattle.container_model.specs.declared.fault.ContainerFault.TheVariants.{UnknownClass, NoMemory}

abbrev pub fault_name : ContainerFault → List ℕ
fault_name NoSuch = codes "NoSuch"
fault_name Busy = codes "Busy"
fault_name NotRunning = codes "NotRunning"
fault_name InDoubt = codes "InDoubt"
fault_name WrongLink = codes "WrongLink"
fault_name Stale = codes "Stale"
fault_name Full = codes "Full"
fault_name NumbersSpent = codes "NumbersSpent"
fault_name WrongState = codes "WrongState"
fault_name BadFile = codes "BadFile"
fault_name BadAnswer = codes "BadAnswer"
fault_name UnknownClass = codes "UnknownClass"
fault_name NoMemory = codes "NoMemory"
