-- What a script knows of its container while it goes on, and how a function leaves it.
use Rattle.std.specs.Prelude.{List, Option, Result, Ok, Err}
use Rattle.container_model.specs.Record.{Record}
use Rattle.store_model.specs.declared.disk.Disk.{Ghosts as Disks}
use Rattle.script_model.specs.Events.{Event}
use Rattle.script_model.specs.Notices.{Tells, notices}
use Rattle.script_model.specs.declared.answer.Told.{Told}
use Rattle.script_container.specs.Shown.{Shows}
use Rattle.script_container.specs.Told.{IsTold}
use Rattle.script_container.specs.declared.fault.ScriptFault.{ScriptFault}

-- The container's record is that of the history, and this was noticed first since the command began.
pub record IsKnown {D : Type 0} (disks : Disks D) (es : List (Event D)) (r : Record) (noticed : Option Told) : Type
    0 where
  pub told : IsTold disks es r
  pub seen : Tells (notices es) noticed

-- The script ends here with this error: the container's record is that of the history, which shows the error.
pub record IsStopped {D : Type 0} (disks : Disks D) (es : List (Event D)) (r : Record) (fault : ScriptFault) : Type
    0 where
  pub told : IsTold disks es r
  pub shown : Shows disks es fault

-- How a function leaves the container, and what was noticed: by its result the script goes on, or ends.
abbrev pub Leaves : {D T : Type 0} (disks : Disks D) → Result T ScriptFault → List (Event D) → Record → Option Told
    → Type 0
Leaves disks (Ok x) es r noticed = IsKnown disks es r noticed
Leaves disks (Err fault) es r noticed = IsStopped disks es r fault
