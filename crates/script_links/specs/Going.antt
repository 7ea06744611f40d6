-- What is known of a script that goes on, and how a function leaves it.
use Rattle.std.specs.Prelude.{◌≡◌, ℕ, Bool, List, Result, Ok, Err}
use Rattle.store_model.specs.declared.disk.Disk.{Ghosts as Disks}
use Rattle.script_model.specs.Containers.{AreStarted}
use Rattle.script_model.specs.Bounds.{AreBounded}
use Rattle.script_model.specs.Courses.{course}
use Rattle.script_model.specs.Events.{Event}
use Rattle.script_model.specs.Notices.{Tells, notices}
use Rattle.script_model.specs.Origins.{AreHeard}
use Rattle.script_model.specs.Saved.{AreOpened, AreSaved}
use Rattle.script_model.specs.Turns.{AreTurns}
use Rattle.script_container.specs.Handed.{handed}
use Rattle.script_container.specs.Shown.{Shows}
use Rattle.script_container.specs.Told.{IsTold}
use Rattle.script_container.specs.declared.fault.ScriptFault.{ScriptFault}
use Rattle.script_links.specs.Links.{AreLinked, AreServed, HoldFor}
use Rattle.script_links.specs.declared.links.Link.{Link}
use Rattle.script_links.specs.declared.progress.Progress.{Progress}

-- The container's record is that of the history, the servers that run are those of the links, each link has what passed
-- with its server, and this was noticed first since the command began.
pub record IsGoingOn {D : Type 0} (disks : Disks D) (es : List (Event D)) (p : Progress) : Type 0 where
  pub told : IsTold disks es p.core
  pub linked : AreLinked es p.links.items
  pub served : AreServed es p.links.items
  pub seen : Tells (notices es) p.noticed

-- The script ends here with this error, which the history shows. Of the container and of the servers that run it tells
-- still.
pub record IsEnding {D : Type 0} (disks : Disks D) (es : List (Event D)) (p : Progress) (fault : ScriptFault) : Type
    0 where
  pub told : IsTold disks es p.core
  pub linked : AreLinked es p.links.items
  pub shown : Shows disks es fault

-- How a function leaves a script: by its result the script goes on, or ends.
abbrev pub LeavesGoing : {D T : Type 0} (disks : Disks D) → Result T ScriptFault → List (Event D) → Progress → Type 0
LeavesGoing disks (Ok x) es p = IsGoingOn disks es p
LeavesGoing disks (Err fault) es p = IsEnding disks es p fault

-- Turns of links leave the course of the command as it was; links hold what comes as they did; and the container is
-- given no message of a server whose link holds what comes.
pub record KeepsHeld {D : Type 0} (es after : List (Event D)) (ls now : List Link) : Type 0 where
  pub ordered : course after ≡ course es
  pub holding : (f : ℕ → Bool) → HoldFor f ls → HoldFor f now
  pub handing : (f : ℕ → Bool) → HoldFor f ls → handed f after ≡ handed f es

-- What is so of each history of a script, of its ends of servers too: what was sent were turns, and no more than may
-- be; messages, saves, opened files and starts are as `IsTold` says.
pub record IsLawful {D : Type 0} (disks : Disks D) (es : List (Event D)) : Type 0 where
  pub sent : AreTurns es
  pub bounded : AreBounded es
  pub heard : AreHeard es
  pub saved : AreSaved disks es
  pub opened : disks.follows_model → AreOpened disks es
  pub started : AreStarted es
