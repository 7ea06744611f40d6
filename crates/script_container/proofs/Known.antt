-- How a function leaves the container.
use Rattle.std.proofs.Common.{◌≡◌, List, Option, Result, Ok, Err, IfErr, OnOk, sym, subst, ◌∙◌}
use Rattle.std.specs.Result.{IsErrAnd}
use Rattle.container_model.specs.Record.{Record}
use Rattle.store_model.specs.declared.disk.Disk.{Ghosts as Disks}
use Rattle.script_model.specs.Events.{Event}
use Rattle.script_model.specs.Notices.{Tells, notices}
use Rattle.script_model.specs.declared.answer.Told.{Told}
use Rattle.script_container.specs.Known.{IsKnown, IsStopped, Leaves}
use Rattle.script_container.specs.Shown.{Shows}
use Rattle.script_container.specs.Told.{IsTold}
use Rattle.script_container.specs.declared.fault.ScriptFault.{ScriptFault}
use Rattle.script_container.specs.declared.fault.ScriptFault.TheVariants as fault

-- an error that is want of memory
pub lacks_so : {T : Type 0} (r : Result T ScriptFault) (e : ScriptFault) → IsErrAnd r (λ x. x ≡ e)
    → e ≡ fault.NoMemory → IsErrAnd r (λ x. x ≡ fault.NoMemory)
lacks_so (Ok x) e is lacking = absurd is
lacks_so (Err x) e is lacking = is ∙ lacking

module _ {D : Type 0} (disks : Disks D) where
  -- an error that is handed on
  pub stopped_on : {T : Type 0} (r : Result T ScriptFault) (e : ScriptFault) (es : List (Event D)) (rec : Record)
      (noticed : Option Told) → IsErrAnd r (λ x. x ≡ e) → IsStopped disks es rec e → Leaves disks r es rec noticed
  stopped_on (Ok x) e es rec noticed is stopped = absurd is
  stopped_on (Err x) e es rec noticed is stopped = subst (λ (f : ScriptFault). IsStopped disks es rec f) (sym is)
      stopped

  -- want of memory
  pub memory_stops : {T : Type 0} (r : Result T ScriptFault) (es : List (Event D)) (rec : Record)
      (noticed : Option Told) → IsErrAnd r (λ x. x ≡ fault.NoMemory) → IsTold disks es rec
      → Leaves disks r es rec noticed
  memory_stops r es rec noticed is told = stopped_on r fault.NoMemory es rec noticed is (record {
    told = told;
    shown = tt;
  })

  -- what is said of a result
  pub leaves_by : {T : Type 0} (r : Result T ScriptFault) (es : List (Event D)) (rec : Record) (noticed : Option Told)
      → IsTold disks es rec → OnOk r (Tells (notices es) noticed) → IfErr r (λ e. Shows disks es e)
      → Leaves disks r es rec noticed
  leaves_by (Ok x) es rec noticed told seen shown = record { told = told; seen = seen }
  leaves_by (Err e) es rec noticed told seen shown = record { told = told; shown = shown }

  -- however it ends, the container's record is that of the history
  pub told_left : {T : Type 0} (r : Result T ScriptFault) (es : List (Event D)) (rec : Record) (noticed : Option Told)
      → Leaves disks r es rec noticed → IsTold disks es rec
  told_left (Ok x) es rec noticed leaves = leaves.told
  told_left (Err e) es rec noticed leaves = leaves.told
