use Rattle.std.proofs.Common.{arith}
use Rattle.store_core.specs.Opened.{disk_of}
use Rattle.script_container.proofs.Causes.{failed_unopened, lost_before, lost_there, no_less, untold_earlier}
use Rattle.script_container.proofs.Kept.{lost_again, lost_on_opened, saved_again, saved_on_opened}
use Rattle.script_container.proofs.saves.commit_on.Goals as goal

pub returns-in-Ok-clause-kept : goal.returns-in-Ok-clause-kept
returns-in-Ok-clause-kept g c = λ m.
    saved_on_opened g.D.Disk c.replace.result.0 c.args.disk (disk_of c.in-Ok.store) _
    (g.D.Disk.reads (disk_of c.in-Ok.store)).document c.args.bytes.now
    (g.met.D.Disk.reads_are_left c.args.disk) (c.in-Ok.ensures.document m) (c.in-Ok.ensures.any_moment m)
    (c.replace.ensures.kept m)

pub returns-in-Ok-clause-lost : goal.returns-in-Ok-clause-lost
returns-in-Ok-clause-lost g c = λ m.
    lost_on_opened g.D.Disk c.replace.result.0 c.args.disk (disk_of c.in-Ok.store) _
    (g.D.Disk.reads (disk_of c.in-Ok.store)).document c.args.bytes.now
    (g.met.D.Disk.reads_are_left c.args.disk) (c.in-Ok.ensures.document m) (c.in-Ok.ensures.any_moment m)
    (c.replace.ensures.lost m)

pub returns-in-Ok-clause-cause : goal.returns-in-Ok-clause-cause
returns-in-Ok-clause-cause g c = lost_there g.D.Disk c.replace.result.0 c.args.disk (disk_of c.in-Ok.store)
    c.replace.result.1 c.args.bytes.now c.in-Ok.ensures.count c.replace.ensures.cause

pub returns-in-Ok-clause-untold : goal.returns-in-Ok-clause-untold
returns-in-Ok-clause-untold g c =
    let same = c.in-Ok.ensures.count in
    untold_earlier g.D.Disk c.replace.result.0 c.args.disk (disk_of c.in-Ok.store) c.replace.result.1
    (omega (arith, same)) c.in-Ok.ensures.any_moment c.replace.ensures.untold

pub returns-in-Device-clause-kept : goal.returns-in-Device-clause-kept
returns-in-Device-clause-kept g c = λ m. saved_again g.D.Disk c.try_again.result.0 c.args.disk c.in-Err.refused.disk
    _ c.args.bytes.now (c.in-Err.ensures.any_moment_refused m) (c.try_again.ensures.kept m)

pub returns-in-Device-clause-lost : goal.returns-in-Device-clause-lost
returns-in-Device-clause-lost g c = λ m. lost_again g.D.Disk c.try_again.result.0 c.args.disk c.in-Err.refused.disk
    _ c.args.bytes.now (c.in-Err.ensures.any_moment_refused m) (c.try_again.ensures.lost m)

pub returns-in-Device-clause-cause : goal.returns-in-Device-clause-cause
returns-in-Device-clause-cause g c =
    lost_before g.D.Disk c.try_again.result.0 c.args.disk c.in-Err.refused.disk c.try_again.result.1
    c.args.bytes.now (failed_unopened g.D.Disk c.args.disk c.in-Err.refused.disk c.in-Err.refused.fault
    c.in-Device.is c.in-Err.ensures.refuses) c.try_again.ensures.count

pub returns-in-Device-clause-untold : goal.returns-in-Device-clause-untold
returns-in-Device-clause-untold g c =
    untold_earlier g.D.Disk c.try_again.result.0 c.args.disk c.in-Err.refused.disk c.try_again.result.1
    (no_less (g.D.Disk.failed c.args.disk) (g.D.Disk.failed c.in-Err.refused.disk) c.counted.ensures
    (failed_unopened g.D.Disk c.args.disk c.in-Err.refused.disk c.in-Err.refused.fault c.in-Device.is
    c.in-Err.ensures.refuses))
    c.in-Err.ensures.any_moment_refused c.try_again.ensures.untold
