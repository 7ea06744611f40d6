use Rattle.std.proofs.Common.{arith}
use Rattle.store_core.specs.Opened.{disk_of}
use Rattle.script_container.proofs.Causes.{untold_earlier, untold_unopened}
use Rattle.script_container.proofs.Kept.{lost_on_opened, saved_on_opened}
use Rattle.script_container.proofs.saves.try_again.Goals as goal

pub returns-in-Ok-clause-kept : goal.returns-in-Ok-clause-kept
returns-in-Ok-clause-kept g c = λ m.
    saved_on_opened g.D.Disk c.compare.result.0 c.args.disk (disk_of c.in-Ok.store) _
    (g.D.Disk.reads (disk_of c.in-Ok.store)).document c.args.bytes.now
    (g.met.D.Disk.reads_are_left c.args.disk) (c.in-Ok.ensures.document m) (c.in-Ok.ensures.any_moment m)
    (c.compare.ensures.kept m)

pub returns-in-Ok-clause-lost : goal.returns-in-Ok-clause-lost
returns-in-Ok-clause-lost g c = λ m.
    lost_on_opened g.D.Disk c.compare.result.0 c.args.disk (disk_of c.in-Ok.store) _
    (g.D.Disk.reads (disk_of c.in-Ok.store)).document c.args.bytes.now
    (g.met.D.Disk.reads_are_left c.args.disk) (c.in-Ok.ensures.document m) (c.in-Ok.ensures.any_moment m)
    (c.compare.ensures.lost m)

pub returns-in-Ok-clause-untold : goal.returns-in-Ok-clause-untold
returns-in-Ok-clause-untold g c =
    let same = c.in-Ok.ensures.count in
    untold_earlier g.D.Disk c.compare.result.0 c.args.disk (disk_of c.in-Ok.store) c.compare.result.1
    (omega (arith, same)) c.in-Ok.ensures.any_moment c.compare.ensures.untold

pub returns-in-Err-clause-untold : goal.returns-in-Err-clause-untold
returns-in-Err-clause-untold g c = untold_unopened g.D.Disk c.args.disk c.in-Err.refused.disk c.in-Err.refused.fault
    (g.met.D.Disk.reads_are_left c.args.disk) c.in-Err.ensures.refuses
