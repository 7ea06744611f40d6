use Rattle.store_core.specs.Opened.{disk_of, needs_reopen_of}
use Rattle.script_container.proofs.Causes.{lost_as, untold_reopened}
use Rattle.script_container.proofs.saves.replace.Goals as goal

pub returns-in-Ok-clause-cause : goal.returns-in-Ok-clause-cause
returns-in-Ok-clause-cause g c =
    lost_as g.D.Disk (disk_of c.args.store) (disk_of c.in-Ok.store) c.into_disk.result c.args.bytes.now
    (needs_reopen_of c.args.store) c.in-Ok.outcome c.requires c.into_disk.ensures.disk c.in-Ok.ensures.lost

pub returns-in-Err-clause-untold : goal.returns-in-Err-clause-untold
returns-in-Err-clause-untold g c = untold_reopened g.D.Disk (disk_of c.args.store) c.in-Err.refused.disk
    (needs_reopen_of c.args.store) c.in-Err.refused.fault c.requires c.in-Err.ensures.refuses
