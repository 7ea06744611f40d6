use Rattle.store_core.specs.Opened.{disk_of, needs_reopen_of}
use Rattle.script_container.proofs.Causes.{untold_held}
use Rattle.script_container.proofs.saves.compare.Goals as goal

pub returns-in-Err-clause-untold : goal.returns-in-Err-clause-untold
returns-in-Err-clause-untold g c = untold_held g.D.Disk (disk_of c.args.store) (disk_of c.holds.new.self)
    c.into_disk-in-Err.result (needs_reopen_of c.args.store) (needs_reopen_of c.holds.new.self) c.in-Err.refused
    c.requires c.into_disk-in-Err.ensures.disk c.in-Err.ensures.refuses
