use Rattle.std.proofs.Common.{refl}
use Rattle.store_core.specs.Opened.{disk_of, needs_reopen_of}
use Rattle.script_container.proofs.Kept.{read_on_opened}
use Rattle.script_opens.proofs.Reading.{fault_of, more_of, never_more}
use Rattle.script_opens.proofs.opens.document_on.Goals as goal

pub returns-in-Ok-clause-read : goal.returns-in-Ok-clause-read
returns-in-Ok-clause-read g c = λ m.
    let store = c.in-Ok.store in
    read_on_opened g.D.Disk c.current_within-file.result c.args.disk (disk_of store)
    (disk_of c.current_within-file.new.self) c.into_disk.result (needs_reopen_of store)
    (needs_reopen_of c.current_within-file.new.self)
    (g.met.D.Disk.reads_are_left c.args.disk) (c.in-Ok.ensures.document m) (c.in-Ok.ensures.any_moment m)
    (c.current_within-file.ensures.any_moment m c.in-Ok.ensures.ready) c.into_disk.ensures.disk
    (c.current_within-file.ensures.same m) (c.current_within-file.ensures.document m)
    c.current_within-file.ensures.ready (c.into_disk.ensures.between_calls m)

pub returns-in-Ok-clause-large : goal.returns-in-Ok-clause-large
returns-in-Ok-clause-large g c = λ m is.
    more_of g.D.Disk c.args.disk c.current_within-file.result (g.D.Disk.reads (disk_of c.in-Ok.store)).document
    (c.in-Ok.ensures.document m) (c.current_within-file.ensures.too_big m) is

pub returns-in-Err-clause-large : goal.returns-in-Err-clause-large
returns-in-Err-clause-large g c = λ m is. never_more g.D.Disk c.args.disk c.in-Err.refused.fault
    c.in-Err.refused.disk c.in-Err.ensures.refuses (fault_of c.in-Err.refused.fault is refl)
