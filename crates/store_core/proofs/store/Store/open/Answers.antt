use Rattle.store_core.proofs.Crashing.{either_is, goes_on, leaves_either}
use Rattle.store_core.proofs.store.Store.open.Goals as goal

pub returns-in-Ok-clause-ends : goal.returns-in-Ok-clause-ends
returns-in-Ok-clause-ends g c model old new so_far =
    let reads = g.D.Disk.reads in
    let disk = c.args.disk in
    either_is old new (reads c.recover.new.disk).document (reads disk)
    (leaves_either g.D.Disk.may_leave g.D.Disk.moment g.D.Disk.left_since old new disk so_far (reads disk)
    (g.met.D.Disk.reads_are_left disk)) (c.in-Ok.ensures.document model)

pub returns-in-Ok-clause-crashes : goal.returns-in-Ok-clause-crashes
returns-in-Ok-clause-crashes g c model old new so_far = goes_on g.D.Disk.may_leave g.D.Disk.moment
    g.D.Disk.left_since old new c.args.disk c.recover.new.disk so_far (c.recover.ensures.stays model)

pub returns-in-Err-clause-crashes_refused : goal.returns-in-Err-clause-crashes_refused
returns-in-Err-clause-crashes_refused g c model old new so_far =
    goes_on g.D.Disk.may_leave g.D.Disk.moment g.D.Disk.left_since old new c.args.disk c.recover.new.disk so_far
    (c.recover.ensures.stays model)
