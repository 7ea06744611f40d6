use Rattle.store_core.specs.Steps.{IsStaging}
use Rattle.store_core.proofs.Moments.{quietly}
use Rattle.store_core.proofs.Under.{stages_again, stages_more}
use Rattle.store_core.proofs.stage.write_window.Goals as goal

pub returns-in_err-read_into-clause-stays : goal.returns-in_err-read_into-clause-stays
returns-in_err-read_into-clause-stays g c model =
    let disk = c.args.disk.now in
    quietly g.D.Disk.may_leave g.D.Disk.moment g.D.Disk.left_since disk c.read_into.new.disk
    (IsStaging (g.D.Disk.reads disk)) (c.requires.closed model) (c.read_into.ensures.quiet model)

pub write_behind-requires-clause-closed : goal.write_behind-requires-clause-closed
write_behind-requires-clause-closed g c model =
    let disk = c.args.disk.now in
    let read = c.read_into.new.disk in
    stages_again g.D.Disk.reads g.D.Disk.may_leave g.D.Disk.moment g.D.Disk.left_since disk read
    (g.met.D.Disk.reads_are_left read)
    (quietly g.D.Disk.may_leave g.D.Disk.moment g.D.Disk.left_since disk read (IsStaging (g.D.Disk.reads disk))
    (c.requires.closed model) (c.read_into.ensures.quiet model))

pub returns-in_err-write_behind-clause-stays : goal.returns-in_err-write_behind-clause-stays
returns-in_err-write_behind-clause-stays g c model =
    let disk = c.args.disk.now in
    let read = c.read_into.new.disk in
    stages_more g.D.Disk.reads g.D.Disk.may_leave g.D.Disk.moment g.D.Disk.left_since disk read
    c.write_behind.new.disk (g.met.D.Disk.reads_are_left read)
    (quietly g.D.Disk.may_leave g.D.Disk.moment g.D.Disk.left_since disk read (IsStaging (g.D.Disk.reads disk))
    (c.requires.closed model) (c.read_into.ensures.quiet model))
    (c.write_behind.ensures.stays model)

pub returns-clause-stays : goal.returns-clause-stays
returns-clause-stays g c model =
    let disk = c.args.disk.now in
    let read = c.read_into.new.disk in
    stages_more g.D.Disk.reads g.D.Disk.may_leave g.D.Disk.moment g.D.Disk.left_since disk read
    c.write_behind.new.disk (g.met.D.Disk.reads_are_left read)
    (quietly g.D.Disk.may_leave g.D.Disk.moment g.D.Disk.left_since disk read (IsStaging (g.D.Disk.reads disk))
    (c.requires.closed model) (c.read_into.ensures.quiet model))
    (c.write_behind.ensures.stays model)
