use Rattle.std.proofs.Common.{inl, subst, sym}
use Rattle.store_model.specs.Store.{IsBeforeOrAfter, StandsFor}
use Rattle.store_core.proofs.Gating.{closed_stands}
use Rattle.store_core.proofs.Crashing.{starts}
use Rattle.store_core.proofs.Moments.{begun}
use Rattle.store_core.specs.Opened.{disk_of}
use Rattle.store_core.proofs.store.Store.commit.Goals as goal

pub returns-then-bytes-gt-MAX_DOCUMENT-clause-any_moment : goal.returns-then-bytes-gt-MAX_DOCUMENT-clause-any_moment
returns-then-bytes-gt-MAX_DOCUMENT-clause-any_moment g c model ready =
    let disk = disk_of c.args.self.now in
    let reads = g.D.Disk.reads in
    let rests = c.args.self.now.rests ready model in
    begun g.D.Disk.may_leave g.D.Disk.moment g.D.Disk.left_since disk
    (IsBeforeOrAfter (reads disk).document c.args.bytes.now) (g.met.D.Disk.only_now disk)
    (λ i left. inl (subst (λ b. StandsFor (reads disk).document b) (sym (rests.durable i left))
    (closed_stands (reads disk) rests.shut)))

pub returns-then-bytes-gt-MAX_DOCUMENT-clause-crashes : goal.returns-then-bytes-gt-MAX_DOCUMENT-clause-crashes
returns-then-bytes-gt-MAX_DOCUMENT-clause-crashes g c model ready =
    let disk = disk_of c.args.self.now in
    let reads = g.D.Disk.reads in
    let rests = c.args.self.now.rests ready model in
    starts g.D.Disk.may_leave g.D.Disk.moment g.D.Disk.left_since (reads disk).document c.args.bytes.now disk disk
    (begun g.D.Disk.may_leave g.D.Disk.moment g.D.Disk.left_since disk
    (IsBeforeOrAfter (reads disk).document c.args.bytes.now) (g.met.D.Disk.only_now disk)
    (λ i left. inl (subst (λ b. StandsFor (reads disk).document b) (sym (rests.durable i left))
    (closed_stands (reads disk) rests.shut))))

pub returns-in-Ok-clause-crashes : goal.returns-in-Ok-clause-crashes
returns-in-Ok-clause-crashes g c model ready =
    let disk = disk_of c.args.self.now in
    starts g.D.Disk.may_leave g.D.Disk.moment g.D.Disk.left_since (g.D.Disk.reads disk).document c.args.bytes.now
    disk c.replace.new.disk (c.replace.ensures.stays model)

pub returns-in-Err-clause-crashes : goal.returns-in-Err-clause-crashes
returns-in-Err-clause-crashes g c model ready =
    let disk = disk_of c.args.self.now in
    starts g.D.Disk.may_leave g.D.Disk.moment g.D.Disk.left_since (g.D.Disk.reads disk).document c.args.bytes.now
    disk c.replace.new.disk (c.replace.ensures.stays model)

pub returns-then-bytes-gt-MAX_DOCUMENT-clause-after_device : goal.returns-then-bytes-gt-MAX_DOCUMENT-clause-after_device
returns-then-bytes-gt-MAX_DOCUMENT-clause-after_device g c model ready =
    inl (closed_stands (g.D.Disk.reads (disk_of c.args.self.now)) (c.args.self.now.rests ready model).shut)

pub returns-in-Ok-clause-any_moment : goal.returns-in-Ok-clause-any_moment
returns-in-Ok-clause-any_moment g c model ready = c.replace.ensures.stays model

pub returns-in-Err-clause-any_moment : goal.returns-in-Err-clause-any_moment
returns-in-Err-clause-any_moment g c model ready = c.replace.ensures.stays model

pub returns-in-Ok-clause-after_device : goal.returns-in-Ok-clause-after_device
returns-in-Ok-clause-after_device g c model ready = (c.replace.ensures.stays model).now
    (g.D.Disk.reads c.replace.new.disk) (g.met.D.Disk.reads_are_left c.replace.new.disk)

pub returns-in-Err-clause-after_device : goal.returns-in-Err-clause-after_device
returns-in-Err-clause-after_device g c model ready = (c.replace.ensures.stays model).now
    (g.D.Disk.reads c.replace.new.disk) (g.met.D.Disk.reads_are_left c.replace.new.disk)
