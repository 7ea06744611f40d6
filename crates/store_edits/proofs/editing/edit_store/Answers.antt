use Rattle.std.proofs.Common.{Err, ap, sym, subst, inl, ◌∙◌}
use Rattle.store_core.specs.Opened.{disk_of, needs_reopen_of}
use Rattle.store_model.specs.Store.{StandsFor}
use Rattle.store_edits.specs.Disks.{IsBeforeOrEdit, MayRefuseOver}
use Rattle.store_edits.specs.declared.fault.EditFault.TheVariants.{Store}
use Rattle.store_edits.proofs.Causes.{refused_read, unread}
use Rattle.store_edits.proofs.Disks.{edited_read, held_still, kept_read, mapped, not_settled, read_then, stays_at}
use Rattle.store_edits.proofs.editing.edit_store.Goals as goal

pub edit_read-requires-clause-ready : goal.edit_read-requires-clause-ready
edit_read-requires-clause-ready g c = c.in-Ok.ensures.ready.1

pub edit_read-requires-clause-read : goal.edit_read-requires-clause-read
edit_read-requires-clause-read g c = λ m. c.deref.ensures.value ∙ c.in-Ok.ensures.document m
    ∙ sym (ap (λ i. i.document) (c.in-Ok.ensures.same m))

pub returns-in-Ok-clause-edited : goal.returns-in-Ok-clause-edited
returns-in-Ok-clause-edited g c = λ m.
    edited_read g.D.Disk c.args.changes.items c.edit_read.result.told c.edit_read.result.disk
    (g.D.Disk.reads (disk_of c.args.store)).document
    (g.D.Disk.reads (disk_of c.current_within.new.self)).document
    (ap (λ i. i.document) (c.in-Ok.ensures.same m)) (c.edit_read.ensures.edited m)

pub returns-in-Ok-clause-any_moment : goal.returns-in-Ok-clause-any_moment
returns-in-Ok-clause-any_moment g c = λ m.
    read_then g.D.Disk c.args.changes.items (disk_of c.args.store) (disk_of c.current_within.new.self)
    c.edit_read.result.disk (g.D.Disk.reads (disk_of c.args.store)).document
    (g.D.Disk.reads (disk_of c.current_within.new.self)).document
    (ap (λ i. i.document) (c.in-Ok.ensures.same m)) (c.in-Ok.ensures.any_moment m c.requires)
    (c.edit_read.ensures.any_moment m)

pub returns-in-Ok-clause-as_before : goal.returns-in-Ok-clause-as_before
returns-in-Ok-clause-as_before g c = λ m.
    kept_read g.D.Disk c.edit_read.result.told c.edit_read.result.disk
    (g.D.Disk.reads (disk_of c.args.store)).document
    (g.D.Disk.reads (disk_of c.current_within.new.self)).document c.edit_read.result.is_settled
    (ap (λ i. i.document) (c.in-Ok.ensures.same m)) (c.edit_read.ensures.as_before m)

pub returns-in-Ok-clause-refused : goal.returns-in-Ok-clause-refused
returns-in-Ok-clause-refused g c =
    refused_read g.D.Disk c.args.changes.items c.edit_read.result.told (disk_of c.args.store)
    (disk_of c.current_within.new.self) c.edit_read.result.disk (g.D.Disk.reads (disk_of c.args.store)).document
    (g.D.Disk.reads (disk_of c.current_within.new.self)).document
    (λ m. (c.in-Ok.ensures.any_moment m c.requires).any_moment.later)
    (λ m. ap (λ i. i.document) (c.in-Ok.ensures.same m)) c.edit_read.ensures.refused

pub returns-in-Err-clause-any_moment : goal.returns-in-Err-clause-any_moment
returns-in-Err-clause-any_moment g c = λ m.
    let document = (g.D.Disk.reads (disk_of c.args.store)).document in
    stays_at g.D.Disk (disk_of c.args.store) (disk_of c.current_within.new.self) c.into_disk.result
    (IsBeforeOrEdit c.args.changes.items document) c.into_disk.ensures.disk
    (mapped g.D.Disk (disk_of c.args.store) (disk_of c.current_within.new.self) (StandsFor document)
    (IsBeforeOrEdit c.args.changes.items document) (c.in-Err.ensures.any_moment m c.requires)
    (λ i has. inl has))

pub returns-in-Err-clause-as_before : goal.returns-in-Err-clause-as_before
returns-in-Err-clause-as_before g c = λ m settled.
    let document = (g.D.Disk.reads (disk_of c.args.store)).document in
    let run = stays_at g.D.Disk (disk_of c.args.store) (disk_of c.current_within.new.self) c.into_disk.result
    (StandsFor document) c.into_disk.ensures.disk (c.in-Err.ensures.any_moment m c.requires) in
    held_still g.D.Disk c.into_disk.result document (g.met.D.Disk.reads_are_left c.into_disk.result) run.now
    (c.into_disk.ensures.between_calls m (sym c.needs_reopen-is_settled.ensures.value
    ∙ not_settled c.needs_reopen-is_settled.result settled))

pub returns-in-Err-clause-refused : goal.returns-in-Err-clause-refused
returns-in-Err-clause-refused g c =
    let document = (g.D.Disk.reads (disk_of c.args.store)).document in
    subst (λ d. MayRefuseOver g.D.Disk c.args.changes.items document (disk_of c.args.store) d
    (Store c.in-Err.fault)) (sym c.into_disk.ensures.disk)
    (unread g.D.Disk c.args.changes.items document (disk_of c.args.store) (disk_of c.current_within.new.self)
    (needs_reopen_of c.args.store) (needs_reopen_of c.current_within.new.self) c.in-Err.fault
    (λ is m. c.in-Err.ensures.too_big m (ap Err is)) c.in-Err.ensures.refuses c.requires)
