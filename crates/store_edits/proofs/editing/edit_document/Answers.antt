use Rattle.std.proofs.Common.{inl}
use Rattle.store_core.specs.Opened.{disk_of}
use Rattle.store_edits.specs.Disks.{IsAsGiven, IsAsGivenOrEdit}
use Rattle.store_edits.proofs.Causes.{refused_told, unopened}
use Rattle.store_edits.proofs.Disks.{edited_opened, kept_opened, mapped, opened_then}
use Rattle.store_edits.proofs.editing.edit_document.Goals as goal

pub returns-in-Ok-clause-edited : goal.returns-in-Ok-clause-edited
returns-in-Ok-clause-edited g c = λ m.
    edited_opened g.D.Disk c.args.changes.items c.edit_store.result.told c.args.disk c.edit_store.result.disk
    (g.D.Disk.reads (disk_of c.in-Ok.store)).document (c.in-Ok.ensures.document m)
    (c.edit_store.ensures.edited m)

pub returns-in-Ok-clause-any_moment : goal.returns-in-Ok-clause-any_moment
returns-in-Ok-clause-any_moment g c = λ m.
    opened_then g.D.Disk c.args.changes.items c.args.disk (disk_of c.in-Ok.store) c.edit_store.result.disk
    (g.D.Disk.reads (disk_of c.in-Ok.store)).document
    (g.met.D.Disk.reads_are_left c.args.disk) (c.in-Ok.ensures.document m) (c.in-Ok.ensures.any_moment m)
    (c.edit_store.ensures.any_moment m)

pub returns-in-Ok-clause-as_before : goal.returns-in-Ok-clause-as_before
returns-in-Ok-clause-as_before g c = λ m.
    kept_opened g.D.Disk c.edit_store.result.told c.args.disk c.edit_store.result.disk
    (g.D.Disk.reads (disk_of c.in-Ok.store)).document c.edit_store.result.is_settled
    (c.in-Ok.ensures.document m) (c.edit_store.ensures.as_before m)

pub returns-in-Ok-clause-refused : goal.returns-in-Ok-clause-refused
returns-in-Ok-clause-refused g c =
    refused_told g.D.Disk c.args.changes.items c.edit_store.result.told c.args.disk (disk_of c.in-Ok.store)
    c.edit_store.result.disk (g.D.Disk.reads (disk_of c.in-Ok.store)).document
    (λ m. (c.in-Ok.ensures.any_moment m).any_moment.later) (λ m. c.in-Ok.ensures.document m)
    c.edit_store.ensures.refused

pub returns-in-Err-clause-any_moment : goal.returns-in-Err-clause-any_moment
returns-in-Err-clause-any_moment g c = λ m.
    mapped g.D.Disk c.args.disk c.in-Err.refused.disk (IsAsGiven g.D.Disk c.args.disk)
    (IsAsGivenOrEdit g.D.Disk c.args.changes.items c.args.disk) (c.in-Err.ensures.any_moment_refused m)
    (λ i has. inl has)

pub returns-in-Err-clause-refused : goal.returns-in-Err-clause-refused
returns-in-Err-clause-refused g c = unopened g.D.Disk c.args.changes.items c.args.disk c.in-Err.refused.disk
    c.in-Err.refused.fault c.in-Err.ensures.refuses
