use Rattle.std.proofs.Common.{inl, refl}
use Rattle.store_core.specs.Opened.{disk_of, needs_reopen_of}
use Rattle.store_edits.specs.Disks.{IsBeforeOrEdit}
use Rattle.store_edits.proofs.Causes.{not_updated, uncommitted_told}
use Rattle.store_edits.proofs.Disks.{edited_then, either_then, held, still_at}
use Rattle.store_edits.proofs.editing.edit_read.Goals as goal

pub returns-in-Ok-clause-edited : goal.returns-in-Ok-clause-edited
returns-in-Ok-clause-edited g c = λ m.
    edited_then g.D.Disk c.args.changes.items c.commit.result.told c.commit.result.disk
    (g.D.Disk.reads (disk_of c.args.store)).document c.args.document.now c.in-Ok.renewed.image
    c.bytes.result.now c.in-Ok.renewed.blocks
    (c.requires.read m) c.bytes.ensures.value c.in-Ok.ensures.edited c.in-Ok.ensures.counted
    (c.commit.ensures.kept m) c.commit.ensures.told

pub returns-in-Ok-clause-any_moment : goal.returns-in-Ok-clause-any_moment
returns-in-Ok-clause-any_moment g c = λ m.
    either_then g.D.Disk c.args.changes.items (disk_of c.args.store) c.commit.result.disk
    (g.D.Disk.reads (disk_of c.args.store)).document c.args.document.now c.in-Ok.renewed.image
    c.bytes.result.now
    (c.requires.read m) c.bytes.ensures.value c.in-Ok.ensures.edited (c.commit.ensures.any_moment m)

pub returns-in-Ok-clause-refused : goal.returns-in-Ok-clause-refused
returns-in-Ok-clause-refused g c =
    uncommitted_told g.D.Disk c.args.changes.items c.commit.result.told (disk_of c.args.store) c.commit.result.disk
    (g.D.Disk.reads (disk_of c.args.store)).document c.args.document.now c.in-Ok.renewed.image
    c.bytes.result.now
    c.requires.read c.bytes.ensures.value c.in-Ok.ensures.edited c.commit.ensures.refused

pub returns-in-Err-clause-any_moment : goal.returns-in-Err-clause-any_moment
returns-in-Err-clause-any_moment g c = λ m.
    let document = (g.D.Disk.reads (disk_of c.args.store)).document in
    let has = held g.D.Disk c.into_disk.result (disk_of c.args.store) document (needs_reopen_of c.args.store)
    c.into_disk.ensures.disk refl c.requires.ready (c.into_disk.ensures.between_calls m) in
    still_at g.D.Disk (disk_of c.args.store) c.into_disk.result (IsBeforeOrEdit c.args.changes.items document)
    c.into_disk.ensures.disk g.met.D.Disk.only_now (λ i left. inl (has.durable i left))

pub returns-in-Err-clause-as_before : goal.returns-in-Err-clause-as_before
returns-in-Err-clause-as_before g c = λ m settled.
    held g.D.Disk c.into_disk.result (disk_of c.args.store) (g.D.Disk.reads (disk_of c.args.store)).document
    (needs_reopen_of c.args.store) c.into_disk.ensures.disk refl c.requires.ready
    (c.into_disk.ensures.between_calls m)

pub returns-in-Err-clause-refused : goal.returns-in-Err-clause-refused
returns-in-Err-clause-refused g c =
    not_updated g.D.Disk c.args.changes.items (g.D.Disk.reads (disk_of c.args.store)).document
    (disk_of c.args.store) c.into_disk.result c.args.document.now c.in-Err.fault c.requires.read
    c.in-Err.ensures.refused
