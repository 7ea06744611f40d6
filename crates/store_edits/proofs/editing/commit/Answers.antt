use Rattle.std.proofs.Common.{refl, true, ◌≡◌}
use Rattle.store_core.specs.Opened.{disk_of, needs_reopen_of}
use Rattle.store_edits.specs.Disks.{Holds}
use Rattle.store_edits.proofs.Causes.{lost_told, unresolved}
use Rattle.store_edits.proofs.Disks.{held, kept_then, lost_then, settled_then, told_then}
use Rattle.store_edits.proofs.editing.commit.Goals as goal

pub returns-in-Ok-clause-kept : goal.returns-in-Ok-clause-kept
returns-in-Ok-clause-kept g c = λ m.
    kept_then c.told_of.result c.in-Ok.outcome c.args.bytes.now c.args.blocks
    (g.D.Disk.reads (disk_of c.args.store)).document (g.D.Disk.reads (disk_of c.in-Ok.store)).document
    (Holds g.D.Disk c.into_disk.result c.args.bytes.now) c.told_of.ensures (c.in-Ok.ensures.ends m c.requires)
    (λ is. held g.D.Disk c.into_disk.result (disk_of c.in-Ok.store) c.args.bytes.now (needs_reopen_of c.in-Ok.store)
    c.into_disk.ensures.disk is c.in-Ok.ensures.ready (c.into_disk.ensures.between_calls m))

pub returns-in-Ok-clause-told : goal.returns-in-Ok-clause-told
returns-in-Ok-clause-told g c = told_then c.told_of.result c.in-Ok.outcome c.args.bytes.now c.args.blocks
    c.told_of.ensures

pub returns-in-Ok-clause-as_before : goal.returns-in-Ok-clause-as_before
returns-in-Ok-clause-as_before g c = λ m.
    lost_then c.told_of.result c.in-Ok.outcome c.args.bytes.now c.args.blocks
    (g.D.Disk.reads (disk_of c.args.store)).document (g.D.Disk.reads (disk_of c.in-Ok.store)).document
    (true ≡ true → Holds g.D.Disk c.into_disk.result (g.D.Disk.reads (disk_of c.args.store)).document)
    c.told_of.ensures (c.in-Ok.ensures.ends m c.requires)
    (λ is settled. held g.D.Disk c.into_disk.result (disk_of c.in-Ok.store)
    (g.D.Disk.reads (disk_of c.args.store)).document (needs_reopen_of c.in-Ok.store) c.into_disk.ensures.disk is
    c.in-Ok.ensures.ready (c.into_disk.ensures.between_calls m))

pub returns-in-Ok-clause-settled : goal.returns-in-Ok-clause-settled
returns-in-Ok-clause-settled g c = settled_then c.told_of.result true refl

pub returns-in-Ok-clause-refused : goal.returns-in-Ok-clause-refused
returns-in-Ok-clause-refused g c =
    lost_told g.D.Disk c.told_of.result c.in-Ok.outcome (disk_of c.args.store) (disk_of c.in-Ok.store)
    c.into_disk.result c.args.bytes.now c.args.blocks (needs_reopen_of c.args.store) c.requires
    c.into_disk.ensures.disk c.told_of.ensures c.in-Ok.ensures.lost

pub returns-in-Err-clause-refused : goal.returns-in-Err-clause-refused
returns-in-Err-clause-refused g c = unresolved g.D.Disk (disk_of c.args.store) c.in-Err.refused.disk
    c.args.bytes.now (needs_reopen_of c.args.store) c.in-Err.refused.fault c.requires c.in-Err.ensures.refuses
