use Rattle.std.proofs.Common.{◌∙◌, inl, ap, sym}
use Rattle.cfb_entries.specs.Entries.{kind_number}
use Rattle.tell_entries.proofs.Steps.{opens_root, opens_storage, refused_at}
use Rattle.tell_entries.proofs.looking.look.Goals as goal

pub at_fault-requires-clause-there : goal.at_fault-requires-clause-there
at_fault-requires-clause-there c = λ t.
    inl (refused_at c.args.entries.now.directory c.args.directory.now c.args.way.now c.end_of.result c.in-Err.found
    c.args.fault c.requires.met.same c.end_of.ensures
    (c.is_told.ensures t).0 c.in-Err.ensures.refused)

pub look_below-requires-clause-storage : goal.look_below-requires-clause-storage
look_below-requires-clause-storage c =
    opens_root c.args.entries.now.directory c.args.directory.now c.args.way.now c.end_of.result c.requires.met.same
    c.end_of.ensures c.in-Ok.ensures.read.allowed
    (sym c.in-Ok.ensures.read.kind_held ∙ ap kind_number c.in-Root.is)

pub look_below-requires-in-Storage-clause-storage : goal.look_below-requires-in-Storage-clause-storage
look_below-requires-in-Storage-clause-storage c =
    opens_storage c.args.entries.now.directory c.args.directory.now c.args.way.now c.end_of.result
    c.requires.met.same c.end_of.ensures c.in-Ok.ensures.read.allowed
    (sym c.in-Ok.ensures.read.kind_held ∙ ap kind_number c.in-Storage.is)
