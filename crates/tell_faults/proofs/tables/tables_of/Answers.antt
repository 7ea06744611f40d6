use Rattle.std.proofs.Common.{◌++◌, ◌∙◌, ap}
use Rattle.tell_faults.proofs.Places.{tables_by}
use Rattle.tell_faults.proofs.tables.tables_of.Goals as goal

pub returns : goal.returns
returns c =
    tables_by c.args.file.now c.args.header.now c.args.fat c.in_ok-own.own.fat.items c.in_ok-own.own.difat.items
    c.extend_from_slice.new.self.items c.in_ok-own.own.entries.items c.requires.same
    c.requires.table c.in_ok-own.ensures (c.in_ok-extend_from_slice.ensures.items
    ∙ ap (λ xs. c.in_ok-own.own.fat.items ++ xs) c.deref.ensures.value)
