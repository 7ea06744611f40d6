use Rattle.std.proofs.Common.{◌∙◌, sym}
use Rattle.tell_chains.proofs.Owned.{table_minis, table_sectors}
use Rattle.tell_chains.proofs.links.table_for.Goals as goal

pub returns-then-lies_in_minis : goal.returns-then-lies_in_minis
returns-then-lies_in_minis c = c.deref.ensures.value ∙ table_minis c.args.parts.now c.args.size
    (sym c.lies_in_minis.ensures ∙ c.if-lies_in_minis.true)

pub returns : goal.returns
returns c = c.deref-2.ensures.value ∙ table_sectors c.args.parts.now c.args.size
    (sym c.lies_in_minis.ensures ∙ c.if-lies_in_minis.false)
