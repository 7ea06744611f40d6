use Rattle.std.proofs.Common.{◌∙◌, sym}
use Rattle.tell_chains.proofs.Leading.{fate_at}
use Rattle.tell_chains.proofs.Owned.{fate_minis, fate_sectors}
use Rattle.tell_chains.proofs.fates.fate_of.Goals as goal

pub returns-then-lies_in_minis : goal.returns-then-lies_in_minis
returns-then-lies_in_minis c = λ p taken a.
    fate_minis p taken c.args.fates.now c.args.stream.now c.fate_from.result
    (sym c.lies_in_minis.ensures ∙ c.if-lies_in_minis.true) a
    (fate_at p.minis.items c.args.fates.now.mini_stops.items c.deref.result.now c.args.fates.now.minis.items
    c.deref-then-lies_in_minis.result.now c.args.stream.now.first c.fate_from.result c.deref.ensures.value
    c.deref-then-lies_in_minis.ensures.value
    a.minis c.fate_from.ensures)

pub returns : goal.returns
returns c = λ p taken a.
    fate_sectors p taken c.args.fates.now c.args.stream.now c.fate_from-2.result
    (sym c.lies_in_minis.ensures ∙ c.if-lies_in_minis.false) a
    (fate_at p.table.items c.args.fates.now.stops.items c.deref-2.result.now c.args.fates.now.sectors.items
    c.deref-3.result.now c.args.stream.now.first c.fate_from-2.result c.deref-2.ensures.value c.deref-3.ensures.value
    a.sectors c.fate_from-2.ensures)
