use Rattle.std.proofs.Common.{subst, sym}
use Rattle.read_streams.specs.Chains.{IsFatOf}
use Rattle.read_streams.proofs.tables.minis_of.Goals as goal

pub returns-clause-next : goal.returns-clause-next
returns-clause-next c = λ a h t d fat.
    c.in_ok-mini_fat.ensures.next a h t d (subst (IsFatOf a d.layout)
    (sym c.lent-links.ensures) fat)

pub returns-clause-stream : goal.returns-clause-stream
returns-clause-stream c = λ a h t d fat.
    c.in_ok-mini_stream.ensures.found a h t d
    (subst (IsFatOf a d.layout) (sym c.lent-links.ensures) fat)
