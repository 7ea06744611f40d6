use Rattle.std.proofs.Common.{[]}
use Rattle.tell_chains.proofs.Owned.{spared_fate}
use Rattle.tell_chains.proofs.chains.link_at_fault.Goals as goal

pub returns-then-not-may_have-clause-none : goal.returns-then-not-may_have-clause-none
returns-then-not-may_have-clause-none c =
    spared_fate c.args.parts.now c.chain_of.result c.args.stream.now c.args.fault c.fate_of.result c.requires.few
    (c.fate_of.ensures c.args.parts.now [] c.requires.fates) c.chain_of.ensures.first c.chain_of.ensures.size
    c.chain_of.ensures.wide (c.may_have.ensures c.if-not-may_have.true c.requires.other)
