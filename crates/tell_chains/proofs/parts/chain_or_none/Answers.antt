use Rattle.std.proofs.Common.{◌≡◌, [], arith, rules}
use Rattle.std.proofs.lemmas.Result.{IfOk-weaker}
use Rattle.tell_chains.proofs.Laid.{chain_none, no_chain_of, some_chain}
use Rattle.tell_chains.proofs.parts.chain_or_none.Goals as goal

pub returns-then-chain-eq0-clause-whole : goal.returns-then-chain-eq0-clause-whole
returns-then-chain-eq0-clause-whole c = λ s t w.
    let e : c.new.result.items ≡ [] = search (rules, c.new.ensures) in
    chain_none s c.args.chain.first c.args.chain.size c.new.result.items c.if-chain-eq0.true e

pub returns-clause-whole : goal.returns-clause-whole
returns-clause-whole c = IfOk-weaker c.chain_at.result _ _
    (λ v e. some_chain c.args.table.now c.args.chain v (omega (arith, c.if-chain-eq0.false)) e)
    c.chain_at.ensures.whole

pub returns-clause-other : goal.returns-clause-other
returns-clause-other c =
    IfOk-weaker c.chain_at.result _ _ (λ v e. no_chain_of c.args.table.now c.args.chain v
    (omega (arith, c.if-chain-eq0.false)) e) c.chain_at.ensures.other
