use Rattle.std.proofs.Common.{length, subst, sym, ◌≤◌, List, ℕ}
use Rattle.std.proofs.lemmas.Result.{IfOk-weaker}
use Rattle.tell_chains.proofs.Owned.{chain_found, few_in}
use Rattle.tell_chains.proofs.links.sectors_of.Goals as goal

pub chain_at-requires : goal.chain_at-requires
chain_at-requires c = subst (λ (x : List ℕ). length x ≤ 0xFFFFFFF9) (sym c.table_for-table.ensures)
    (few_in c.args.parts.now c.args.stream.now.size c.requires)

pub returns : goal.returns
returns c =
    IfOk-weaker c.chain_at.result _ _ (λ v e. chain_found c.args.parts.now c.table_for-table.result.now
    c.chain_of-chain.result c.args.stream.now c.table_for-table.ensures c.chain_of-chain.ensures.first
    c.chain_of-chain.ensures.size c.chain_of-chain.ensures.wide v e) c.chain_at.ensures.whole
