use Rattle.std.proofs.Common.{length, subst, sym, ◌≤◌, List, ℕ}
use Rattle.tell_chains.proofs.Owned.{few_in, link_found, spared_found}
use Rattle.tell_chains.proofs.links.find_link.Goals as goal

pub examine-requires : goal.examine-requires
examine-requires c = subst (λ (x : List ℕ). length x ≤ 0xFFFFFFF9) (sym c.table_for-table.ensures)
    (few_in c.args.parts.now c.args.stream.now.size c.requires)

pub returns-clause-there : goal.returns-clause-there
returns-clause-there c =
    link_found c.args.parts.now c.table_for-table.result.now c.chain_of-chain.result c.args.stream.now
    c.table_for-table.ensures c.chain_of-chain.ensures.first c.chain_of-chain.ensures.size
    c.chain_of-chain.ensures.wide c.args.taken.now c.args.fault c.in_ok-found.found c.link_of.result
    c.link_of.ensures.at c.in_ok-found.ensures

pub returns-clause-none : goal.returns-clause-none
returns-clause-none c =
    spared_found c.args.parts.now c.table_for-table.result.now c.chain_of-chain.result c.args.stream.now
    c.table_for-table.ensures c.chain_of-chain.ensures.first c.chain_of-chain.ensures.size
    c.chain_of-chain.ensures.wide c.args.taken.now c.args.fault c.link_of.result
    (c.link_of.ensures.none c.table_for-table.result.now c.args.taken.now c.chain_of-chain.result c.args.fault
    c.in_ok-found.ensures)
