use Rattle.std.proofs.Common.{arith}
use Rattle.cfb_chains.proofs.Chains.{found_chain}
use Rattle.cfb_chains.proofs.Followed.{held_found, held_long}
use Rattle.read_chains.proofs.fat.Fat.mark_chain.Goals as goal

pub returns-then-mark_as_met-clause-long : goal.returns-then-mark_as_met-clause-long
returns-then-mark_as_met-clause-long c =
    let met = c.mark_as_met.ensures.marks c.if-mark_as_met.true in
    held_long c.args.self.now c.args.start c.args.len met.0 c.mark_as_met.ensures.few
    (found_chain c.args.self.now c.args.start c.args.len met.0 met.1 met.2 (omega arith))

pub returns-then-mark_as_met-clause-holds : goal.returns-then-mark_as_met-clause-holds
returns-then-mark_as_met-clause-holds c = λ ns h. held_found c.args.self.now c.args.start c.args.len ns
    c.mark_as_met.ensures.few h
