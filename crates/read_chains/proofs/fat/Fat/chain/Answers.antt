use Rattle.std.proofs.Common.{◌≡◌, sym, subst}
use Rattle.cfb_chains.specs.Fat.{MayRefuseChain}
use Rattle.cfb_header.specs.declared.fault.ChainFault.TheVariants.{NoMemory}
use Rattle.cfb_chains.proofs.Chains.{refused_chain, refused_not}
use Rattle.cfb_chains.proofs.Results.{refused_with}
use Rattle.read_chains.proofs.fat.Fat.chain.Goals as goal

pub returns-in_err-count-clause-refused : goal.returns-in_err-count-clause-refused
returns-in_err-count-clause-refused c =
    refused_with c.from_residual.result c.in_err-count.field-0.0 (MayRefuseChain c.args.self.now c.args.start)
    c.from_residual.ensures.1
    (refused_chain c.args.self.now c.args.start c.in_err-count.field-0.0 c.in_err-count.ensures.told
    c.in_err-count.ensures.refused)

pub returns-in_err-count-clause-there : goal.returns-in_err-count-clause-there
returns-in_err-count-clause-there c = λ ns h g.
    refused_with c.from_residual.result c.in_err-count.field-0.0 (λ e. e ≡ NoMemory) c.from_residual.ensures.1
    (refused_not c.args.self.now c.count.ensures.few c.args.start 0 ns h g c.in_err-count.field-0.0
    c.in_err-count.ensures.refused)

pub returns-in_err-chain-clause-refused : goal.returns-in_err-chain-clause-refused
returns-in_err-chain-clause-refused c =
    let there = c.in_ok-count.ensures.counted in
    refused_with c.from_residual-in_err-chain.result c.in_err-chain.field-0.0
    (MayRefuseChain c.args.self.now c.args.start) c.from_residual-in_err-chain.ensures.1
    (subst (MayRefuseChain c.args.self.now c.args.start) (sym c.in_err-chain.ensures.refused) (there.0, there.1))
