use Rattle.std.proofs.Common.{◌≡◌, List, ℕ, sym, subst, arith}
use Rattle.cfb_chains.specs.Fat.{IsFound, MayRefuse, store_of}
use Rattle.cfb_chains.proofs.Chains.{chain_one}
use Rattle.cfb_chains.proofs.Results.{refused_with}
use Rattle.read_chains.proofs.fat.Fat.find.Goals as goal

pub listed-requires-clause-there : goal.listed-requires-clause-there
listed-requires-clause-there c = let there = c.in_ok-count.ensures.counted (omega arith) in (there.0, there.1, there.3)

pub returns-in_err-sectors-clause-refused : goal.returns-in_err-sectors-clause-refused
returns-in_err-sectors-clause-refused c =
    let there = c.in_ok-count.ensures.counted (omega arith) in
    refused_with c.from_residual-in_err-sectors.result c.in_err-sectors.field-0.0
    (MayRefuse c.args.self.now c.args.start c.args.len) c.from_residual-in_err-sectors.ensures.1
    (subst (MayRefuse c.args.self.now c.args.start c.args.len) (sym c.in_err-sectors.ensures.refused)
    (there.0, there.2))

pub returns-clause-found : goal.returns-clause-found
returns-clause-found c =
    let there = c.in_ok-count.ensures.counted (omega arith) in
    let ns = c.in_ok-sectors.sectors.items in
    let same : there.0 ≡ ns = chain_one (store_of c.args.self.now) c.args.start there.0 ns there.1.chain
    c.in_ok-sectors.ensures.linked in
    subst (λ (xs : List ℕ). IsFound c.args.self.now c.args.start c.args.len xs) same there.2
