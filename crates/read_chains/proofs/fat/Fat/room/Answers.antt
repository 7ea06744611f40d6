use Rattle.std.proofs.Common.{◌*◌, ◌≡◌, ◌<◌, arith, length}
use Rattle.std.proofs.lemmas.Grind.{common_steps}
use Rattle.cfb_chains.specs.Fat.{MayRefuse, store_of}
use Rattle.cfb_header.specs.declared.fault.ChainFault.TheVariants.{NoMemory, ShortChain}
use Rattle.cfb_chains.proofs.Chains.{chain_any, chain_some, found_chain, refused_not, refused_some}
use Rattle.cfb_chains.proofs.Results.{refused_with}
use Rattle.read_chains.proofs.fat.Fat.room.Goals as goal

pub returns-in_err-count-clause-refused : goal.returns-in_err-count-clause-refused
returns-in_err-count-clause-refused c =
    refused_with c.from_residual.result c.in_err-count.field-0.0 (MayRefuse c.args.self.now c.args.start c.args.len)
    c.from_residual.ensures.1
    (refused_some c.args.self.now c.args.start c.args.len c.in_err-count.field-0.0 c.in_err-count.ensures.told
    c.in_err-count.ensures.refused)

pub returns-in_err-count-clause-there : goal.returns-in_err-count-clause-there
returns-in_err-count-clause-there c = λ ns h.
    let some : 0 < c.args.len = omega arith in
    refused_with c.from_residual.result c.in_err-count.field-0.0 (λ e. e ≡ NoMemory) c.from_residual.ensures.1
    (refused_not c.args.self.now c.count.ensures.few c.args.start 0 ns
    (chain_any (store_of c.args.self.now) c.args.start c.args.len ns
    (chain_some (store_of c.args.self.now) c.args.start c.args.len ns some h.chain))
    h.free c.in_err-count.field-0.0 c.in_err-count.ensures.refused)

pub returns-then-width-count-clause-refused : goal.returns-then-width-count-clause-refused
returns-then-width-count-clause-refused c =
    let there = c.in_ok-count.ensures.counted in
    let w : c.args.self.now.width ≡ c.width-width.result =
    grind (arith, common_steps, c.self.view_is, c.width-width.ensures.value) in
    let m : c.args.self.now.width * length there.0 ≡ c.width-width.result * c.in_ok-count.count =
    λ i. w i * there.2 i in
    (there.0, there.1.chain.linked, there.1.free, omega (arith, m))

pub returns-then-width-count-clause-there : goal.returns-then-width-count-clause-there
returns-then-width-count-clause-there c = λ ns h.
    let some : 0 < c.args.len = omega arith in
    let there = c.in_ok-count.ensures.counted in
    let w : c.args.self.now.width ≡ c.width-width.result =
    grind (arith, common_steps, c.self.view_is, c.width-width.ensures.value) in
    let m : c.args.self.now.width * length there.0 ≡ c.width-width.result * c.in_ok-count.count =
    λ i. w i * there.2 i in
    refused_not c.args.self.now c.count.ensures.few c.args.start c.args.len ns
    (chain_some (store_of c.args.self.now) c.args.start c.args.len ns some h.chain) h.free ShortChain
    (there.0, there.1.chain.linked, there.1.free, omega (arith, m))

pub returns-clause-counted : goal.returns-clause-counted
returns-clause-counted c = λ some.
    let there = c.in_ok-count.ensures.counted in
    let w : c.args.self.now.width ≡ c.width-width.result =
    grind (arith, common_steps, c.self.view_is, c.width-width.ensures.value) in
    let m : c.args.self.now.width * length there.0 ≡ c.width-width.result * c.in_ok-count.count =
    λ i. w i * there.2 i in (
      there.0,
      there.1,
      found_chain c.args.self.now c.args.start c.args.len there.0 there.1 (omega (arith, m)) some,
      there.2,
    )
