use Rattle.std.proofs.Common.{◌≡◌, ◌*◌, ◌+◌, ◌<◌, ℕ, List, arith, get_or, length}
use Rattle.std.proofs.lemmas.Grind.{common_steps}
use Rattle.cfb_chains.proofs.Runs.{run_taken}
use Rattle.read_chains.proofs.sectors.run_of.Goals as goal

pub returns : goal.returns
returns c =
    let first : ℕ = c.in_ok-first.field-0.now in
    let bytes : List ℕ = c.args.bytes.now in
    let each : (k : ℕ) → k < length c.args.sectors.now → get_or c.args.sectors.now k 0 ≡ first + k =
    c.are_consecutive.ensures c.if-not-are_consecutive.false in
    let len : c.in_ok-len.len ≡ c.args.width * length c.args.sectors.now =
    grind (arith, common_steps, c.in_ok-len.ensures) in
    run_taken c.args.width c.args.start bytes first c.args.sectors.now c.in_ok-len.len c.in_ok-rest.rest.now
    c.in_ok-run.run'.now each
    c.in_ok-rest.ensures.lookup.0.0 c.in_ok-rest.ensures.lookup.0.2 c.in_ok-run.ensures.lookup.0.1
    c.in_ok-run.ensures.lookup.0.2 len
