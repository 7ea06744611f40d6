use Rattle.std.proofs.Common.{◌≡◌, ◌<◌, ◌+◌, ℕ, get_or, length, refl}
use Rattle.cfb_chains.proofs.Runs.{placed_joined}
use Rattle.read_chains.proofs.image.run_placed.Goals as goal

pub returns : goal.returns
returns c =
    let first : ℕ = c.in_ok-first.field-0.now in
    let each : (k : ℕ) → k < length c.args.sectors.now → get_or c.args.sectors.now k 0 ≡ first + k =
    c.are_consecutive.ensures c.if-not-are_consecutive.false in
    placed_joined c.args.file.now c.in_ok-run.run'.now first (length c.args.sectors.now) c.args.sectors.now each
    refl c.in_ok-run.ensures.whole c.in_ok-run.ensures.each
