use Rattle.std.proofs.Common.{length, ap, arith}
use Rattle.text_worlds.proofs.Counted.{tells-few}
use Rattle.text_worlds.proofs.Ending.{simulated}
use Rattle.olecon.proofs.Reached.{safe_told}
use Rattle.olecon.proofs.simulation.run.Goals as goal

pub push_told-requires-clause-few : goal.push_told-requires-clause-few
push_told-requires-clause-few g c =
    tells-few _ _ _ (omega (arith, ap (λ s. length s.now.answers) c.new-world.ensures.empty)) c.run-taken.ensures.taken

pub returns : goal.returns
returns g c =
    simulated c.args.limits.numbers _ c.args.moments.now c.run-taken.result.0 c.run-taken.result.1 _ _
    c.new-out.result.items c.push_told.new.out.items
    c.new-world.ensures.empty c.run-taken.ensures.taken
    (safe_told _ _ _ _ _ c.new-world.ensures.empty c.run-taken.ensures.taken) c.run-taken.ensures.stop
    c.new-out.ensures.items c.in_ok-push_told.ensures
