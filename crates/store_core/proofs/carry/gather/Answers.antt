use Rattle.std.proofs.Common.{◌≤◌, ◌+◌, ◌-◌, ◌*◌, ◌∙◌, ℕ, ap, length, sym, arith}
use Rattle.store_model.specs.Journal.{block_at}
use Rattle.store_core.proofs.Carried.{gathered}
use Rattle.store_core.proofs.carry.gather.Goals as goal

pub loop-taken-preserved : goal.loop-taken-preserved
loop-taken-preserved c =
    let so_far = c.loop-taken.invariant in
    let room : 516 * (c.loop-taken.taken + 1) ≤ length c.args.entries.now = let below = c.loop-taken-test.true in
    omega (arith, below) in
    let step = gathered c.args.entries.now c.loop-taken.run c.put_at.new.out c.loop-taken.taken
    (block_at 0 c.args.entries.now).number (516 * c.loop-taken.taken + 4 + 512 - (516 * c.loop-taken.taken + 4))
    (omega arith) room so_far.follow (sym c.number_in.ensures.number ∙ c.if-number_in-first.false
    ∙ ap (λ (n : ℕ). n + c.loop-taken.taken) c.number_in-first.ensures.number) so_far.joined
    c.put_at.ensures.put in
    record { within = omega (arith, room); run = c.put_at.ensures.out ∙ so_far.run; follow = step.0; joined = step.1 }
