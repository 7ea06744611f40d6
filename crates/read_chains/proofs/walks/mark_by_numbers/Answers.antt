use Rattle.std.proofs.Common.{◌≡◌, Bool, false, get_or, true, arith, refl}
use Rattle.std.proofs.lemmas.Grind.{common_steps}
use Rattle.std.proofs.lemmas.List.{get_or_default}
use Rattle.read_chains.proofs.Ways.{walk_step}
use Rattle.read_chains.proofs.walks.mark_by_numbers.Goals as goal

pub loop-stop-preserved : goal.loop-stop-preserved
loop-stop-preserved c =
    let free : get_or c.loop-stop.used c.loop-stop.stop true ≡ false =
    grind (arith, common_steps, get_or_default {X = Bool}) in
    walk_step (λ n. get_or c.args.numbers.now n 0) c.args.start c.args.used.now c.loop-stop.used c.loop-stop.count
    c.loop-stop.stop _
    c.loop-stop.invariant c.loop-stop-test.true free c.if-count-used.true refl
