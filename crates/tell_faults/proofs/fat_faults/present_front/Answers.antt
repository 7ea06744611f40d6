use Rattle.std.proofs.Common.{◌<◌, ℕ, List, length, subst, arith, take}
use Rattle.std.proofs.lemmas.List.{take_all}
use Rattle.std.proofs.lemmas.List.Elements.{All-more}
use Rattle.std.specs.List.{All}
use Rattle.tell_faults.proofs.fat_faults.present_front.Goals as goal

pub loop-k-preserved : goal.loop-k-preserved
loop-k-preserved c =
    All-more (λ n. n < c.args.count) c.args.sectors.now c.loop-k.k 0 (omega arith) c.loop-k.invariant (omega arith)

pub returns-clause-present : goal.returns-clause-present
returns-clause-present c =
    subst (λ (k : ℕ). All (λ n. n < c.args.count) (take k c.args.sectors.now)) (omega (arith, c.loop-k-test.false))
    c.loop-k.invariant
