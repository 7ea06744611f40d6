use Rattle.std.proofs.Common.{◌<◌, ℕ, List, subst, arith}
use Rattle.std.proofs.lemmas.List.{take_all}
use Rattle.std.proofs.lemmas.List.Elements.{All-more}
use Rattle.std.specs.List.{All}
use Rattle.read_chains.proofs.fat.check_present.Goals as goal

pub loop-n-preserved : goal.loop-n-preserved
loop-n-preserved c =
    All-more (λ n. n < c.args.count) c.args.sectors.now c.loop-n.n-index 0 (omega arith) c.loop-n.invariant
    (omega arith)

pub returns-clause-present : goal.returns-clause-present
returns-clause-present c =
    let P : List ℕ → Type 0 = λ ns. All (λ n. n < c.args.count) ns in
    subst P (take_all c.loop-n.n-index c.args.sectors.now (omega arith)) c.loop-n.invariant
