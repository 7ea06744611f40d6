use Rattle.std.proofs.Common.{sym, ap, ◌∙◌, arith}
use Rattle.std.specs.Str.{bytes_eq}
use Rattle.world_host.proofs.Filed.{past_none, past_more, past_here, past_all}
use Rattle.world_host.proofs.commits.file_place.Goals as goal

pub loop-i-init : goal.loop-i-init
loop-i-init c = past_none _ _

pub returns-then-eq-clause-place : goal.returns-then-eq-clause-place
returns-then-eq-clause-place c = past_here _ _ _ c.index-files-i.result c.loop-i.invariant c.loop-i-test.true
    c.index-files-i.is (ap (λ b. bytes_eq b c.args.name.now) (sym c.as_slice.ensures)
    ∙ (sym c.eq.ensures ∙ c.if-eq.true))

pub loop-i-preserved : goal.loop-i-preserved
loop-i-preserved c = past_more _ _ _ c.index-files-i.result c.loop-i.invariant c.loop-i-test.true c.index-files-i.is
    (ap (λ b. bytes_eq b c.args.name.now) (sym c.as_slice.ensures) ∙ (sym c.eq.ensures ∙ c.if-eq.false))

pub returns-clause-place : goal.returns-clause-place
returns-clause-place c = past_all _ _ _ c.loop-i.invariant (omega arith)
