use Rattle.std.proofs.Common.{sym, ◌∙◌, arith}
use Rattle.container_checks.proofs.LookupPlaces.{past_none, past_more, past_here, past_all}
use Rattle.container_checks.proofs.lookups.place_linked.Goals as goal

pub loop-i-init : goal.loop-i-init
loop-i-init c = past_none _ _

pub returns-then-is_linked : goal.returns-then-is_linked
returns-then-is_linked c = past_here _ _ _ c.index-objects-i.result c.loop-i.invariant c.loop-i-test.true
    c.index-objects-i.is (sym c.is_linked.ensures ∙ c.if-is_linked.true)

pub loop-i-preserved : goal.loop-i-preserved
loop-i-preserved c = past_more _ _ _ c.index-objects-i.result c.loop-i.invariant c.loop-i-test.true
    c.index-objects-i.is (sym c.is_linked.ensures ∙ c.if-is_linked.false)

pub returns : goal.returns
returns c = past_all _ _ c.loop-i.i c.loop-i.invariant (omega arith)
