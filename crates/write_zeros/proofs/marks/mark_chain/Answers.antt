use Rattle.std.proofs.Common.{arith, refl}
use Rattle.write_zeros.proofs.Ends.{marking_first, marking_more}
use Rattle.write_zeros.proofs.marks.mark_chain.Goals as goal

pub loop-steps-init : goal.loop-steps-init
loop-steps-init c = λ taken ns h more w. marking_first c.args.table.now taken c.args.marks.now c.args.first
    c.args.size ns (λ e. omega (arith, e)) h more w

pub loop-steps-preserved : goal.loop-steps-preserved
loop-steps-preserved c = λ taken ns h more w.
    marking_more c.args.table.now taken c.loop-steps.marks _ c.loop-steps.at _ (λ e. omega (arith, e)) refl
    (c.mark.ensures taken) (c.loop-steps.invariant taken ns h more w)

pub returns-else-at : goal.returns-else-at
returns-else-at c = λ taken ns h more w. (c.loop-steps.invariant taken ns h more w).marked

pub returns-else-at-table : goal.returns-else-at-table
returns-else-at-table c = λ taken ns h more w. (c.loop-steps.invariant taken ns h more w).marked

pub returns-else-not-is_marked : goal.returns-else-not-is_marked
returns-else-not-is_marked c = λ taken ns h more w. (c.loop-steps.invariant taken ns h more w).marked

pub returns-after-loop-steps : goal.returns-after-loop-steps
returns-after-loop-steps c = λ taken ns h more w. (c.loop-steps.invariant taken ns h more w).marked
