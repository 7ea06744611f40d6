use Rattle.std.proofs.Common.{arith, ◌+◌, ◌∙◌, sym, ap, drop}
use Rattle.std.proofs.lemmas.Bool.Decides.{nat_tests}
use Rattle.ole_model.specs.Presentations.{longest, longer}
use Rattle.ole_model.proofs.Lines.{longest-feed, longest-more}
use Rattle.ole_model.proofs.presentation.width.Goals as goal
use Rattle.ole_model.proofs.presentation.width.Goals.{then-c-eq10, else-c-eq10}

pub loop-c-preserved : goal.loop-c-preserved
loop-c-preserved c = elim c.if-c-eq10.branch [
  | then-c-eq10 w ↦ record {
    rest = let e = longest-feed c.args.lines.now c.loop-c.c-index c.loop-c.longest c.loop-c.before
        c.loop-c-test.true w.if-c-eq10.true in
        ap (λ m. longest m c.if-c-eq10.before (drop (c.loop-c.c-index + 1) c.args.lines.now))
        (w.longest-is ∙ w.longer-longest.ensures)
        ∙ ap (λ b. longest (longer c.loop-c.longest c.loop-c.before) b
        (drop (c.loop-c.c-index + 1) c.args.lines.now)) w.before-is ∙ sym e ∙ c.loop-c.invariant.rest;
    behind = omega arith;
    within = grind (arith, nat_tests);
  }
  | else-c-eq10 w ↦ record {
    rest = let e = longest-more c.args.lines.now c.loop-c.c-index c.loop-c.longest c.loop-c.before
        c.loop-c-test.true w.if-c-eq10.false in
        ap (λ m. longest m c.if-c-eq10.before (drop (c.loop-c.c-index + 1) c.args.lines.now)) w.longest-is
        ∙ ap (λ b. longest c.loop-c.longest b (drop (c.loop-c.c-index + 1) c.args.lines.now)) w.before-is ∙ sym e
        ∙ c.loop-c.invariant.rest;
    behind = omega arith;
    within = omega arith;
  }
]
