use Rattle.std.proofs.Common.{arith, ap, ◌≡◌, ◌-◌, ◌+◌, ◌++◌, ◌∙◌}
use Rattle.object_kinds.specs.Listed.{line_with}
use Rattle.object_kinds.specs.Placed.{cell_at, entries_at}
use Rattle.object_kinds.proofs.Written.{shown, shown_all, shown_full, shown_more}
use Rattle.object_kinds.proofs.table_lines.picture.Goals.{else-loop-test, then-loop-test+in-None}
use Rattle.object_kinds.proofs.table_lines.picture.Goals as goal

pub loop-preserved : goal.loop-preserved
loop-preserved c =
    let cell = cell_at c.in-Some.place.now in
    let pushed : c.push_line.new.out.items ≡ c.loop.lines.items ++ line_with 61 cell c.in-Some.text.now.items =
    c.in_ok-push_line-in-Some.ensures ∙ ap (λ text. c.loop.lines.items ++ line_with 61 cell text)
    c.deref.ensures.value in
    rw pushed
    (shown_more (20 - c.loop.counter) (20 - (c.loop.counter + 1)) c.loop.lines.items
    (shown 20 (entries_at c.args.cells.now.entries))
    (cell, c.in-Some.text.now.items) (entries_at c.loop.left) (entries_at c.next.new.self) (omega arith)
    (ap entries_at c.in-Some.ensures.steps) c.loop.invariant)

pub returns : goal.returns
returns c = elim c.loop-test.branch [
  | else-loop-test w ↦ shown_full (20 - c.loop.counter) c.loop.lines.items
      (shown 20 (entries_at c.args.cells.now.entries)) (entries_at c.loop.left) (omega arith) c.loop.invariant
  | then-loop-test+in-None w ↦ shown_all (20 - c.loop.counter) c.loop.lines.items
      (shown 20 (entries_at c.args.cells.now.entries)) (entries_at c.loop.left)
      (ap entries_at w.in-None.ensures.steps.0) c.loop.invariant
]
