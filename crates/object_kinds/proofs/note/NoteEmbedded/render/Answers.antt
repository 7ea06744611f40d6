use Rattle.std.proofs.Common.{arith, ap, ◌≡◌, ◌-◌, ◌+◌, ◌++◌, ◌∙◌}
use Rattle.std.specs.Prelude.{take}
use Rattle.object_core.specs.Pictures.{ended_line, text_lines}
use Rattle.object_kinds.proofs.Shown.{shown, shown_all, shown_full, shown_more}
use Rattle.object_kinds.proofs.note.NoteEmbedded.render.Goals.{else-loop-test, then-loop-test+in-None}
use Rattle.object_kinds.proofs.note.NoteEmbedded.render.Goals as goal

pub loop-preserved : goal.loop-preserved
loop-preserved c =
    let pushed : c.push_line.new.picture.items ≡ c.loop.picture.items ++ ended_line (take 60 c.in-Some.line.now) =
    c.in_ok-push_line-in-Some.ensures ∙ ap (λ part. c.loop.picture.items ++ ended_line part) c.first_part.ensures in
    rw pushed
    (shown_more (20 - c.loop.counter) (20 - (c.loop.counter + 1)) c.loop.picture.items
    (shown 20 (text_lines c.args.self.now)) c.in-Some.line.now
    c.loop.lines c.next_line.new.self (omega arith) c.in-Some.ensures c.loop.invariant)

pub returns-clause-drawn : goal.returns-clause-drawn
returns-clause-drawn c = elim c.loop-test.branch [
  | else-loop-test w ↦ shown_full (20 - c.loop.counter) c.loop.picture.items (shown 20 (text_lines c.args.self.now))
      c.loop.lines (omega arith) c.loop.invariant
  | then-loop-test+in-None w ↦ shown_all (20 - c.loop.counter) c.loop.picture.items
      (shown 20 (text_lines c.args.self.now)) c.loop.lines w.in-None.ensures.0 c.loop.invariant
]
