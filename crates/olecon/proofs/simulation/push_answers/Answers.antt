use Rattle.std.proofs.Common.{sym, ◌∙◌, ap, arith}
use Rattle.std.specs.Option.{option_copied}
use Rattle.text_worlds.proofs.EventLines.{turned, all_written}
use Rattle.olecon.proofs.simulation.push_answers.Goals as goal

pub loop-answer-preserved : goal.loop-answer-preserved
loop-answer-preserved g c =
    let turn = turned _ c.loop-answer.event c.in-Some.answer.now c.args.out.now.items c.loop-answer.out.items
    c.push_answer.new.text.items c.loop-answer.invariant.first (sym c.in-Some.ensures)
    c.loop-answer.invariant.written c.in_ok-push_answer.ensures in
    record { first = omega arith; last = turn.last; written = turn.written }

pub returns : goal.returns
returns g c = all_written _ c.loop-answer.event c.args.out.now.items c.loop-answer.out.items
    c.loop-answer.invariant.first (sym c.answer.ensures ∙ ap option_copied c.in_default.is)
    c.loop-answer.invariant.written
