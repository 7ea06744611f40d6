use Rattle.std.proofs.Common.{arith}
use Rattle.text_worlds.specs.Answers.{asked_text, made_text, told_text}
use Rattle.text_worlds.proofs.Texts.{or_ok-written}
use Rattle.text_worlds.proofs.answers.push_outcome.Goals as goal

pub returns-else-len-before : goal.returns-else-len-before
returns-else-len-before c =
    or_ok-written c.args.text.now.items c.push_made.new.text.items c.push_told.new.text.items
    c.push_asked.new.text.items
    (made_text c.args.outcome.now) (told_text c.args.outcome.now) (asked_text c.args.outcome.now)
    c.in_ok-push_made.ensures c.in_ok-push_told.ensures c.in_ok-push_asked.ensures
    (λ e. c.if-len-before.false (omega (arith, e, c.push_asked.new.text.ok.0, c.args.text.now.ok.0)))
