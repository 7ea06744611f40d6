use Rattle.std.proofs.Common.{◌∙◌, sym}
use Rattle.container_links.proofs.Relieved.{asked_of, done_answer_gives, other_answer_gives, past_gives}
use Rattle.container_links.proofs.replies.gives_up.Goals as goal

pub returns-then-n-link-clause-told : goal.returns-then-n-link-clause-told
returns-then-n-link-clause-told c =
    sym (past_gives c.args.link.now c.in-Some.link c.in-Some-pending.operation c.in-Some.is c.in-Some-pending.is
    c.args.n c.args.answer.now c.if-n-link.true)

pub returns-in-Done-clause-told : goal.returns-in-Done-clause-told
returns-in-Done-clause-told c = c.given_up.ensures.told
    ∙ sym (done_answer_gives c.args.link.now c.in-Some.link c.in-Some-pending.operation c.in-Some.is
    c.in-Some-pending.is c.args.n c.args.answer.now c.if-n-link.false c.in-Done.is)

pub returns-in-Done-clause-asked : goal.returns-in-Done-clause-asked
returns-in-Done-clause-asked c = asked_of c.args.link.now c.in-Some.link c.in-Some-pending.operation c.in-Some.is
    c.in-Some-pending.is c.given_up.result c.given_up.ensures.asked

pub returns-in_default-answer : goal.returns-in_default-answer
returns-in_default-answer c = record {
  told = sym (other_answer_gives c.args.link.now c.in-Some.link c.in-Some-pending.operation c.in-Some.is
      c.in-Some-pending.is c.args.n c.args.answer.now c.if-n-link.false c.in_default-answer.not-Done);
  asked = tt;
}
