use Rattle.std.proofs.Common.{◌∙◌, eq-eqb, ne_eqb, sym}
use Rattle.container_links.proofs.Handings.{content_answers, other_answers, past_answers, saved_answers}
use Rattle.container_links.proofs.Handings.{unlinked_answers, unpending_answers}
use Rattle.container_links.proofs.handing.is_content.Goals as goal

pub returns-in_default : goal.returns-in_default
returns-in_default c = sym (unlinked_answers c.args.link.now c.args.n c.args.answer.now c.in_default.is)

pub returns-in_default-pending : goal.returns-in_default-pending
returns-in_default-pending c =
    sym (unpending_answers c.args.link.now c.in-Some.l c.args.n c.args.answer.now c.in-Some.is
    c.in_default-pending.is)

pub returns-then-n-l : goal.returns-then-n-l
returns-then-n-l c = sym (past_answers c.args.link.now c.in-Some.l c.args.n c.args.answer.now c.in-Some.is
    c.in-Some-pending.operation c.in-Some-pending.is (ne_eqb c.args.n c.in-Some.l.last c.if-n-l.true))

pub returns-then-is_some : goal.returns-then-is_some
returns-then-is_some c = sym (saved_answers c.args.link.now c.in-Some.l c.args.n c.args.answer.now c.in-Some.is
    c.in-Some-pending.operation c.in-Some-pending.is (sym c.is_some.ensures ∙ c.if-is_some.true))

pub returns-in-Done : goal.returns-in-Done
returns-in-Done c = sym (other_answers c.args.link.now c.in-Some.l c.args.n c.args.answer.now c.in-Some.is
    c.in-Some-pending.operation c.in-Some-pending.is
    (eq-eqb c.args.n c.in-Some.l.last c.if-n-l.false) (sym c.is_some.ensures ∙ c.if-is_some.false) (rw c.in-Done.is tt))

pub returns-in-Refused : goal.returns-in-Refused
returns-in-Refused c = sym (other_answers c.args.link.now c.in-Some.l c.args.n c.args.answer.now c.in-Some.is
    c.in-Some-pending.operation c.in-Some-pending.is
    (eq-eqb c.args.n c.in-Some.l.last c.if-n-l.false) (sym c.is_some.ensures ∙ c.if-is_some.false)
    (rw c.in-Refused.is tt))

pub returns-in-Tools : goal.returns-in-Tools
returns-in-Tools c = sym (other_answers c.args.link.now c.in-Some.l c.args.n c.args.answer.now c.in-Some.is
    c.in-Some-pending.operation c.in-Some-pending.is
    (eq-eqb c.args.n c.in-Some.l.last c.if-n-l.false) (sym c.is_some.ensures ∙ c.if-is_some.false)
    (rw c.in-Tools.is tt))

pub returns-in-Content : goal.returns-in-Content
returns-in-Content c = content_answers c.args.link.now c.in-Some.l c.args.n c.args.answer.now c.in-Some.is
    c.in-Some-pending.operation c.in-Some-pending.is
    c.is_saved.result c.in-Content.content (eq-eqb c.args.n c.in-Some.l.last c.if-n-l.false)
    (sym c.is_some.ensures ∙ c.if-is_some.false) c.in-Content.is c.is_saved.ensures
