use Rattle.std.proofs.Common.{ap, ◌∙◌, ◌++◌, List, ℕ}
use Rattle.message_model.specs.declared.codes.Kind.{Kind}
use Rattle.message_model.specs.Reading.{call_in, read_body, reply_in, write_in}
use Rattle.message_drafts.proofs.Opened.{call_said, no_ask, no_session, no_turn, reply_said, said_opens, write_said}
use Rattle.message_drafts.proofs.opening.opened.Goals as goal

pub returns-in-None-clause-opens : goal.returns-in-None-clause-opens
returns-in-None-clause-opens c = no_session c.args.kind c.args.xs.now c.in-None.ensures.given

pub returns-in-Call-clause-opens : goal.returns-in-Call-clause-opens
returns-in-Call-clause-opens c =
    said_opens _ _ _ c.open_call.result c.args.kind call_in c.in-Some.read.0 c.args.xs.now c.in-Some.read.1.now
    (λ zs. ap (λ (k : Kind). read_body k zs) c.in-Call.is ∙ call_said zs) c.in-Some.ensures.given
    c.in-Some.ensures.rest c.open_call.ensures.opens

pub returns-in-Reply-clause-opens : goal.returns-in-Reply-clause-opens
returns-in-Reply-clause-opens c =
    said_opens _ _ _ c.open_reply.result c.args.kind reply_in c.in-Some.read.0 c.args.xs.now c.in-Some.read.1.now
    (λ zs. ap (λ (k : Kind). read_body k zs) c.in-Reply.is ∙ reply_said zs) c.in-Some.ensures.given
    c.in-Some.ensures.rest c.open_reply.ensures.opens

pub returns-in-Write-clause-opens : goal.returns-in-Write-clause-opens
returns-in-Write-clause-opens c =
    said_opens _ _ _ c.open_write.result c.args.kind write_in c.in-Some.read.0 c.args.xs.now c.in-Some.read.1.now
    (λ zs. ap (λ (k : Kind). read_body k zs) c.in-Write.is ∙ write_said zs) c.in-Some.ensures.given
    c.in-Some.ensures.rest c.open_write.ensures.opens

pub returns-in-Ask-clause-opens : goal.returns-in-Ask-clause-opens
returns-in-Ask-clause-opens c ys lt = ap (λ (k : Kind). read_body k (c.args.xs.now ++ ys)) c.in-Ask.is
    ∙ no_ask (c.args.xs.now ++ ys) lt

pub returns-in-Turn-clause-opens : goal.returns-in-Turn-clause-opens
returns-in-Turn-clause-opens c ys lt = ap (λ (k : Kind). read_body k (c.args.xs.now ++ ys)) c.in-Turn.is
    ∙ no_turn (c.args.xs.now ++ ys) lt
