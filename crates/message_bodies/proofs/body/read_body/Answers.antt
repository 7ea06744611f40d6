use Rattle.std.proofs.Common.{ap, ◌∙◌}
use Rattle.message_model.specs.declared.codes.Kind.{Kind}
use Rattle.message_model.specs.Reading.{ask_in, call_in, read_body, reply_in, write_in}
use Rattle.message_bodies.proofs.Parts.{ask_said, call_said, made, reply_said, unsaid, write_said}
use Rattle.message_bodies.proofs.body.read_body.Goals as goal

pub returns-in-Err : goal.returns-in-Err
returns-in-Err c = unsaid c.in-Err.fault c.args.kind c.args.xs.now c.in_default.not-Turn c.in-Err.ensures

pub returns-in-Call : goal.returns-in-Call
returns-in-Call c = made c.read_call.result c.args.kind call_in c.in-Ok.read.0 c.args.xs.now c.in-Ok.read.1.now
    (ap (λ (k : Kind). read_body k c.args.xs.now) c.in-Call.is ∙ call_said c.args.xs.now) c.in-Ok.ensures
    c.read_call.ensures

pub returns-in-Reply : goal.returns-in-Reply
returns-in-Reply c = made c.read_reply.result c.args.kind reply_in c.in-Ok.read.0 c.args.xs.now c.in-Ok.read.1.now
    (ap (λ (k : Kind). read_body k c.args.xs.now) c.in-Reply.is ∙ reply_said c.args.xs.now) c.in-Ok.ensures
    c.read_reply.ensures

pub returns-in-Write : goal.returns-in-Write
returns-in-Write c = made c.read_write.result c.args.kind write_in c.in-Ok.read.0 c.args.xs.now c.in-Ok.read.1.now
    (ap (λ (k : Kind). read_body k c.args.xs.now) c.in-Write.is ∙ write_said c.args.xs.now) c.in-Ok.ensures
    c.read_write.ensures

pub returns-in-Ask : goal.returns-in-Ask
returns-in-Ask c = made c.read_ask.result c.args.kind ask_in c.in-Ok.read.0 c.args.xs.now c.in-Ok.read.1.now
    (ap (λ (k : Kind). read_body k c.args.xs.now) c.in-Ask.is ∙ ask_said c.args.xs.now) c.in-Ok.ensures
    c.read_ask.ensures
