use Rattle.std.proofs.Common.{◌≡◌, ◌++◌, ◌<◌, ◌∙◌, length, sym, List, ℕ, arith}
use Rattle.std.proofs.lemmas.List.{length-append}
use Rattle.message_values.specs.declared.message.Said.TheVariants.{Reply}
use Rattle.message_model.proofs.Bodies.{heard}
use Rattle.message_drafts.proofs.Opened.{no_answer, reply_is}
use Rattle.message_drafts.proofs.opening.open_reply.Goals as goal

pub returns-in_default : goal.returns-in_default
returns-in_default c = record {
  opens = λ ys lt.
      reply_is c.args.session c.in-Some.read.0 c.in-Some-take_number.read.0 c.in-Some-take_number-2.read.0
      c.in-Some-take_byte.read.0 c.in-Some-answer_code_of.read c.args.xs.now c.in-Some.read.1.now
      c.in-Some-take_number.read.1.now c.in-Some-take_number-2.read.1.now c.in-Some-take_byte.read.1.now
      c.in-Some.ensures.given c.in-Some-take_number.ensures.given c.in-Some-take_number-2.ensures.given
      c.in-Some-take_byte.ensures.given (sym c.in-Some-answer_code_of.ensures) ys
      ∙ no_answer c.in-Some-answer_code_of.read
      (λ a. heard c.args.session (Reply c.in-Some.read.0 c.in-Some-take_number.read.0
      c.in-Some-take_number-2.read.0 a)) c.in_default.not-Content (c.in-Some-take_byte.read.1.now ++ ys)
      (omega (
        arith,
        lt,
        length-append c.args.xs.now ys,
        length-append c.in-Some-take_byte.read.1.now ys,
        c.in-Some.ensures.rest,
        c.in-Some-take_number.ensures.rest,
        c.in-Some-take_number-2.ensures.rest,
        c.in-Some-take_byte.ensures.rest,
      ));
  within = tt;
}
