use Rattle.std.proofs.Common.{◌≡◌, ◌++◌, ◌<◌, ◌∙◌, length, sym, List, ℕ, arith}
use Rattle.std.proofs.lemmas.List.{length-append}
use Rattle.message_values.specs.declared.message.Said.TheVariants.{Call}
use Rattle.message_model.proofs.Bodies.{heard}
use Rattle.message_model.specs.declared.codes.OperationCode.{OperationCode}
use Rattle.message_model.specs.declared.codes.OperationCode.TheVariants as code
use Rattle.message_drafts.proofs.Opened.{call_is, edit_opens, load_opens, no_operation}
use Rattle.message_drafts.proofs.opening.open_call.Goals as goal

pub returns-in-Edit-clause-opens : goal.returns-in-Edit-clause-opens
returns-in-Edit-clause-opens c ys =
    call_is c.args.session c.in-Some.read.0 c.in-Some-take_number.read.0 c.in-Some-take_number-2.read.0
    c.in-Some-take_byte.read.0 code.Edit c.args.xs.now c.in-Some.read.1.now c.in-Some-take_number.read.1.now
    c.in-Some-take_number-2.read.1.now c.in-Some-take_byte.read.1.now
    c.in-Some.ensures.given c.in-Some-take_number.ensures.given c.in-Some-take_number-2.ensures.given
    c.in-Some-take_byte.ensures.given (sym (rw c.in-Edit.is at c.in-Some-operation_code_of.ensures)) ys
    ∙ edit_opens c.args.session c.in-Some.read.0 c.in-Some-take_number.read.0 c.in-Some-take_number-2.read.0
    (c.in-Some-take_byte.read.1.now ++ ys)

pub returns-in-Load-clause-opens : goal.returns-in-Load-clause-opens
returns-in-Load-clause-opens c =
    load_opens _ _ _ c.open_load.result c.args.session c.in-Some.read.0 c.in-Some-take_number.read.0
    c.in-Some-take_number-2.read.0 c.args.xs.now c.in-Some-take_byte.read.1.now
    (call_is c.args.session c.in-Some.read.0 c.in-Some-take_number.read.0 c.in-Some-take_number-2.read.0
    c.in-Some-take_byte.read.0 code.Load c.args.xs.now c.in-Some.read.1.now c.in-Some-take_number.read.1.now
    c.in-Some-take_number-2.read.1.now c.in-Some-take_byte.read.1.now
    c.in-Some.ensures.given c.in-Some-take_number.ensures.given c.in-Some-take_number-2.ensures.given
    c.in-Some-take_byte.ensures.given (sym (rw c.in-Load.is at c.in-Some-operation_code_of.ensures)))
    c.open_load.ensures.opens

pub returns-in_default : goal.returns-in_default
returns-in_default c = record {
  opens = λ ys lt.
      call_is c.args.session c.in-Some.read.0 c.in-Some-take_number.read.0 c.in-Some-take_number-2.read.0
      c.in-Some-take_byte.read.0 c.in-Some-operation_code_of.read c.args.xs.now c.in-Some.read.1.now
      c.in-Some-take_number.read.1.now c.in-Some-take_number-2.read.1.now c.in-Some-take_byte.read.1.now
      c.in-Some.ensures.given c.in-Some-take_number.ensures.given c.in-Some-take_number-2.ensures.given
      c.in-Some-take_byte.ensures.given (sym c.in-Some-operation_code_of.ensures) ys
      ∙ no_operation c.in-Some-operation_code_of.read
      (λ o. heard c.args.session (Call c.in-Some.read.0 c.in-Some-take_number.read.0
      c.in-Some-take_number-2.read.0 o)) c.in_default.not-Load c.in_default.not-Edit
      (c.in-Some-take_byte.read.1.now ++ ys)
      (omega (
        arith,
        lt,
        length-append c.args.xs.now ys,
        length-append c.in-Some-take_byte.read.1.now ys,
        c.in-Some.ensures.rest,
        c.in-Some-take_number.ensures.rest,
        c.in-Some-take_number-2.ensures.rest,
        c.in-Some-take_byte.ensures.rest,
      ));
  within = tt;
}
