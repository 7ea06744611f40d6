use Rattle.std.proofs.Common.{◌≡◌, Some, None, arith, rules}
use Rattle.text_worlds.specs.Forged.{message_in}
use Rattle.text_worlds.proofs.Forged.{is_form}
use Rattle.text_worlds.proofs.forge.message.Goals as goal

pub returns-in_default-clause-form : goal.returns-in_default-clause-form
returns-in_default-clause-form c = (let read : None ≡ message_in c.args.bytes.now = search rules in
    is_form c.args.bytes.now None (λ i. omega (arith, c.type_inv.bytes i)) read)

pub returns-in-Ok-Message-clause-form : goal.returns-in-Ok-Message-clause-form
returns-in-Ok-Message-clause-form c = (let read : Some c.in-Ok-Message.message ≡ message_in c.args.bytes.now =
    search rules in is_form c.args.bytes.now (Some c.in-Ok-Message.message) (λ i. omega (arith, c.type_inv.bytes i))
    read)

pub returns-in-Ok-Turn-clause-form : goal.returns-in-Ok-Turn-clause-form
returns-in-Ok-Turn-clause-form c = (let read : None ≡ message_in c.args.bytes.now = search rules in
    is_form c.args.bytes.now None (λ i. omega (arith, c.type_inv.bytes i)) read)

pub returns-in-Err-Bad-clause-form : goal.returns-in-Err-Bad-clause-form
returns-in-Err-Bad-clause-form c = (let read : None ≡ message_in c.args.bytes.now = search rules in
    is_form c.args.bytes.now None (λ i. omega (arith, c.type_inv.bytes i)) read)
