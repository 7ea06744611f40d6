use Rattle.std.proofs.Common.{arith}
use Rattle.std.proofs.lemmas.List.{length-append}
use Rattle.message_model.specs.Spelling.{four_bytes, said_body}
use Rattle.message_bytes.proofs.Adding.{adds}
use Rattle.message_model.proofs.Fields.{length-four_bytes}
use Rattle.message_bytes.proofs.encode.push_message.Goals as goal

pub returns-clause-added : goal.returns-clause-added
returns-clause-added c =
    adds c.args.out.now.items c.push_u32.new.out.items c.push_said.new.out.items
    (four_bytes c.args.message.now.session) (said_body c.args.message.now.said) 1048576
    c.in_ok-push_u32.ensures.added c.in_ok-push_said.ensures.added.added
    (omega (
      arith,
      length-append (four_bytes c.args.message.now.session) (said_body c.args.message.now.said),
      length-four_bytes c.args.message.now.session,
      c.in_ok-push_said.ensures.added.short,
    ))
