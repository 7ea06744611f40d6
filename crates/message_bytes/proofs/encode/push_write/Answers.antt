use Rattle.std.proofs.Common.{arith}
use Rattle.std.proofs.lemmas.List.{length-append}
use Rattle.message_model.specs.Spelling.{four_bytes, stored}
use Rattle.message_bytes.proofs.Adding.{adds}
use Rattle.message_model.proofs.Fields.{length-four_bytes}
use Rattle.message_bytes.proofs.encode.push_write.Goals as goal

pub returns-clause-added : goal.returns-clause-added
returns-clause-added c =
    adds c.args.out.now.items c.push_u32.new.out.items c.push_stored.new.out.items (four_bytes c.args.w)
    (stored c.args.content.now) 300000 c.in_ok-push_u32.ensures.added c.in_ok-push_stored.ensures.added.added
    (omega (
      arith,
      length-append (four_bytes c.args.w) (stored c.args.content.now),
      length-four_bytes c.args.w,
      c.in_ok-push_stored.ensures.added.short,
    ))
