use Rattle.message_model.specs.Spelling.{four_bytes}
use Rattle.message_bytes.proofs.Adding.{adds_three, length-three}
use Rattle.message_bytes.proofs.encode.push_three.Goals as goal

pub returns-clause-added : goal.returns-clause-added
returns-clause-added c = adds_three c.args.out.now.items c.push_u32.new.out.items c.push_u32-2.new.out.items
    c.push_u32-3.new.out.items (four_bytes c.args.a) (four_bytes c.args.b) (four_bytes c.args.c) 12
    c.in_ok-push_u32.ensures.added c.in_ok-push_u32-2.ensures.added c.in_ok-push_u32-3.ensures.added
    (length-three c.args.a c.args.b c.args.c)
