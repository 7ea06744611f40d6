use Rattle.std.proofs.Common.{[], ◌∷◌}
use Rattle.message_model.specs.Spelling.{four_bytes}
use Rattle.message_bytes.proofs.Adding.{adds, length-numbered}
use Rattle.message_bytes.proofs.encode.push_numbered.Goals as goal

pub returns-clause-added : goal.returns-clause-added
returns-clause-added c = adds c.args.out.now.items c.push_byte.new.out.items c.push_u32.new.out.items
    (c.args.code ∷ []) (four_bytes c.args.n) 5 c.in_ok-push_byte.ensures.added c.in_ok-push_u32.ensures.added
    (length-numbered c.args.code c.args.n)
