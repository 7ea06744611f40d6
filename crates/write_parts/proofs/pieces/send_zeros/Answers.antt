use Rattle.std.proofs.Common.{ℕ, List, subst}
use Rattle.write_parts.specs.Sends.{Sends}
use Rattle.write_parts.proofs.Zeros.{zeros_front}
use Rattle.write_parts.proofs.pieces.send_zeros.Goals as goal

pub returns : goal.returns
returns g c =
    subst (λ (zs : List ℕ). Sends (g.W.Write.contents c.args.writer.now) (g.W.Write.contents c.send.new.writer)
    c.args.waiting.now.items c.send.new.waiting.items zs)
    (zeros_front c.args.count c.requires) c.in_ok-send.ensures
