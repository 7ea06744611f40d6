use Rattle.std.proofs.Common.{◌++◌, ◌∙◌, append_assoc, replicate}
use Rattle.write_parts.proofs.Zeros.{zeros_few}
use Rattle.write_parts.proofs.pieces.push_padded.Goals as goal

pub returns : goal.returns
returns c =
    c.in_ok-extend_from_slice-2.ensures.items
    ∙ (λ i. c.in_ok-extend_from_slice.ensures.items i ++ zeros_few c.args.count c.requires i)
    ∙ append_assoc c.args.waiting.now.items c.args.bytes.now (replicate c.args.count 0)
