use Rattle.std.proofs.Common.{arith}
use Rattle.std.proofs.lemmas.Grind.{common_steps}
use Rattle.cfb_chains.proofs.Blocks.{block_pushed}
use Rattle.read_chains.proofs.sectors.push_block.Goals as goal

pub returns : goal.returns
returns c =
    block_pushed c.args.width c.args.at c.min.result c.min-2.result c.len.result c.args.out.now.items
    c.extend_from_slice.new.self.items c.resize.new.self.items c.args.bytes.now
    (grind (arith, common_steps)) c.min.ensures c.min-2.ensures c.in_ok-extend_from_slice.ensures.items
    (grind (arith, common_steps, c.in_ok-resize.ensures.items))
