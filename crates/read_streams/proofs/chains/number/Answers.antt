use Rattle.std.proofs.Common.{◌*◌, arith, sym}
use Rattle.cfb_chains.proofs.Blocks.{u32_at_past}
use Rattle.read_streams.proofs.chains.number.Goals as goal

pub returns-else-at-bytes : goal.returns-else-at-bytes
returns-else-at-bytes c = sym (u32_at_past c.args.bytes.now (4 * c.args.k) (omega (arith, c.if-at-bytes.false)))
