use Rattle.std.proofs.Common.{◌*◌, rules}
use Rattle.store_core.proofs.Lists.{clipped}
use Rattle.store_core.proofs.compare.block.Goals as goal

pub returns : goal.returns
returns c = clipped c.args.document.now (512 * c.args.number) 512 c.min-from.result c.min-to.result (search rules)
    (search rules)
