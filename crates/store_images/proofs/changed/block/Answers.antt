use Rattle.std.proofs.Common.{◌*◌, rules}
use Rattle.store_images.proofs.Numbers.{clipped}
use Rattle.store_images.proofs.changed.block.Goals as goal

pub returns : goal.returns
returns c = clipped c.args.file.now (512 * c.args.number) 512 c.min-from.result c.min-to.result (search rules)
    (search rules)
