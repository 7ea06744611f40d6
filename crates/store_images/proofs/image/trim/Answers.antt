use Rattle.std.proofs.Common.{arith, rules}
use Rattle.std.proofs.lemmas.Grind.{common_steps}
use Rattle.store_images.proofs.Trimmed.{made_trimmed}
use Rattle.store_images.proofs.image.trim.Goals as goal

pub returns : goal.returns
returns c =
    made_trimmed c.args.file.items c.resize.new.self.items c.len.result c.div_ceil.result c.min-count.result
    c.args.sectors (search rules) (search rules) (search rules) (search rules)
    (grind (arith, common_steps, c.in_ok-resize.ensures.items))
