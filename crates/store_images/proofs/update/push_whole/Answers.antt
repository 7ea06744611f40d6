use Rattle.std.proofs.Common.{◌+◌, arith, rules}
use Rattle.std.proofs.lemmas.Grind.{common_steps}
use Rattle.store_images.proofs.Overlaid.{made_whole}
use Rattle.store_images.proofs.update.push_whole.Goals as goal

pub returns : goal.returns
returns c =
    made_whole c.args.file.now.items c.args.bytes.now c.extend_from_slice.new.self.items c.resize.new.self.items
    c.min.result (c.len-end.result + 512)
    (search rules) (search rules) (search rules) (grind (arith, common_steps, c.in_ok-resize.ensures.items))
