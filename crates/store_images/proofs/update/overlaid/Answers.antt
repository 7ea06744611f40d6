use Rattle.std.proofs.Common.{◌∙◌, ap, sym}
use Rattle.store_images.specs.Changed.{changed_before}
use Rattle.store_images.proofs.Overlaid.{all_blocks}
use Rattle.store_images.proofs.update.overlaid.Goals as goal

pub returns : goal.returns
returns c =
    c.loop-number.invariant.1 ∙ ap (λ n. changed_before n c.args.old.now c.loop-number.file.items)
    (sym (all_blocks c.loop-number.number c.loop-number.file.items c.loop-number.invariant.0))
