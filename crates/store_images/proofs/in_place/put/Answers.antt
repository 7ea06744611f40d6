use Rattle.std.proofs.Common.{refl, rules}
use Rattle.store_images.proofs.Undoing.{is_with_block}
use Rattle.store_images.proofs.in_place.put.Goals as goal

pub returns : goal.returns
returns c =
    is_with_block c.args.number c.args.file.now c.args.bytes.now c.copy_from_slice.new.self _ c.min-from.result
    c.min-to.result
    (search rules) (search rules) c.requires c.copy_from_slice.ensures.after refl
