use Rattle.tree_storage.specs.Kept.{kept}
use Rattle.store_images.proofs.Lengths.{files-taken}
use Rattle.store_images.proofs.image.written.Goals as goal

pub returns-clause-short : goal.returns-clause-short
returns-clause-short c =
    let laid = c.in_ok-file.ensures in
    files-taken (kept c.args.tree.now).now c.in_ok-file.file.items laid.denotes laid.laid_out laid.allowed
