use Rattle.std.proofs.Common.{[], ◌∷◌}
use Rattle.message_model.specs.Spelling.{blob}
use Rattle.message_bytes.proofs.Adding.{adds, length-blobbed}
use Rattle.message_bytes.proofs.encode.push_edit.Goals as goal

pub returns-clause-added : goal.returns-clause-added
returns-clause-added c = adds c.args.out.now.items c.push_byte.new.out.items c.push_blob.new.out.items (8 ∷ [])
    (blob c.args.bytes.now) 300000 c.in_ok-push_byte.ensures.added c.in_ok-push_blob.ensures.added
    (length-blobbed c.args.bytes.now c.requires)
