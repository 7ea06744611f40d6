use Rattle.std.proofs.Common.{subst}
use Rattle.message_bytes.specs.Encoding.{AreNamed}
use Rattle.message_bytes.proofs.Adding.{content_added}
use Rattle.message_bytes.proofs.encode.push_stored.Goals as goal

pub returns-clause-added : goal.returns-clause-added
returns-clause-added c =
    content_added c.args.out.now.items c.push_byte.new.out.items c.push_streams.new.out.items
    c.push_blob.new.out.items c.args.content.now c.requires
    (subst AreNamed c.as_slice.ensures.streams c.in_ok-push_streams.ensures.named)
    (rw c.len.ensures at c.in_ok-push_byte.ensures.added)
    (rw c.as_slice.ensures.streams at c.in_ok-push_streams.ensures.added)
    (rw c.as_slice-2.ensures at c.in_ok-push_blob.ensures.added)
