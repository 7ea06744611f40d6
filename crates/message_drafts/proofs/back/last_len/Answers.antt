use Rattle.std.proofs.Common.{◌≡◌, ◌-◌, length, Some, slice_get, sym, ap, ◌∙◌}
use Rattle.tree_streams.specs.declared.streams.NamedStream.{NamedStream}
use Rattle.message_drafts.proofs.Streams.{last_of}
use Rattle.message_drafts.proofs.back.last_len.Goals as goal

pub returns-in-Some : goal.returns-in-Some
returns-in-Some c =
    let e : slice_get c.args.streams.now.items (length c.args.streams.now.items - 1) ≡ Some c.in-Some.last.now =
    rw c.deref.ensures.value at (sym c.in-Some.ensures.value) in
    c.len.ensures ∙ last_of c.args.streams.now.items c.in-Some.last.now e
