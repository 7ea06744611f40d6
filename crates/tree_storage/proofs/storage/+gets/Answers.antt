use Rattle.std.proofs.Common.{sym, ◌∙◌}
use Rattle.tree_storage.specs.Change.{bytes}
use Rattle.tree_storage.proofs.Entries.{look-stream, look-here, look-below, look-none, view-out, path-cons, seen-stream}
use Rattle.tree_storage.proofs.storage.+gets.Goals as goal

pub get_below-returns-then-not-is_empty : goal.get_below-returns-then-not-is_empty
get_below-returns-then-not-is_empty t c = rw (c.in-Stream.is, seen-stream c.in-Stream.bytes)
    (look-stream c.args.path.now c.in-Stream.bytes c.if-not-is_empty.ensures)

pub get_below-returns-else-not-is_empty : goal.get_below-returns-else-not-is_empty
get_below-returns-else-not-is_empty t c = rw (c.in-Stream.is, seen-stream c.in-Stream.bytes)
    (look-here c.args.path.now (bytes c.in-Stream.bytes) c.if-not-is_empty.ensures)

pub get-returns-in-Some : goal.get-returns-in-Some
get-returns-in-Some t c =
    rw (view-out c.args.storage.now) (c.get_below.ensures
    ∙ look-below c.args.path.now c.name-item.result _ c.args.storage.now.class c.args.storage.now.state
    c.args.storage.now.children.entries c.in-Some.child.now
    (path-cons c.args.path.now c.name-item.result c.name-item.is c.in-len1-up.len_at_least)
    (rw c.key.ensures at (sym c.in-Some.ensures.value)))

pub get-returns-in-None : goal.get-returns-in-None
get-returns-in-None t c =
    rw (view-out c.args.storage.now)
    (look-none c.args.path.now c.name-item.result _ c.args.storage.now.class c.args.storage.now.state
    c.args.storage.now.children.entries
    (path-cons c.args.path.now c.name-item.result c.name-item.is c.in-len1-up.len_at_least)
    (rw c.key.ensures at (sym c.in-None.ensures.value)))
