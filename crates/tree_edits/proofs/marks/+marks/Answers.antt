use Rattle.std.proofs.Common.{sym, arith, refl}
use Rattle.tree_storage.proofs.Entries.{view-out, view-roll, path-cons}
use Rattle.tree_edits.proofs.Marked.{below, below-none}
use Rattle.tree_edits.proofs.marks.+marks.Goals as goal

pub mark_at-returns-in-Some : goal.mark_at-returns-in-Some
mark_at-returns-in-Some t c =
    rw (
      view-out c.args.storage.now,
      view-roll c.args.storage.now.class c.args.storage.now.state
          (c.get_mut.follows.lender (c.in-Some.child.now.0, c.mark_below.new.node)),
    )
    (below c.mark_below.result c.args.storage.now.class c.args.storage.now.state c.args.mark c.args.path.now
    c.name-item.result _ c.args.storage.now.children.entries
    (c.get_mut.follows.lender (c.in-Some.child.now.0, c.mark_below.new.node)).entries c.in-Some.child.now
    (c.in-Some.child.now.0, c.mark_below.new.node)
    (path-cons c.args.path.now c.name-item.result c.name-item.is c.in-len1-up.len_at_least)
    c.get_mut.ensures.ordered (rw c.key.ensures at (sym c.in-Some.ensures.value))
    (rw c.key.ensures at ((c.get_mut.follows.holds (c.in-Some.child.now.0, c.mark_below.new.node)).0)) refl
    c.mark_below.ensures)

pub mark_at-returns-in-None : goal.mark_at-returns-in-None
mark_at-returns-in-None t c =
    rw (
      view-out c.args.storage.now,
      view-roll c.args.storage.now.class c.args.storage.now.state
          c.get_mut.follows.lender-at-none,
      c.get_mut.follows.holds-at-none,
    ) (
      below-none c.args.mark c.args.path.now c.name-item.result _ c.args.storage.now.class c.args.storage.now.state
          c.args.storage.now.children.entries
          (path-cons c.args.path.now c.name-item.result c.name-item.is c.in-len1-up.len_at_least)
          (rw c.key.ensures at (sym c.in-None.ensures.value)),
      refl,
    )
