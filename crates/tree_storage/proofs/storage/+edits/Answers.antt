use Rattle.std.proofs.Common.{sym, arith, refl}
use Rattle.tree_storage.proofs.Entries.{below, below-none, view-out, view-roll, path-cons, rest-long}
use Rattle.tree_storage.proofs.storage.+edits.Goals as goal

pub edit_at-returns-in-Some-clause-change : goal.edit_at-returns-in-Some-clause-change
edit_at-returns-in-Some-clause-change t c =
    rw (
      view-out c.args.storage.now,
      view-roll c.args.storage.now.class c.args.storage.now.state
          (c.get_mut.follows.lender (c.in-Some.child.now.0, c.edit_below.new.node)),
    )
    (below c.edit_below.result c.args.storage.now.class c.args.storage.now.state c.args.edit c.args.path.now
    c.name-item-2.result _ c.args.storage.now.children.entries
    (c.get_mut.follows.lender (c.in-Some.child.now.0, c.edit_below.new.node)).entries c.in-Some.child.now
    (c.in-Some.child.now.0, c.edit_below.new.node)
    (path-cons c.args.path.now c.name-item-2.result c.name-item-2.is (omega (arith, c.in-len1-up.len_at_least)))
    (rest-long c.args.path.now (omega (arith, c.in-len1-up.len_at_least)))
    c.get_mut.ensures.ordered (rw c.key.ensures at (sym c.in-Some.ensures.value))
    (rw c.key.ensures at ((c.get_mut.follows.holds (c.in-Some.child.now.0, c.edit_below.new.node)).0)) refl
    c.edit_below.ensures.change)

pub edit_at-returns-in-None-clause-change : goal.edit_at-returns-in-None-clause-change
edit_at-returns-in-None-clause-change t c =
    rw (
      view-out c.args.storage.now,
      view-roll c.args.storage.now.class c.args.storage.now.state
          c.get_mut.follows.lender-at-none,
      c.get_mut.follows.holds-at-none,
    ) (
      below-none c.args.edit c.args.path.now c.name-item-2.result _ c.args.storage.now.class
          c.args.storage.now.state c.args.storage.now.children.entries
          (path-cons c.args.path.now c.name-item-2.result c.name-item-2.is
          (omega (arith, c.in-len1-up.len_at_least)))
          (rest-long c.args.path.now (omega (arith, c.in-len1-up.len_at_least)))
          (rw c.key.ensures at (sym c.in-None.ensures.value)),
      refl,
    )
