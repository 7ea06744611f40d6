use Rattle.std.proofs.Common.{refl}
use Rattle.tree_storage.proofs.Entries.{removed, remove-none, none_from, view-out, view-roll}
use Rattle.tree_storage.proofs.storage.remove_child.Goals as goal

pub returns-clause-change : goal.returns-clause-change
returns-clause-change c =
    rw (view-out c.args.storage.now, view-roll c.args.storage.now.class c.args.storage.now.state c.remove.new.self)
    (removed c.args.name.now c.args.storage.now.class c.args.storage.now.state c.args.storage.now.children.entries
    c.remove.new.self.entries
    (rw (c.remove.ensures.value, c.key.ensures) at c.if-is_none.ensures) (rw c.key.ensures at c.remove.ensures.entries))

pub returns-then-is_none-clause-change : goal.returns-then-is_none-clause-change
returns-then-is_none-clause-change c =
    rw (view-out c.args.storage.now, view-roll c.args.storage.now.class c.args.storage.now.state c.remove.new.self) (
      remove-none c.args.name.now c.args.storage.now.class c.args.storage.now.state c.args.storage.now.children.entries
          (none_from _ (rw (c.remove.ensures.value, c.key.ensures) at c.if-is_none.ensures)),
      rw (rw (none_from c.remove.result c.if-is_none.ensures) at c.remove.ensures.unchanged) refl,
    )
