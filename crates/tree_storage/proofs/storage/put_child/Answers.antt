use Rattle.std.proofs.Common.{sym, refl}
use Rattle.tree_storage.specs.declared.nodes.Node.TheVariants.{Stream}
use Rattle.tree_storage.proofs.Entries.{put-there, put-new, put-new-ok, seen-stream, view-out, view-roll}
use Rattle.tree_storage.proofs.storage.put_child.Goals as goal

pub returns-in-Some-clause-change : goal.returns-in-Some-clause-change
returns-in-Some-clause-change c =
    rw (
      view-out c.args.storage.now,
      view-roll c.args.storage.now.class c.args.storage.now.state
          (c.get_mut.follows.lender (c.in-Some.child.now.0, c.put_into.new.node)),
    )
    (put-there c.put_into.result c.args.storage.now.class c.args.storage.now.state c.args.name.now c.args.bytes
    c.args.storage.now.children.entries
    (c.get_mut.follows.lender (c.in-Some.child.now.0, c.put_into.new.node)).entries c.in-Some.child.now
    (c.in-Some.child.now.0, c.put_into.new.node)
    c.get_mut.ensures.ordered (rw c.key_of-key.ensures.key at (sym c.in-Some.ensures.value))
    (rw c.key_of-key.ensures.key at ((c.get_mut.follows.holds (c.in-Some.child.now.0, c.put_into.new.node)).0))
    refl c.put_into.ensures)

pub returns-in-Ok-clause-change : goal.returns-in-Ok-clause-change
returns-in-Ok-clause-change c =
    rw (view-out c.args.storage.now, view-roll c.args.storage.now.class c.args.storage.now.state c.insert.new.self)
    (put-new c.args.name.now c.args.bytes c.args.storage.now.class c.args.storage.now.state
    c.args.storage.now.children.entries c.insert.new.self.entries (Stream c.args.bytes)
    (rw c.key_of-key.ensures.key at (sym c.in-None.ensures.value)) (seen-stream c.args.bytes)
    (rw (c.key_of-key.ensures.key, c.get_mut.follows.holds-at-none, c.copy.ensures) at c.in-Ok.ensures.entries))

pub returns-clause-change : goal.returns-clause-change
returns-clause-change c =
    rw (view-out c.args.storage.now, view-roll c.args.storage.now.class c.args.storage.now.state c.insert.new.self) (
      put-new-ok c.args.name.now c.args.bytes c.args.storage.now.class c.args.storage.now.state
          c.args.storage.now.children.entries (rw c.key_of-key.ensures.key at (sym c.in-None.ensures.value)),
      rw (c.in-Err.ensures.err, c.get_mut.follows.holds-at-none) refl,
    )
