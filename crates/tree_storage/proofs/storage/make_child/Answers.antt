use Rattle.std.proofs.Common.{rules, refl, ap, ◌∙◌}
use Rattle.tree_storage.specs.Change.{inner}
use Rattle.tree_storage.specs.declared.nodes.Node.TheVariants.{Storage}
use Rattle.tree_storage.proofs.Entries.{make-there, make-deep, make-ok, make-new, seen-storage, view-out, view-roll}
use Rattle.tree_storage.proofs.storage.make_child.Goals as goal

pub returns-then-contains_key-clause-change : goal.returns-then-contains_key-clause-change
returns-then-contains_key-clause-change c =
    rw (view-out c.args.storage.now) (
      make-there c.args.name.now c.args.class c.args.state c.args.fits c.args.storage.now.class
          c.args.storage.now.state c.args.storage.now.children.entries c.contains_key.result
          (rw c.key_of-key.ensures.key at c.contains_key.ensures) c.if-contains_key.true,
      refl,
    )

pub returns-then-not-fits-clause-change : goal.returns-then-not-fits-clause-change
returns-then-not-fits-clause-change c =
    rw (view-out c.args.storage.now) (
      make-deep c.args.name.now c.args.class c.args.state c.args.fits c.args.storage.now.class
          c.args.storage.now.state c.args.storage.now.children.entries c.contains_key.result
          (rw c.key_of-key.ensures.key at c.contains_key.ensures) c.if-contains_key.false (search rules),
      refl,
    )

pub returns-in-Ok-clause-change : goal.returns-in-Ok-clause-change
returns-in-Ok-clause-change c =
    rw (view-out c.args.storage.now, view-roll c.args.storage.now.class c.args.storage.now.state c.insert.new.self)
    (make-new c.args.name.now c.args.class c.args.state c.args.fits c.args.storage.now.class
    c.args.storage.now.state c.args.storage.now.children.entries c.contains_key.result
    (rw c.key_of-key.ensures.key at c.contains_key.ensures)
    (Storage c.new-made.result) c.insert.new.self.entries c.if-contains_key.false (search rules)
    (seen-storage c.new-made.result ∙ ap inner c.new-made.ensures)
    (rw (c.key_of-key.ensures.key, c.copy.ensures) at c.in-Ok.ensures.entries))

pub returns-clause-change : goal.returns-clause-change
returns-clause-change c =
    rw (view-out c.args.storage.now, view-roll c.args.storage.now.class c.args.storage.now.state c.insert.new.self) (
      make-ok c.args.name.now c.args.class c.args.state c.args.fits c.args.storage.now.class
          c.args.storage.now.state c.args.storage.now.children.entries c.contains_key.result
          (rw c.key_of-key.ensures.key at c.contains_key.ensures) c.if-contains_key.false (search rules),
      rw c.in-Err.ensures.err refl,
    )
