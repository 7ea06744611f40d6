use Rattle.std.proofs.Common.{refl, sym, ap, ◌∙◌}
use Rattle.std.specs.Option.{is_some}
use Rattle.tree_storage.specs.Change.{inner}
use Rattle.cfb_entries.specs.Tree.{tree}
use Rattle.tree_storage.specs.declared.nodes.Node.TheVariants.{Stream}
use Rattle.tree_storage.proofs.Entries.{add-new, add-ok, add-there, seen-stream, view-out, view-roll}
use Rattle.tree_storage.proofs.Renames.{put-back}
use Rattle.tree_storage.proofs.storage.add_child.Goals as goal

pub returns-in-Ok-None-clause-change : goal.returns-in-Ok-None-clause-change
returns-in-Ok-None-clause-change c =
    rw (view-out c.args.storage.now, view-roll c.args.storage.now.class c.args.storage.now.state c.insert.new.self)
    (add-new c.args.name.now c.args.bytes c.args.storage.now.class c.args.storage.now.state
    c.args.storage.now.children.entries c.insert.new.self.entries (Stream c.args.bytes)
    (rw c.key_of-key.ensures.key at (sym c.in-Ok-None.ensures.old ∙ c.in-Ok-None.field-0-is)) (seen-stream c.args.bytes)
    (rw (c.key_of-key.ensures.key, c.copy.ensures) at c.in-Ok-None.ensures.entries))

pub returns-in-Ok-Some-clause-change : goal.returns-in-Ok-Some-clause-change
returns-in-Ok-Some-clause-change c =
    rw (
      view-out c.args.storage.now,
      view-out c.put_back.new.storage,
      c.put_back.ensures.class,
      c.put_back.ensures.state,
    ) (
      add-there c.args.name.now c.args.bytes c.args.storage.now.class c.args.storage.now.state
          c.args.storage.now.children.entries
          (ap is_some (rw c.key_of-key.ensures.key at (sym c.in-Ok-Some.ensures.old ∙ c.in-Ok-Some.field-0-is))),
      ap (λ cs. inner (tree c.args.storage.now.class c.args.storage.now.state cs))
          (put-back c.key_of-key.result (c.copy.result, Stream c.args.bytes) c.in-Ok-Some.there
          c.args.storage.now.children.entries c.insert.new.self.entries c.put_back.new.storage.children.entries
          c.in-Ok-Some.ensures.was_ordered (sym c.in-Ok-Some.ensures.old ∙ c.in-Ok-Some.field-0-is)
          c.in-Ok-Some.ensures.entries c.put_back.ensures.entries),
    )

pub returns-clause-change : goal.returns-clause-change
returns-clause-change c =
    rw (view-out c.args.storage.now, view-roll c.args.storage.now.class c.args.storage.now.state c.insert.new.self) (
      add-ok c.args.name.now c.args.bytes c.args.storage.now.class c.args.storage.now.state
          c.args.storage.now.children.entries (rw c.key_of-key.ensures.key at c.in-Err.ensures.absent),
      rw c.in-Err.ensures.err refl,
    )
