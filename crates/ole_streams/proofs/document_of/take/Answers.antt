use Rattle.std.proofs.Common.{ap, sym, ◌∙◌}
use Rattle.std.specs.Option.{option_map}
use Rattle.cfb_names.specs.Names.{key}
use Rattle.tree_storage.specs.View.{children, shown}
use Rattle.tree_storage.proofs.Entries.{find-entries, without-entries}
use Rattle.ole_streams.proofs.document_of.take.Goals as goal

pub returns-clause-value : goal.returns-clause-value
returns-clause-value c = ap (option_map shown) (rw c.key.ensures at c.remove.ensures.value)
    ∙ sym (find-entries (key c.args.name.now) c.args.entries.now.entries)

pub returns-clause-rest : goal.returns-clause-rest
returns-clause-rest c = ap children (rw c.key.ensures at c.remove.ensures.entries)
    ∙ sym (without-entries (key c.args.name.now) c.args.entries.now.entries)
