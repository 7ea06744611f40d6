use Rattle.std.proofs.Common.{refl, sym, subst}
use Rattle.cfb_names.specs.Names.{key}
use Rattle.cfb_entries.specs.Tree.{Children}
use Rattle.tree_storage.specs.View.{children, seen}
use Rattle.cfb_entries.specs.Whole.{AreTrees}
use Rattle.tree_storage.proofs.Entries.{placed as entered}
use Rattle.tree_storage.proofs.Wholes.{place-whole}
use Rattle.ole_streams.proofs.document_tree.place.Goals as goal

pub returns-clause-value : goal.returns-clause-value
returns-clause-value c =
    sym (entered (key c.args.name) c.args.name c.args.node (seen c.args.node) c.args.entries.now.entries
    c.insert.new.self.entries refl
    (rw c.key.ensures at c.in_ok-insert.ensures.entries))

pub returns-clause-whole : goal.returns-clause-whole
returns-clause-whole c = λ depth inside all.
    let P : Children → Type 0 = λ cs. AreTrees depth cs in
    subst P (entered (key c.args.name) c.args.name c.args.node (seen c.args.node) c.args.entries.now.entries
    c.insert.new.self.entries refl
    (rw c.key.ensures at c.in_ok-insert.ensures.entries))
    (place-whole depth c.args.name (seen c.args.node) (children c.args.entries.now.entries) c.as_bytes.ensures.valid
    inside all)
