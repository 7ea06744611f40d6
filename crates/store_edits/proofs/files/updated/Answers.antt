use Rattle.tree_storage.specs.Kept.{kept}
use Rattle.store_edits.proofs.Renewed.{edit_told, refused_tree}
use Rattle.store_edits.proofs.files.updated.Goals as goal

pub returns-in-Ok-clause-edited : goal.returns-in-Ok-clause-edited
returns-in-Ok-clause-edited c = edit_told c.args.changes.items c.args.document.now (kept c.in-Ok.tree)
    c.file_of.result c.in-Ok.ensures.edited c.file_of.ensures.updated

pub returns-in-Ok-clause-refused : goal.returns-in-Ok-clause-refused
returns-in-Ok-clause-refused c = refused_tree c.args.changes.items c.args.document.now (kept c.in-Ok.tree)
    c.file_of.result c.in-Ok.ensures.edited c.file_of.ensures.refused
