use Rattle.tree_storage.specs.Kept.{kept}
use Rattle.store_edits.proofs.Renewed.{makes, refused_line}
use Rattle.store_edits.proofs.files.edited_tree.Goals as goal

pub returns-in-Ok-edit-clause-edited : goal.returns-in-Ok-edit-clause-edited
returns-in-Ok-edit-clause-edited c =
    makes c.args.changes.items c.args.document.now (kept c.in-Ok.tree) (kept c.in-Ok-edit.edited)
    c.in-Ok.ensures.denotes c.in-Ok.ensures.closed c.in-Ok-edit.ensures.edited

pub returns-in-Err-edit-clause-refused : goal.returns-in-Err-edit-clause-refused
returns-in-Err-edit-clause-refused c =
    refused_line c.args.changes.items c.args.document.now (kept c.in-Ok.tree) _ _ c.in-Ok.ensures.denotes
    c.in-Ok.ensures.closed c.in-Err-edit.ensures.refused
