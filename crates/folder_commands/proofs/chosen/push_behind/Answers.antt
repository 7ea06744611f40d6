use Rattle.std.proofs.Common.{◌∙◌, ap, sym}
use Rattle.std.specs.Ordering.{is_eq}
use Rattle.cfb_names.specs.Names.{key_eq}
use Rattle.tree_storage.proofs.Entries.{path-cons}
use Rattle.folder_commands.proofs.Picked.{step_off, step_on}
use Rattle.folder_commands.proofs.chosen.push_behind.Goals as goal

pub returns-then-is_eq : goal.returns-then-is_eq
returns-then-is_eq c =
    step_on c.args.child.now c.args.names.now c.name-item.result _ c.push_path-then-is_eq.result
    c.args.left.now.items c.push_path-then-is_eq.new.left.items
    (path-cons c.args.names.now c.name-item.result c.name-item.is c.in-len1-up.len_at_least)
    (sym (ap (λ q. key_eq q c.args.child.now) c.key.ensures) ∙ sym (ap is_eq c.cmp.ensures) ∙ sym c.is_eq.ensures
    ∙ c.if-is_eq.true) c.push_path-then-is_eq.ensures

pub returns-else-is_eq : goal.returns-else-is_eq
returns-else-is_eq c =
    step_off c.args.child.now c.args.names.now c.name-item.result _ c.args.left.now.items
    (path-cons c.args.names.now c.name-item.result c.name-item.is c.in-len1-up.len_at_least)
    (sym (ap (λ q. key_eq q c.args.child.now) c.key.ensures) ∙ sym (ap is_eq c.cmp.ensures) ∙ sym c.is_eq.ensures
    ∙ c.if-is_eq.false)
