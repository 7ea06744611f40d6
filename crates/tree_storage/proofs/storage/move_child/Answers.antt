use Rattle.std.proofs.Common.{sym, ap, ◌∙◌}
use Rattle.std.specs.Map.{lookup}
use Rattle.std.specs.BTreeMap.{is_at}
use Rattle.cfb_names.specs.Names.{key_cmp}
use Rattle.tree_storage.specs.View.{moved_from, with_node}
use Rattle.tree_storage.proofs.storage.move_child.Goals as goal

pub returns-in-Some-get_mut-clause-entries : goal.returns-in-Some-get_mut-clause-entries
returns-in-Some-get_mut-clause-entries c =
    (c.get_mut.follows.holds (c.in-Some-get_mut.child.now.0, c.in-Some.node)).0
    ∙ sym (ap (moved_from c.args.key.now c.args.new_key.now c.args.storage.now.children.entries)
    (sym c.in-Some.ensures.value)
    ∙ ap (λ y. with_node c.args.new_key.now c.in-Some.node y (lookup (is_at (key_cmp c.args.new_key.now)) y))
    (sym c.remove.ensures.entries)
    ∙ ap (with_node c.args.new_key.now c.in-Some.node c.remove.new.self.entries) (sym c.in-Some-get_mut.ensures.value))

pub returns-in-None-clause-entries : goal.returns-in-None-clause-entries
returns-in-None-clause-entries c =
    ap (λ m. m.entries) c.get_mut.follows.holds-at-none
    ∙ sym (ap (moved_from c.args.key.now c.args.new_key.now c.args.storage.now.children.entries)
    (sym c.in-Some.ensures.value)
    ∙ ap (λ y. with_node c.args.new_key.now c.in-Some.node y (lookup (is_at (key_cmp c.args.new_key.now)) y))
    (sym c.remove.ensures.entries)
    ∙ ap (with_node c.args.new_key.now c.in-Some.node c.remove.new.self.entries) (sym c.in-None.ensures.value))
