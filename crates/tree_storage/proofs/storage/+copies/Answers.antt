use Rattle.std.proofs.Common.{◌≡◌, ◌∷◌, ◌++◌, sym, ap, ◌∙◌}
use Rattle.tree_storage.proofs.Entries.{copy-step, shows}
use Rattle.tree_storage.proofs.storage.+copies.Goals as goal

pub copy-loop-key-preserved : goal.copy-loop-key-preserved
copy-loop-key-preserved t c =
    let h : shows c.loop-key.children.entries ++ shows ((c.in-Some.key.now, c.in-Some.child.now) ∷ c.next.new.self)
    ≡ shows c.args.storage.now.children.entries =
    ap (λ es. shows c.loop-key.children.entries ++ shows es) (sym c.in-Some.ensures.steps) ∙ c.loop-key.invariant in
    copy-step c.loop-key.children.entries c.insert.new.self.entries c.args.storage.now.children.entries
    c.next.new.self c.in-Some.key.now c.in-Some.child.now (c.copy.result, c.in_ok-copy_node.field-0)
    c.iter-key-items.ensures.ordered h (λ i. (c.copy.ensures i, c.in_ok-copy_node.ensures i))
    c.in_ok-insert.ensures.entries

pub copy-loop-key-preserved-in_ok-insert : goal.copy-loop-key-preserved-in_ok-insert
copy-loop-key-preserved-in_ok-insert t c =
    let h : shows c.loop-key.children.entries ++ shows ((c.in-Some.key.now, c.in-Some.child.now) ∷ c.next.new.self)
    ≡ shows c.args.storage.now.children.entries =
    ap (λ es. shows c.loop-key.children.entries ++ shows es) (sym c.in-Some.ensures.steps) ∙ c.loop-key.invariant in
    copy-step c.loop-key.children.entries c.insert.new.self.entries c.args.storage.now.children.entries
    c.next.new.self c.in-Some.key.now c.in-Some.child.now (c.copy.result, c.in_ok-copy_node.field-0)
    c.iter-key-items.ensures.ordered h (λ i. (c.copy.ensures i, c.in_ok-copy_node.ensures i))
    c.in_ok-insert.ensures.entries

pub copy-loop-key-preserved-in_ok-insert-2 : goal.copy-loop-key-preserved-in_ok-insert-2
copy-loop-key-preserved-in_ok-insert-2 t c =
    let h : shows c.loop-key.children.entries ++ shows ((c.in-Some.key.now, c.in-Some.child.now) ∷ c.next.new.self)
    ≡ shows c.args.storage.now.children.entries =
    ap (λ es. shows c.loop-key.children.entries ++ shows es) (sym c.in-Some.ensures.steps) ∙ c.loop-key.invariant in
    copy-step c.loop-key.children.entries c.insert.new.self.entries c.args.storage.now.children.entries
    c.next.new.self c.in-Some.key.now c.in-Some.child.now (c.copy.result, c.in_ok-copy_node.field-0)
    c.iter-key-items.ensures.ordered h (λ i. (c.copy.ensures i, c.in_ok-copy_node.ensures i))
    c.in_ok-insert.ensures.entries
