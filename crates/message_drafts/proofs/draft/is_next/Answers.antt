use Rattle.std.proofs.Common.{◌≡◌, length, ◌-◌, Some, List, ℕ, slice_get, sym, ap, ◌∙◌}
use Rattle.std.specs.Ordering.{is_lt}
use Rattle.cfb_names.specs.Names.{name_cmp}
use Rattle.tree_streams.proofs.Ordered.{last-next}
use Rattle.message_drafts.proofs.draft.is_next.Goals as goal

pub returns-in-Some : goal.returns-in-Some
returns-in-Some c =
    let e : slice_get c.args.streams.now.items (length c.args.streams.now.items - 1) ≡ Some c.in-Some.last.now =
    rw c.deref.ensures.value at (sym c.in-Some.ensures.value) in
    c.is_lt.ensures ∙ ap is_lt (c.cmp.ensures ∙ ap (λ (m : List ℕ). name_cmp m c.args.name.now) c.name.ensures)
    ∙ sym (last-next c.args.streams.now.items c.in-Some.last.now c.args.name.now e)
