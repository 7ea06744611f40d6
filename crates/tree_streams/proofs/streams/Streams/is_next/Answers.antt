use Rattle.std.proofs.Common.{◌≡◌, length, ◌-◌, Some, slice_get, sym, ap, ◌∙◌}
use Rattle.std.specs.Ordering.{is_lt}
use Rattle.tree_streams.proofs.Ordered.{last-next}
use Rattle.tree_streams.proofs.streams.Streams.is_next.Goals as goal

pub returns-in-Some : goal.returns-in-Some
returns-in-Some c =
    let e : slice_get c.args.self.now (length c.args.self.now - 1) ≡ Some c.in-Some.last.now =
    rw (c.deref.ensures.value, c.self.view_is) at (sym c.in-Some.ensures.value) in
    c.is_lt.ensures ∙ ap is_lt c.cmp.ensures ∙ sym (last-next c.args.self.now c.in-Some.last.now c.args.name.now e)
