use Rattle.std.proofs.Common.{arith, ap, drop, length, take, ◌∙◌, ◌-◌, ◌+◌, ◌++◌}
use Rattle.std.proofs.lemmas.List.{take_at}
use Rattle.object_kinds.specs.Drawn.{shapes_told}
use Rattle.object_kinds.proofs.Moved.{told_raised}
use Rattle.object_kinds.proofs.order.raise.Goals as goal

pub returns : goal.returns
returns c =
    let moved = c.move_last.new.figures in
    let i = c.args.number - 1 in
    ap shapes_told (take_at moved (drop (length moved) c.args.figures.now.items) c.args.figures.now.len
    (c.move_last.auto.figures ∙ c.deref_mut.ensures.len))
    ∙ ap shapes_told c.move_last.ensures
    ∙ ap (λ items. shapes_told (take i items ++ drop (i + 1) items ++ take 1 (drop i items))) c.deref_mut.ensures.value
    ∙ told_raised c.args.figures.now.items i c.args.number (omega arith)
