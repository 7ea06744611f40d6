use Rattle.std.proofs.Common.{◌∙◌, sym, ap, ◌++◌, ◌∷◌, [], ◌+◌, ◌-◌, append_assoc, length}
use Rattle.std.specs.List.{range_with_len}
use Rattle.container_checks.proofs.LookupPlaces.{numbers_more}
use Rattle.container_checks.proofs.lookups.frame_numbers.Goals as goal

pub loop-i-preserved : goal.loop-i-preserved
loop-i-preserved c =
    ap (λ xs. xs ++ range_with_len (c.loop-i.i + 1 + 1) (length c.args.frames.now - (c.loop-i.i + 1)))
    c.in_ok-push.ensures.items
    ∙ (append_assoc c.loop-i.numbers.items ((c.loop-i.i + 1) ∷ [])
    (range_with_len (c.loop-i.i + 1 + 1) (length c.args.frames.now - (c.loop-i.i + 1)))
    ∙ (ap (λ xs. c.loop-i.numbers.items ++ xs)
    (sym (numbers_more (length c.args.frames.now) c.loop-i.i c.loop-i-test.true)) ∙ c.loop-i.invariant))
