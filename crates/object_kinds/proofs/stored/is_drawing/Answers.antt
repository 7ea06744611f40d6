use Rattle.std.proofs.Common.{arith, ap, length, sym, ◌≡◌, ◌∙◌}
use Rattle.std.proofs.lemmas.Bool.Decides.{nat_tests}
use Rattle.object_kinds.specs.Drawn.{shape_told}
use Rattle.object_kinds.specs.Lines.{shapes_on}
use Rattle.object_kinds.proofs.Listed.{are_few, are_few-full, are_few-none, is_loaded, shapes_on-none}
use Rattle.object_kinds.proofs.stored.is_drawing.Goals as goal

pub returns-in_default : goal.returns-in_default
returns-in_default c =
    sym (ap (are_few c.loop-rest.count) c.in_default.ensures.split) ∙ c.loop-rest.invariant.same
    ∙ is_loaded c.args.bytes.now

pub returns-then-count-eq-SIZE : goal.returns-then-count-eq-SIZE
returns-then-count-eq-SIZE c =
    let full : c.loop-rest.count ≡ 256 = c.if-count-eq-SIZE.true in
    sym (ap (λ n. are_few n (shapes_on c.loop-rest.rest.now)) full ∙ ap (are_few 256) c.in-Some.ensures.split
    ∙ are_few-full (shape_told c.in-Some.field-0-0) (shapes_on c.in-Some.behind.now))
    ∙ c.loop-rest.invariant.same ∙ is_loaded c.args.bytes.now

pub returns : goal.returns
returns c =
    let none : length c.loop-rest.rest.now ≡ 0 = grind (arith, nat_tests) in
    sym (ap (are_few c.loop-rest.count) (shapes_on-none c.loop-rest.rest.now none)
    ∙ are_few-none c.loop-rest.count c.loop-rest.invariant.small)
    ∙ c.loop-rest.invariant.same ∙ is_loaded c.args.bytes.now
