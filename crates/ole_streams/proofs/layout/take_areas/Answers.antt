use Rattle.std.proofs.Common.{ap, sym, ◌∙◌, ◌+◌, ◌-◌, ◌++◌, ◌∷◌, [], take, length-append, length-drop, arith}
use Rattle.ole_model.specs.Fields.{map_ok}
use Rattle.ole_model.specs.Layouts.{area_at, areas_read}
use Rattle.ole_streams.proofs.Writing.{areas_read-more}
use Rattle.ole_streams.proofs.layout.take_areas.Goals as goal

pub loop-index-preserved : goal.loop-index-preserved
loop-index-preserved c =
    let rest = c.loop-index.rest.now in
    let left = c.args.count - (c.loop-index.index + 1) in
    record {
      value = ap (λ xs. map_ok (λ x. xs ++ x) (areas_read left c.in-Some.behind.now)) c.in_ok-push-in-Some.ensures.items
          ∙ ap (λ a. map_ok (λ x. (c.loop-index.areas.items ++ a ∷ []) ++ x) (areas_read left c.in-Some.behind.now))
          (c.area_at.ensures ∙ ap area_at c.in-Some.ensures.cases.0)
          ∙ ap (λ b. map_ok (λ x. (c.loop-index.areas.items ++ area_at (take 8 rest) ∷ []) ++ x)
          (areas_read left b)) c.in-Some.ensures.cases.1
          ∙ sym (areas_read-more c.args.count c.loop-index.index c.loop-index.areas.items rest
          c.loop-index-test.true (omega (arith, c.in-Some.ensures.cases.2)))
          ∙ c.loop-index.invariant.value;
      size = rw (c.in-Some.ensures.cases.1, length-drop 8 rest)
          (omega (arith, c.loop-index.invariant.size, c.loop-index-test.true));
      len = rw c.in_ok-push-in-Some.ensures.items (simp length-append (omega arith));
    }
