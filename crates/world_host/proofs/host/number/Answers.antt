use Rattle.std.proofs.Common.{sym, ◌∙◌, ap, ◌+◌, ◌++◌, ◌∷◌, [], arith}
use Rattle.world_host.proofs.NumberedRanges.{range_more}
use Rattle.world_host.proofs.host.number.Goals as goal

pub loop-i-preserved : goal.loop-i-preserved
loop-i-preserved c = record {
  room = omega arith;
  len = omega arith;
  places = c.add.ensures.added ∙ (ap (λ xs. xs ++ (c.args.before + 1 + c.loop-i.i) ∷ []) c.loop-i.invariant.places
      ∙ sym (range_more (c.args.before + 1) (c.args.before + 1 + c.loop-i.i) c.loop-i.i (omega arith)));
}
