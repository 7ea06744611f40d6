use Rattle.std.proofs.Common.{◌*◌, ◌∙◌, ap, get_or}
use Rattle.std.specs.Prelude.{slice_set}
use Rattle.write_directory.proofs.Named.{one_more}
use Rattle.write_directory.proofs.write.write_name.Goals as goal

pub loop-k-preserved : goal.loop-k-preserved
loop-k-preserved c =
    ap (λ bs. slice_set bs (2 * c.loop-k.k) (get_or c.args.name.now c.loop-k.k 0)) c.loop-k.invariant
    ∙ one_more c.args.name.now c.loop-k.k c.loop-k-test.true c.requires.short
