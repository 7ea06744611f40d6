use Rattle.std.proofs.Common.{replicate}
use Rattle.tree_descriptions.proofs.Built.{empty-ok}
use Rattle.tree_descriptions.proofs.building.Building.put_filled.Goals as goal

pub returns-in-Ok-put_empty : goal.returns-in-Ok-put_empty
returns-in-Ok-put_empty c = λ k built.
    empty-ok c.args.self.now c.put_empty.new.self k c.args.path.now (replicate c.args.count c.args.byte) built
    c.in-Ok-put_empty.ensures.free c.in-Ok-put_empty.ensures.made

pub returns-in-Err-put_empty : goal.returns-in-Err-put_empty
returns-in-Err-put_empty c = λ k built. c.in-Err-put_empty.ensures.refused k (replicate c.args.count c.args.byte) built
