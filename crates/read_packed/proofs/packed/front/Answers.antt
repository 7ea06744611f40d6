use Rattle.std.proofs.Common.{◌∙◌, ◌++◌, ap, drop, replicate}
use Rattle.read_packed.proofs.Held.{fronted}
use Rattle.read_packed.proofs.packed.front.Goals as goal

pub returns : goal.returns
returns c = ap (λ xs. xs ++ drop c.min-count.result (replicate 128 0)) c.copy_from_slice.ensures.after
    ∙ fronted c.args.bytes.now c.min-count.result c.min-count.ensures
