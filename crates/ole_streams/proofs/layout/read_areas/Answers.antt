use Rattle.std.proofs.Common.{sym, arith}
use Rattle.ole_streams.proofs.Writing.{areas_read-apart, areas_read-whole}
use Rattle.ole_streams.proofs.layout.read_areas.Goals as goal

pub returns-then-bytes-count-clause-areas : goal.returns-then-bytes-count-clause-areas
returns-then-bytes-count-clause-areas c =
    λ any. sym (areas_read-apart c.args.count c.args.bytes.now (λ e. omega (arith, e, c.if-bytes-count.true)))

pub returns-in_err-take_areas-clause-wanting : goal.returns-in_err-take_areas-clause-wanting
returns-in_err-take_areas-clause-wanting c = λ any. areas_read-whole c.args.count c.args.bytes.now
    (omega (arith, c.if-bytes-count.false))
