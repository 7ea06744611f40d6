use Rattle.std.proofs.Common.{◌+◌, ◌*◌, ◌∙◌, arith}
use Rattle.cfb_names.proofs.KeyNumbers.{eight_are}
use Rattle.cfb_names.proofs.key.number.Goals as goal

pub returns-clause-number : goal.returns-clause-number
returns-clause-number g c =
    (λ t. c.from_be_bytes-high.ensures t * 4294967296 + c.from_be_bytes-low.ensures t) ∙ omega arith
    ∙ eight_are g.row.AT c.args.units.now (omega arith)

pub returns-clause-bytes : goal.returns-clause-bytes
returns-clause-bytes g c = record { small = λ k. c.fits-units k; count = omega arith }
