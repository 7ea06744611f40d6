use Rattle.std.proofs.Common.{◌∙◌}
use Rattle.write_zeros.proofs.Read.{table_read}
use Rattle.write_zeros.proofs.parts.table_in.Goals as goal

pub returns : goal.returns
returns c =
    table_read c.args.file.now c.args.sectors.now c.deref.result.now c.in_ok-numbers.numbers.items
    (c.deref.ensures.value ∙ c.in_ok-bytes.ensures)
    c.in_ok-numbers.ensures.count c.in_ok-numbers.ensures.each
