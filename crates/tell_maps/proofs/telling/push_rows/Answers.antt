use Rattle.std.proofs.Common.{arith}
use Rattle.tell_maps.specs.Maps.{row}
use Rattle.tell_maps.proofs.Rows.{rows_more}
use Rattle.tell_maps.proofs.telling.push_rows.Goals as goal

pub loop-k-preserved : goal.loop-k-preserved
loop-k-preserved c = rows_more (row c.args.cells.now) c.loop-k.k c.args.text.now.items c.loop-k.text.items
    c.push_row.new.text.items c.loop-k.invariant c.in_ok-push_row.ensures
