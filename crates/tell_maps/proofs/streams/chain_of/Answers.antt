use Rattle.std.proofs.Common.{◌∙◌}
use Rattle.tell_maps.proofs.Results.{if_ok}
use Rattle.tell_maps.proofs.Told.{chained_some}
use Rattle.tell_maps.proofs.streams.chain_of.Goals as goal

pub returns : goal.returns
returns c =
    if_ok c.follow.result _ _
    (λ v is. is ∙ chained_some c.args.table.now c.args.start c.args.bytes c.len.result c.if-bytes-eq0.false
    c.len.ensures)
    c.follow.ensures
