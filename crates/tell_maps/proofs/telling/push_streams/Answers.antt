use Rattle.std.specs.Prelude.{codes}
use Rattle.tell_maps.specs.Maps.{LAST, MINI_STREAM, STREAM}
use Rattle.tell_maps.proofs.Results.{on_ok}
use Rattle.tell_maps.proofs.Rows.{three_counted}
use Rattle.tell_maps.proofs.telling.push_streams.Goals as goal

pub returns : goal.returns
returns c =
    on_ok c.push_count-3.result _ _
    (λ last. three_counted c.args.tally.now c.args.text.now.items c.push_count.new.text.items
    c.push_count-2.new.text.items c.push_count-3.new.text.items
    c.as_slice.result.now c.as_slice-2.result.now c.as_slice-3.result.now (codes "m  mini stream         ")
    (codes "s  streams             ") (codes "e  ends of streams     ")
    MINI_STREAM STREAM LAST c.as_slice.ensures c.as_slice-2.ensures c.as_slice-3.ensures c.in_ok-push_count.ensures
    c.in_ok-push_count-2.ensures last)
    c.push_count-3.ensures
