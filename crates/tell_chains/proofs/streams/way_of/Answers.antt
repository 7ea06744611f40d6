use Rattle.std.proofs.Common.{◌∙◌, get_or, sym}
use Rattle.tell_chains.proofs.Listed.{stream_at}
use Rattle.tell_chains.proofs.streams.way_of.Goals as goal

pub returns : goal.returns
returns c =
    stream_at c.args.directory.now c.deref-2.result.now c.in_ok-way.way.items c.args.stream.now.id
    c.place_among-place.result c.in_ok-way.ensures.way c.in_ok-way.ensures.end
    ((λ i. get_or ((c.deref-2.ensures.value ∙ sym c.deref.ensures.value) i) c.place_among-place.result 0)
    ∙ c.place_among-place.ensures.there) c.requires.stream.below c.requires.stream.kind_is
