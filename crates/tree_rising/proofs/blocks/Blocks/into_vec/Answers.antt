use Rattle.std.proofs.Common.{◌∙◌}
use Rattle.tree_rising.proofs.Growing.{put-back}
use Rattle.tree_rising.proofs.blocks.Blocks.into_vec.Goals as goal

pub returns : goal.returns
returns c =
    let blocks = c.self.inside in
    put-back blocks.full.items c.hold_place.new.full.items blocks.filled blocks.last.items c.in_ok-full.field-0
    c.in_ok-hold_place.ensures.there c.hold_place.ensures.same c.in_ok-full.ensures
    ∙ c.self.view_is
