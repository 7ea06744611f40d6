use Rattle.std.proofs.Common.{◌∙◌, ◌+◌, ◌/◌, ap, length, sym}
use Rattle.read_packed.specs.Places.{filled}
use Rattle.read_packed.proofs.Placed.{length_placed}
use Rattle.read_packed.proofs.places.Places.len.Goals as goal

pub returns : goal.returns
returns c = sym (length_placed c.self.inside.len c.self.inside.pool
    (filled (c.self.inside.len / 512 + 1) c.self.inside.places.items) c.self.invariant) ∙ ap length c.self.view_is
