use Rattle.std.proofs.Common.{◌+◌, ◌/◌, arith}
use Rattle.read_packed.specs.Places.{filled}
use Rattle.read_packed.proofs.Placed.{length_placed, new_placed}
use Rattle.read_packed.proofs.places.Places.new.Goals as goal

pub invariant_of-result : goal.invariant_of-result
invariant_of-result c =
    new_placed c.args.len (c.args.len / 512 + 1) c.in_ok-pool.pool c.in_ok-places.places.items
    c.in_ok-pool.ensures c.in_ok-places.ensures.items (omega arith)

pub returns : goal.returns
returns c =
    length_placed c.args.len c.in_ok-pool.pool (filled (c.args.len / 512 + 1) c.in_ok-places.places.items)
    (new_placed c.args.len (c.args.len / 512 + 1) c.in_ok-pool.pool c.in_ok-places.places.items
    c.in_ok-pool.ensures c.in_ok-places.ensures.items (omega arith))
