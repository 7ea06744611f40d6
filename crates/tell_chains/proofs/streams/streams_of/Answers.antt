use Rattle.std.proofs.Common.{◌≡◌, ◌≤◌, arith, length}
use Rattle.tell_chains.proofs.Listed.{all_streams, below_none}
use Rattle.tell_chains.proofs.streams.streams_of.Goals as goal

pub returns : goal.returns
returns c =
    all_streams c.args.directory.now c.args.met.now.ids.items c.args.met.now.parents.items c.args.met.now.seen.items
    c.loop-id.streams.items c.loop-id.id c.requires c.loop-id.invariant (omega (arith, c.loop-id-test.false))
