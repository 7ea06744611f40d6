use Rattle.read_chains.proofs.Entries.{held_joined}
use Rattle.read_chains.proofs.image.entries_placed.Goals as goal

pub returns : goal.returns
returns c = held_joined c.args.file.now c.in_ok-entries.entries.now c.args.sectors.now c.in_ok-entries.ensures.whole
    c.in_ok-entries.ensures.each
