use Rattle.read_packed.proofs.Held.{place_read}
use Rattle.read_packed.proofs.packed.shorten.Goals as goal

pub returns-clause-place : goal.returns-clause-place
returns-clause-place c = place_read c.args.entry.now c.told-entry
