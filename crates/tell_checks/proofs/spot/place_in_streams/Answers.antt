use Rattle.tell_chains.specs.Streams.{IsNoStream}
use Rattle.tell_faults.proofs.Held.{none_gives}
use Rattle.tell_checks.proofs.spot.place_in_streams.Goals as goal

pub returns-in-Ok-None-clause-nowhere : goal.returns-in-Ok-None-clause-nowhere
returns-in-Ok-None-clause-nowhere c = λ is other.
    none_gives (IsNoStream c.args.file.now c.args.fault) c.in-Ok-None.field-0 c.in-Ok-None.field-0-is
    (c.in-Ok-None.ensures.nowhere is other)
