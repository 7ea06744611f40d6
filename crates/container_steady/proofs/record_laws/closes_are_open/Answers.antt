use Rattle.container_steady.proofs.SteadyCloses.{closes-are_open}
use Rattle.container_steady.proofs.record_laws.closes_are_open.Goals as goal

pub returns : goal.returns
returns c = closes-are_open
