use Rattle.program_calls.proofs.Sound.{got_but_memory}
use Rattle.program_calls.proofs.laws.streams_are_got.Goals as goal

pub returns : goal.returns
returns c = got_but_memory
