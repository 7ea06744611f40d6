use Rattle.program_calls.proofs.Sound.{listed_but_memory}
use Rattle.program_calls.proofs.laws.sound_files_are_listed.Goals as goal

pub returns : goal.returns
returns c = listed_but_memory
