use Rattle.program_calls.proofs.Sound.{checked_as_sound}
use Rattle.program_calls.proofs.laws.sound_files_are_checked.Goals as goal

pub returns : goal.returns
returns c = checked_as_sound
