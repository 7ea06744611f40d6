use Rattle.program_calls.proofs.Sound.{cleaned_but_memory}
use Rattle.program_calls.proofs.laws.sound_files_are_cleaned.Goals as goal

pub returns : goal.returns
returns c = cleaned_but_memory
