use Rattle.store_images.proofs.Lengths.{files-taken}
use Rattle.store_images.proofs.laws.files_are_taken.Goals as goal

pub returns : goal.returns
returns c = files-taken
