use Rattle.object_core.proofs.Staying.{edits_stay}
use Rattle.object_core.proofs.laws.edits_stay.Goals as goal

pub returns : goal.returns
returns c = edits_stay
