use Rattle.world_model.proofs.ComputedStories.{worked_stops}
use Rattle.world_model.proofs.worked_stories.worked_stops.Goals as goal

pub returns : goal.returns
returns c = worked_stops
