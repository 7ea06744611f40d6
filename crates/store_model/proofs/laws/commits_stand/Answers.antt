use Rattle.store_model.proofs.Opening.{opened_stands}
use Rattle.store_model.proofs.laws.commits_stand.Goals as goal

pub returns : goal.returns
returns c old new small = opened_stands old new small
