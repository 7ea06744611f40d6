use Rattle.object_state.proofs.Tables.{verbs-lead}
use Rattle.object_state.proofs.laws.verbs_lead.Goals as goal

pub returns : goal.returns
returns c = verbs-lead
