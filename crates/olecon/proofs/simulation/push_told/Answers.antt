use Rattle.olecon.proofs.Reached.{told_whole}
use Rattle.olecon.proofs.simulation.push_told.Goals as goal

pub returns : goal.returns
returns g c = told_whole c.push_end.result _ _ _ _ _ _ _ c.in_ok-push_answers.ensures c.in_ok-push_report.ensures
    c.push_end.ensures
