use Rattle.script_run.proofs.Again.{saves-are-opened-again}
use Rattle.script_run.proofs.laws.saves_are_opened_again.Goals as goal

pub returns : goal.returns
returns g c = saves-are-opened-again g.D.Disk g.met.D.Disk.reads_are_left c.files_give_theirs.ensures
