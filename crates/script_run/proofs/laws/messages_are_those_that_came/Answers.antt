use Rattle.script_run.proofs.Came.{messages_came}
use Rattle.script_run.proofs.laws.messages_are_those_that_came.Goals as goal

pub returns : goal.returns
returns g c = messages_came c.frames_are_longest.ensures
