use Rattle.std.proofs.Common.{ap}
use Rattle.script_container.specs.Servers.{servers, turned}
use Rattle.script_container.proofs.container.noted.Goals as goal

pub returns-in-Err-NoMemory-clause-serving : goal.returns-in-Err-NoMemory-clause-serving
unfolding servers turned
returns-in-Err-NoMemory-clause-serving g c = ap servers c.note.ensures
