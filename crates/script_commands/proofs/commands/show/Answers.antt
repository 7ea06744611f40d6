use Rattle.script_container.proofs.Shown.{lacks}
use Rattle.script_commands.proofs.commands.show.Goals as goal

pub returns-in_err-extend_from_slice-in-Ok-clause-lacking : goal.returns-in_err-extend_from_slice-in-Ok-clause-lacking
returns-in_err-extend_from_slice-in-Ok-clause-lacking c = lacks c.from_residual.result c.from_residual.ensures.1
