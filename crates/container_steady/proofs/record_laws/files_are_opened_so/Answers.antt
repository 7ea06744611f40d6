use Rattle.container_steady.proofs.Opening.{is_opened}
use Rattle.container_steady.proofs.record_laws.files_are_opened_so.Goals as goal

pub returns : goal.returns
returns c = is_opened
