use Rattle.container_steady.proofs.SteadyDocuments.{full-by_the_file_alone}
use Rattle.container_steady.proofs.record_laws.full_by_the_file_alone.Goals as goal

pub returns : goal.returns
returns c = full-by_the_file_alone
