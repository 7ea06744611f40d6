use Rattle.std.proofs.Common.{rules}
use Rattle.write_files.proofs.entries.push_stream.Goals as goal

pub returns-clause-fat : goal.returns-clause-fat
returns-clause-fat c = search rules
