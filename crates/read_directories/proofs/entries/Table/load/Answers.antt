use Rattle.std.proofs.Common.{rules}
use Rattle.read_directories.proofs.entries.Table.load.Goals as goal

pub returns-clause-loaded : goal.returns-clause-loaded
returns-clause-loaded c = search rules
