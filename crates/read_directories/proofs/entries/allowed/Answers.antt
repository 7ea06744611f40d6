use Rattle.read_directories.proofs.Characters.{allowed, forbidden, told}
use Rattle.read_directories.proofs.entries.allowed.Goals as goal

pub returns-clause-kept : goal.returns-clause-kept
returns-clause-kept c = allowed c.args.unit _ (told c.args.unit c.from.result c.requires.ascii c.from.ensures)

pub returns-clause-forbidden : goal.returns-clause-forbidden
returns-clause-forbidden c = forbidden c.args.unit _ (told c.args.unit c.from.result c.requires.ascii c.from.ensures)
