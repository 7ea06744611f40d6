use Rattle.read_directories.proofs.Kept.{names_refused}
use Rattle.read_directories.proofs.entries.Table.read_name.Goals as goal

pub returns-clause-refused : goal.returns-clause-refused
returns-clause-refused c = names_refused c.args.self.now.directory c.args.id c.args.entry.now c.read_name.result
    c.if-id-eq0.false c.requires.bytes c.read_name.ensures.refused
