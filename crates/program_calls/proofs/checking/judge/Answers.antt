use Rattle.read_files.proofs.ReadingTold.{read_refused}
use Rattle.program_calls.proofs.checking.judge.Goals as goal

pub returns-clause-refused : goal.returns-clause-refused
returns-clause-refused c =
    read_refused c.args.file.now c.read_outline.result c.in-Err.fault c.in-Err.is c.read_outline.ensures.header
    c.read_outline.ensures.reads c.read_outline.ensures.refused
