use Rattle.program_calls.proofs.Answered.{unread}
use Rattle.program_calls.proofs.calls.outline_of.Goals as goal

pub returns-in-Err-clause-refused : goal.returns-in-Err-clause-refused
returns-in-Err-clause-refused c =
    unread c.args.file.now c.read_outline.result c.in-Err.fault c.read_number.result c.in-Err.is
    c.read_number.ensures.number c.read_outline.ensures.header c.read_outline.ensures.reads
    c.read_outline.ensures.refused
