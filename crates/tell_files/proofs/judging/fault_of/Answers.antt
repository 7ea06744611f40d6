use Rattle.read_files.proofs.ReadingTold.{walk_refused}
use Rattle.tell_files.proofs.Input.{some_none}
use Rattle.tell_files.proofs.judging.fault_of.Goals as goal

pub returns-in-Ok-clause-sound : goal.returns-in-Ok-clause-sound
returns-in-Ok-clause-sound c = λ _. (c.in-Ok.ensures.outlined.0, c.in-Ok.ensures.outlined.1)

pub returns-clause-sound : goal.returns-clause-sound
returns-clause-sound c = λ e. absurd (some_none e)

pub returns-clause-at_fault : goal.returns-clause-at_fault
returns-clause-at_fault c =
    walk_refused c.args.catalog.now.file c.args.catalog.now.header c.read_placed.result c.in-Err.fault
    c.requires.read c.in-Err.is
    c.read_placed.ensures.reads c.read_placed.ensures.refused
