use Rattle.std.proofs.Common.{Ok, Err}
use Rattle.read_outlines.proofs.EntriesKept.{placed_leads}
use Rattle.read_files.proofs.ReadingTold.{walk_refused}
use Rattle.read_files.proofs.read.find_placed.Goals as goal

pub returns-in-Err-clause-refused : goal.returns-in-Err-clause-refused
returns-in-Err-clause-refused c =
    walk_refused c.args.file.now c.args.header.now c.walk.result c.in-Err.fault c.requires.read c.in-Err.is
    c.walk.ensures.reads c.walk.ensures.refused

pub returns-in-Ok-place_at-clause-found : goal.returns-in-Ok-place_at-clause-found
returns-in-Ok-place_at-clause-found c =
    placed_leads c.args.file.now _ c.in-Ok.walked.root c.args.path.now c.place_at.result (Ok c.in-Ok-place_at.place)
    c.in-Ok.ensures.walked c.place_at.ensures c.in-Ok-place_at.is

pub returns-clause-refused : goal.returns-clause-refused
returns-clause-refused c =
    placed_leads c.args.file.now _ c.in-Ok.walked.root c.args.path.now c.place_at.result
    (Err c.in-Err-place_at.fault) c.in-Ok.ensures.walked c.place_at.ensures c.in-Err-place_at.is
