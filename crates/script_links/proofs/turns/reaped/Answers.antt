use Rattle.script_links.proofs.Going.{known_still}
use Rattle.script_links.proofs.turns.reaped.Goals as goal

pub save_all-requires : goal.save_all-requires
save_all-requires g c = record {
  known = known_still g.H.Disk.Disk c.args.noticed.now c.reap.ensures.told c.reap.ensures.noticed c.requires.seen;
}

pub returns-in-Err-NoMemory-clause-leaves : goal.returns-in-Err-NoMemory-clause-leaves
returns-in-Err-NoMemory-clause-leaves g c = record { told = c.reap.ensures.told; shown = tt }
