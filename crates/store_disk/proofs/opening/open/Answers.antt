use Rattle.std.proofs.Common.{refl}
use Rattle.store_disk.proofs.opening.open.Goals as goal

pub returns-in-Err-clause-refuses : goal.returns-in-Err-clause-refuses
returns-in-Err-clause-refuses g c = c.fault_of.ensures (g.N.Names.failed c.args.names.now)
    (g.N.Names.failed c.open.new.self) (c.in-Err.ensures.count.on_failure refl)
