use Rattle.std.proofs.Common.{length}
use Rattle.store_core.specs.Steps.{IsInstalling}
use Rattle.store_core.proofs.Moments.{one_call}
use Rattle.store_core.proofs.Under.{torn_installs}
use Rattle.store_core.proofs.calls.write_told.Goals as goal

pub returns-clause-stays : goal.returns-clause-stays
returns-clause-stays g c model =
    let old = c.args.disk.now in
    let ready = c.requires.ready model in
    one_call g.D.Disk.may_leave g.D.Disk.moment g.D.Disk.left_since old c.write.new.self
    (IsInstalling (g.D.Disk.reads old)) (g.met.D.Disk.only_now old) ready.left (c.write.ensures.time model)
    (λ i now. let from = c.write.ensures.crash model i now in
    torn_installs (g.D.Disk.reads old) from.0 i c.args.at (length c.args.bytes.now) ready.gate ready.whole
    (c.requires.told model) (ready.left from.0 from.1) from.2)
