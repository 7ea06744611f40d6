use Rattle.store_core.specs.Steps.{IsStaging}
use Rattle.store_core.proofs.Moments.{one_call}
use Rattle.store_core.proofs.Under.{cut_stages}
use Rattle.store_core.proofs.calls.cut_behind.Goals as goal

pub returns-clause-stays : goal.returns-clause-stays
returns-clause-stays g c model =
    let old = c.args.disk.now in
    let closed = c.requires.closed model in
    one_call g.D.Disk.may_leave g.D.Disk.moment g.D.Disk.left_since old c.cut.new.self
    (IsStaging (g.D.Disk.reads old)) (g.met.D.Disk.only_now old) closed (c.cut.ensures.time model)
    (λ i now. let from = c.cut.ensures.crash model i now in
    cut_stages (g.D.Disk.reads old) from.0 i c.args.size c.requires.behind (closed from.0 from.1) from.2)
