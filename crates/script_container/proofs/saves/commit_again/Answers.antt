use Rattle.std.proofs.Common.{◌∙◌, ap}
use Rattle.script_container.proofs.Saved.{shut_missing}
use Rattle.script_container.proofs.Shown.{missing_twice, given_back}
use Rattle.script_container.specs.Servers.{servers, turned}
use Rattle.script_container.proofs.saves.commit_again.Goals as goal

pub returns-in-Ok-clause-left : goal.returns-in-Ok-clause-left
returns-in-Ok-clause-left g c = λ missing.
    shut_missing g.H.Disk.Disk c.try_again-outcome.result.0 (g.H.Host.told c.args.host.now)
    (g.H.Host.told c.disk.new.self) (g.H.Host.told c.shut.new.self) c.args.name.now c.args.bytes.now
    c.in-Ok.disk c.try_again-outcome.result.1
    c.in-Ok.ensures c.shut.ensures missing c.try_again-outcome.ensures.lost

pub returns-in-Ok-clause-unopened : goal.returns-in-Ok-clause-unopened
returns-in-Ok-clause-unopened g c = λ missing.
    given_back g.H.Disk.Disk c.try_again-outcome.result.0 c.args.name.now (g.H.Host.told c.args.host.now)
    (g.H.Host.told c.disk.new.self) (g.H.Host.told c.shut.new.self) c.in-Ok.disk c.try_again-outcome.result.1
    c.in-Ok.ensures c.shut.ensures
    c.try_again-outcome.ensures.untold

pub returns-in-Err-clause-unopened : goal.returns-in-Err-clause-unopened
returns-in-Err-clause-unopened g c = λ missing. missing_twice g.H.Disk.Disk c.args.name.now c.in-Err.fault
    (g.H.Host.told c.args.host.now) (g.H.Host.told c.disk.new.self) missing c.in-Err.ensures

pub returns-in-Ok-clause-serving : goal.returns-in-Ok-clause-serving
unfolding servers turned
returns-in-Ok-clause-serving g c = ap servers c.shut.ensures ∙ ap servers c.disk.ensures

pub returns-in-Err-clause-serving : goal.returns-in-Err-clause-serving
unfolding servers turned
returns-in-Err-clause-serving g c = ap servers c.disk.ensures
