use Rattle.std.proofs.Common.{◌∙◌, ap}
use Rattle.script_container.proofs.Saved.{shut_with, shut_without}
use Rattle.script_container.proofs.Shown.{given_back}
use Rattle.script_container.specs.Servers.{servers, turned}
use Rattle.script_container.proofs.saves.commit.Goals as goal

pub returns-in-Ok-clause-unopened : goal.returns-in-Ok-clause-unopened
returns-in-Ok-clause-unopened g c =
    given_back g.H.Disk.Disk c.commit_on-outcome.result.0 c.args.name.now (g.H.Host.told c.args.host.now)
    (g.H.Host.told c.disk-given.new.self) (g.H.Host.told c.shut.new.self) c.in-Ok.disk
    c.commit_on-outcome.result.1 c.in-Ok.ensures c.shut.ensures
    c.commit_on-outcome.ensures.untold

pub returns-in-Err-clause-unopened : goal.returns-in-Err-clause-unopened
returns-in-Err-clause-unopened g c = c.commit_again.ensures.unopened (g.H.Host.told c.args.host.now, c.in-Err.ensures)

pub returns-in-Ok-clause-shut : goal.returns-in-Ok-clause-shut
returns-in-Ok-clause-shut g c = λ m.
    shut_with _ c.commit_on-outcome.result.0 (g.H.Host.told c.args.host.now) (g.H.Host.told c.disk-given.new.self)
    (g.H.Host.told c.shut.new.self) c.args.name.now c.args.bytes.now c.in-Ok.disk c.commit_on-outcome.result.1
    c.in-Ok.ensures c.shut.ensures (c.commit_on-outcome.ensures.kept m)

pub returns-in-Ok-clause-left : goal.returns-in-Ok-clause-left
returns-in-Ok-clause-left g c =
    shut_without g.H.Disk.Disk c.commit_on-outcome.result.0 (g.H.Host.told c.args.host.now)
    (g.H.Host.told c.disk-given.new.self) (g.H.Host.told c.shut.new.self) c.args.name.now c.args.bytes.now
    c.in-Ok.disk c.commit_on-outcome.result.1
    c.in-Ok.ensures c.shut.ensures c.commit_on-outcome.ensures.lost c.commit_on-outcome.ensures.cause

pub returns-in-Err-clause-left : goal.returns-in-Err-clause-left
returns-in-Err-clause-left g c = c.commit_again.ensures.left (g.H.Host.told c.args.host.now, c.in-Err.ensures)

pub returns-in-Ok-clause-serving : goal.returns-in-Ok-clause-serving
unfolding servers turned
returns-in-Ok-clause-serving g c = ap servers c.shut.ensures ∙ ap servers c.disk-given.ensures

pub returns-in-Err-clause-serving : goal.returns-in-Err-clause-serving
unfolding servers turned
returns-in-Err-clause-serving g c = c.commit_again.ensures.serving ∙ ap servers c.disk-given.ensures
