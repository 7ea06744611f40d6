use Rattle.std.proofs.Common.{◌≡◌, rules}
use Rattle.std.specs.Result.{IsErrAnd}
use Rattle.script_model.specs.Notices.{notices}
use Rattle.script_container.proofs.Known.{stopped_on}
use Rattle.script_container.proofs.Noticed.{seen_first}
use Rattle.script_container.proofs.saves.save_on.Goals as goal

pub returns-in_err-lost-in-Commit-clause-leaves : goal.returns-in_err-lost-in-Commit-clause-leaves
returns-in_err-lost-in-Commit-clause-leaves g c =
    let again : IsErrAnd c.from_residual.result (λ x. x ≡ c.in_err-lost-in-Commit.field-0.0) = search rules in
    stopped_on g.H.Disk.Disk c.from_residual.result c.in_err-lost-in-Commit.field-0.0 (g.H.Host.told c.save.new.host)
    c.save.new.core c.args.noticed.now again
    (record { told = c.save.ensures.told; shown = c.in_err-lost-in-Commit.ensures.shown })

pub returns-in_ok-lost-in-Commit-clause-leaves : goal.returns-in_ok-lost-in-Commit-clause-leaves
returns-in_ok-lost-in-Commit-clause-leaves g c = record {
  told = c.save.ensures.told;
  seen = seen_first (notices (g.H.Host.told c.args.host.now)) (notices (g.H.Host.told c.save.new.host))
      c.args.noticed.now c.in_ok-lost-in-Commit.lost c.first_of.result c.first_of.ensures c.requires.known.seen
      c.in_ok-lost-in-Commit.ensures.noticed;
}
