use Rattle.std.proofs.Common.{◌≡◌, ◌∙◌, [], rules}
use Rattle.std.specs.Result.{IsErrAnd}
use Rattle.script_model.specs.Courses.{course}
use Rattle.script_container.proofs.Servers.{turned_of}
use Rattle.script_links.proofs.Going.{ends_on, goes_on}
use Rattle.script_links.proofs.Served.{on_ok}
use Rattle.script_commands.proofs.Coursed.{starts_same, unstarted_same}
use Rattle.script_container.specs.Servers.{servers}
use Rattle.script_commands.proofs.ordering.act.Goals as goal

pub returns-in_err-end_asked-clause-holding : goal.returns-in_err-end_asked-clause-holding
returns-in_err-end_asked-clause-holding g c = λ f hold. c.end_asked.ensures.holding f
    (c.start_asked.ensures.holding f hold).each

pub returns-clause-holding : goal.returns-clause-holding
returns-clause-holding g c = λ f hold. c.end_asked.ensures.holding f (c.start_asked.ensures.holding f hold).each

pub returns-in_err-end_asked-clause-ordered : goal.returns-in_err-end_asked-clause-ordered
returns-in_err-end_asked-clause-ordered g c = starts_same (g.H.Host.told c.start_asked.new.host)
    (g.H.Host.told c.end_asked.new.host) c.end_asked.ensures.ordered ∙ c.start_asked.ensures.ordered

pub returns-clause-ordered : goal.returns-clause-ordered
returns-clause-ordered g c = starts_same (g.H.Host.told c.start_asked.new.host) (g.H.Host.told c.save_all.new.host)
    (c.save_all.ensures.ordered ∙ c.end_asked.ensures.ordered) ∙ c.start_asked.ensures.ordered

pub returns-clause-tried : goal.returns-clause-tried
returns-clause-tried g c =
    on_ok c.save_all.result ((course (g.H.Host.told c.save_all.new.host)).unstarted ≡ [])
    (unstarted_same (g.H.Host.told c.start_asked.new.host) (g.H.Host.told c.save_all.new.host)
    (c.save_all.ensures.ordered ∙ c.end_asked.ensures.ordered) ∙ c.in_ok-start_asked.ensures.tried)

pub returns-in_err-start_asked-clause-holding : goal.returns-in_err-start_asked-clause-holding
returns-in_err-start_asked-clause-holding g c = λ f hold. (c.start_asked.ensures.holding f hold).each

pub returns-in_err-start_asked-clause-leaves : goal.returns-in_err-start_asked-clause-leaves
returns-in_err-start_asked-clause-leaves g c =
    let again : IsErrAnd c.from_residual.result (λ x. x ≡ c.in_err-start_asked.field-0.0) = search rules in
    ends_on g.H.Disk.Disk c.from_residual.result c.in_err-start_asked.field-0.0 (g.H.Host.told c.start_asked.new.host)
    c.start_asked.new.progress again c.in_err-start_asked.ensures.leaves

pub returns-in_err-end_asked-clause-leaves : goal.returns-in_err-end_asked-clause-leaves
returns-in_err-end_asked-clause-leaves g c =
    let again : IsErrAnd c.from_residual-in_err-end_asked.result (λ x. x ≡ c.in_err-end_asked.field-0.0) = search
    rules in
    ends_on g.H.Disk.Disk c.from_residual-in_err-end_asked.result c.in_err-end_asked.field-0.0
    (g.H.Host.told c.end_asked.new.host)
    c.end_asked.new.progress again c.in_err-end_asked.ensures.leaves

pub returns-clause-leaves : goal.returns-clause-leaves
returns-clause-leaves g c =
    goes_on g.H.Disk.Disk c.save_all.result (g.H.Host.told c.end_asked.new.host) (g.H.Host.told c.save_all.new.host)
    c.end_asked.new.progress c.save_all.new.core c.save_all.new.noticed c.save_all.ensures.serving
    c.in_ok-end_asked.ensures.leaves.linked c.in_ok-end_asked.ensures.leaves.served c.save_all.ensures.leaves

pub returns-clause-turning : goal.returns-clause-turning
unfolding servers
returns-clause-turning g c = turned_of c.save_all.ensures.serving ∙ c.end_asked.ensures.turning
    ∙ c.start_asked.ensures.turning
