use Rattle.std.proofs.Common.{◌≡◌, ◌∙◌, [], Ok, Err, refl, rules, sym}
use Rattle.std.specs.Result.{IsErrAnd}
use Rattle.container_model.specs.Commands.{on_command}
use Rattle.container_model.specs.Record.{counts_none}
use Rattle.script_model.specs.Answers.{told_by}
use Rattle.script_model.specs.Courses.{course}
use Rattle.script_container.proofs.Answered.{refused_with}
use Rattle.script_container.proofs.Servers.{turned_of}
use Rattle.script_links.proofs.Going.{ends_on, goes_on, known_on, known_still, lacking_leaves}
use Rattle.script_commands.proofs.Coursed.{given_on}
use Rattle.script_commands.proofs.Lines.{refusal_told}
use Rattle.script_opens.proofs.Results.{refused_on, refused_then}
use Rattle.script_commands.proofs.Starting.{asked_for, none_for}
use Rattle.script_container.specs.Servers.{servers}
use Rattle.script_commands.proofs.ordering.give.Goals as goal

pub act-requires-clause-wanted : goal.act-requires-clause-wanted
act-requires-clause-wanted g c =
    asked_for (g.H.Host.told c.args.host.now) (g.H.Host.told c.command.new.host) c.args.progress.now.core c.args.ordered
    (Ok (counts_none c.command.new.core c.in-Ok.answer)) c.requires.going.told.recorded c.in-Ok.ensures.answered
    c.command.ensures.ordered c.requires.idle

pub act-requires-clause-raised : goal.act-requires-clause-raised
act-requires-clause-raised g c = λ zero.
    none_for (g.H.Host.told c.args.host.now) (g.H.Host.told c.command.new.host) c.args.progress.now.core c.args.ordered
    (Ok (counts_none c.command.new.core c.in-Ok.answer)) c.requires.going.told.recorded c.in-Ok.ensures.answered
    c.command.ensures.ordered c.requires.idle
    (c.in-Ok.ensures.starts (sym c.command.ensures.session ∙ zero))

pub returns-in_err-act-in-Ok-clause-ordered : goal.returns-in_err-act-in-Ok-clause-ordered
returns-in_err-act-in-Ok-clause-ordered g c = given_on (g.H.Host.told c.args.host.now)
    (g.H.Host.told c.act.new.host) (g.H.Host.told c.command.new.host) c.args.ordered c.act.ensures.ordered
    c.command.ensures.ordered

pub returns-in-Err-clause-ordered : goal.returns-in-Err-clause-ordered
returns-in-Err-clause-ordered g c = given_on (g.H.Host.told c.args.host.now) (g.H.Host.told c.command.new.host)
    (g.H.Host.told c.command.new.host) c.args.ordered refl c.command.ensures.ordered

pub returns-in-Err-clause-answered : goal.returns-in-Err-clause-answered
returns-in-Err-clause-answered g c =
    refused_then c.refusal.result c.in-Err.fault (λ t. t ≡ told_by (on_command c.args.progress.now.core c.args.ordered))
    c.refusal.ensures.told (λ some. refusal_told c.args.progress.now.core c.args.ordered c.in-Err.fault
    c.in-Err.ensures.refused some)

pub returns-in-Err-clause-tried : goal.returns-in-Err-clause-tried
returns-in-Err-clause-tried g c =
    refused_on c.refusal.result c.in-Err.fault ((course (g.H.Host.told c.command.new.host)).unstarted ≡ [])
    c.refusal.ensures.told
    (λ some. none_for (g.H.Host.told c.args.host.now) (g.H.Host.told c.command.new.host) c.args.progress.now.core
    c.args.ordered (Err c.in-Err.fault) c.requires.going.told.recorded
    (refused_with (on_command c.args.progress.now.core c.args.ordered) c.in-Err.fault some c.in-Err.ensures.refused)
    c.command.ensures.ordered c.requires.idle refl)

pub returns-in-Err-clause-holding : goal.returns-in-Err-clause-holding
returns-in-Err-clause-holding g c = λ f hold. hold.each

pub returns-in_err-act-in-Ok-clause-leaves : goal.returns-in_err-act-in-Ok-clause-leaves
returns-in_err-act-in-Ok-clause-leaves g c =
    let again : IsErrAnd c.from_residual.result (λ x. x ≡ c.in_err-act-in-Ok.field-0.0) = search rules in
    ends_on g.H.Disk.Disk c.from_residual.result c.in_err-act-in-Ok.field-0.0 (g.H.Host.told c.act.new.host)
    c.act.new.progress again c.in_err-act-in-Ok.ensures.leaves

pub returns-in_err-act-in-Ok-clause-turning : goal.returns-in_err-act-in-Ok-clause-turning
unfolding servers
returns-in_err-act-in-Ok-clause-turning g c = c.act.ensures.turning ∙ turned_of c.command.ensures.serving

pub returns-in_ok-act-in-Ok-clause-turning : goal.returns-in_ok-act-in-Ok-clause-turning
unfolding servers
returns-in_ok-act-in-Ok-clause-turning g c = c.act.ensures.turning ∙ turned_of c.command.ensures.serving

pub returns-in-Err-clause-turning : goal.returns-in-Err-clause-turning
unfolding servers
returns-in-Err-clause-turning g c = turned_of c.command.ensures.serving

pub act-requires-clause-going : goal.act-requires-clause-going
act-requires-clause-going g c =
    known_on g.H.Disk.Disk (g.H.Host.told c.args.host.now) (g.H.Host.told c.command.new.host) c.args.progress.now
    c.command.new.core c.args.progress.now.noticed c.command.ensures.serving c.requires.going.linked
    c.requires.going.served (known_still g.H.Disk.Disk c.args.progress.now.noticed c.command.ensures.told
    c.command.ensures.noticed
    c.requires.going.seen)

pub returns-in-Err-clause-leaves : goal.returns-in-Err-clause-leaves
returns-in-Err-clause-leaves g c =
    goes_on g.H.Disk.Disk c.refusal.result (g.H.Host.told c.args.host.now) (g.H.Host.told c.command.new.host)
    c.args.progress.now c.command.new.core c.args.progress.now.noticed c.command.ensures.serving
    c.requires.going.linked c.requires.going.served
    (lacking_leaves g.H.Disk.Disk c.refusal.result (g.H.Host.told c.args.host.now)
    (g.H.Host.told c.command.new.host) c.command.new.core c.args.progress.now.noticed c.command.ensures.told
    c.command.ensures.noticed c.requires.going.seen c.refusal.ensures.lacking)
