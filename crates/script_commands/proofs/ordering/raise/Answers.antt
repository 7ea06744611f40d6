use Rattle.std.proofs.Common.{◌≡◌, ◌∙◌, [], Ok, Err, refl, rules}
use Rattle.std.specs.Result.{IsErrAnd}
use Rattle.container_model.specs.Commands.{on_command}
use Rattle.container_model.specs.declared.command.Command.TheVariants as asks
use Rattle.container_model.specs.Record.{counts_none}
use Rattle.script_model.specs.Answers.{told_by}
use Rattle.script_model.specs.Courses.{course}
use Rattle.script_container.proofs.Answered.{refused_with}
use Rattle.script_container.proofs.Known.{stopped_on}
use Rattle.script_links.proofs.Going.{known_still, lacking_leaves}
use Rattle.script_commands.proofs.Coursed.{given_on, starts_same, unstarted_same}
use Rattle.script_commands.proofs.Lines.{refusal_told}
use Rattle.script_opens.proofs.Results.{refused_on, refused_then}
use Rattle.script_commands.proofs.Starting.{none_for}
use Rattle.script_commands.proofs.ordering.raise.Goals as goal

pub returns-in_err-save_all-in-Ok-clause-ordered : goal.returns-in_err-save_all-in-Ok-clause-ordered
returns-in_err-save_all-in-Ok-clause-ordered g c = given_on (g.H.Host.told c.args.host.now)
    (g.H.Host.told c.save_all.new.host) (g.H.Host.told c.command.new.host) asks.Session
    (starts_same (g.H.Host.told c.command.new.host) (g.H.Host.told c.save_all.new.host) c.save_all.ensures.ordered)
    c.command.ensures.ordered

pub returns-in_ok-save_all-in-Ok-clause-ordered : goal.returns-in_ok-save_all-in-Ok-clause-ordered
returns-in_ok-save_all-in-Ok-clause-ordered g c = given_on (g.H.Host.told c.args.host.now)
    (g.H.Host.told c.save_all.new.host) (g.H.Host.told c.command.new.host) asks.Session
    (starts_same (g.H.Host.told c.command.new.host) (g.H.Host.told c.save_all.new.host) c.save_all.ensures.ordered)
    c.command.ensures.ordered

pub returns-in_ok-save_all-in-Ok-clause-tried : goal.returns-in_ok-save_all-in-Ok-clause-tried
returns-in_ok-save_all-in-Ok-clause-tried g c =
    unstarted_same (g.H.Host.told c.command.new.host) (g.H.Host.told c.save_all.new.host) c.save_all.ensures.ordered
    ∙ none_for (g.H.Host.told c.args.host.now) (g.H.Host.told c.command.new.host) c.args.core.now asks.Session
    (Ok (counts_none c.command.new.core c.in-Ok.answer)) c.requires.known.told.recorded c.in-Ok.ensures.answered
    c.command.ensures.ordered c.requires.idle (c.in-Ok.ensures.starts c.requires.none)

pub returns-in-Err-clause-ordered : goal.returns-in-Err-clause-ordered
returns-in-Err-clause-ordered g c = given_on (g.H.Host.told c.args.host.now) (g.H.Host.told c.command.new.host)
    (g.H.Host.told c.command.new.host) asks.Session refl c.command.ensures.ordered

pub returns-in-Err-clause-answered : goal.returns-in-Err-clause-answered
returns-in-Err-clause-answered g c =
    refused_then c.refusal.result c.in-Err.fault (λ t. t ≡ told_by (on_command c.args.core.now asks.Session))
    c.refusal.ensures.told (λ some. refusal_told c.args.core.now asks.Session c.in-Err.fault
    c.in-Err.ensures.refused some)

pub returns-in-Err-clause-tried : goal.returns-in-Err-clause-tried
returns-in-Err-clause-tried g c =
    refused_on c.refusal.result c.in-Err.fault ((course (g.H.Host.told c.command.new.host)).unstarted ≡ [])
    c.refusal.ensures.told
    (λ some. none_for (g.H.Host.told c.args.host.now) (g.H.Host.told c.command.new.host) c.args.core.now
    asks.Session (Err c.in-Err.fault) c.requires.known.told.recorded
    (refused_with (on_command c.args.core.now asks.Session) c.in-Err.fault some c.in-Err.ensures.refused)
    c.command.ensures.ordered c.requires.idle refl)

pub save_all-requires : goal.save_all-requires
save_all-requires g c = record {
  known = known_still g.H.Disk.Disk c.args.noticed.now c.command.ensures.told c.command.ensures.noticed
      c.requires.known.seen;
}

pub returns-in_err-save_all-in-Ok-clause-leaves : goal.returns-in_err-save_all-in-Ok-clause-leaves
returns-in_err-save_all-in-Ok-clause-leaves g c =
    let again : IsErrAnd c.from_residual.result (λ x. x ≡ c.in_err-save_all-in-Ok.field-0.0) = search rules in
    stopped_on g.H.Disk.Disk c.from_residual.result c.in_err-save_all-in-Ok.field-0.0
    (g.H.Host.told c.save_all.new.host) c.save_all.new.core c.save_all.new.noticed again
    c.in_err-save_all-in-Ok.ensures.leaves

pub returns-in-Err-clause-leaves : goal.returns-in-Err-clause-leaves
returns-in-Err-clause-leaves g c =
    lacking_leaves g.H.Disk.Disk c.refusal.result (g.H.Host.told c.args.host.now) (g.H.Host.told c.command.new.host)
    c.command.new.core c.args.noticed.now c.command.ensures.told c.command.ensures.noticed c.requires.known.seen
    c.refusal.ensures.lacking
