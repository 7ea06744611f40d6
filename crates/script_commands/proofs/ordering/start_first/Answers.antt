use Rattle.std.proofs.Common.{◌∙◌, inr, refl, sym, ◌≡◌, rules}
use Rattle.container_model.specs.declared.command.Command.TheVariants as asks
use Rattle.script_model.specs.Orders.{asked}
use Rattle.std.specs.Result.{IsErrAnd}
use Rattle.script_container.proofs.Known.{told_left}
use Rattle.script_container.proofs.Servers.{still_of, turned_of}
use Rattle.script_links.proofs.Going.{ends_on, known_on}
use Rattle.script_links.proofs.Linked.{still_linked}
use Rattle.script_commands.proofs.Coursed.{asked_given}
use Rattle.script_commands.proofs.Lines.{begun_so, commanded_before, commanded_so, raised_so, unraised_so}
use Rattle.script_commands.proofs.Ordered.{raising_begun, start_begun, started_behind}
use Rattle.script_container.specs.Servers.{servers}
use Rattle.script_commands.proofs.ordering.start_first.Goals as goal

pub give-requires-clause-readied : goal.give-requires-clause-readied
give-requires-clause-readied g c =
    inr (
      asked (g.H.Host.told c.args.host.now),
      asked_given (g.H.Host.told c.args.host.now)
          (g.H.Host.told c.raise.new.host) asks.Session c.raise.ensures.ordered,
    )

pub returns-in_err-started-clause-holding : goal.returns-in_err-started-clause-holding
returns-in_err-started-clause-holding g c = λ f hold. c.give.ensures.holding f hold

pub returns-then-lacks-clause-holding : goal.returns-then-lacks-clause-holding
returns-then-lacks-clause-holding g c = λ f hold. c.give.ensures.holding f hold

pub returns-clause-holding : goal.returns-clause-holding
returns-clause-holding g c = λ f hold. c.give.ensures.holding f hold

pub returns-in_err-raised-clause-begun : goal.returns-in_err-raised-clause-begun
returns-in_err-raised-clause-begun g c =
    raising_begun (asked (g.H.Host.told c.raise.new.host)) (asked (g.H.Host.told c.raise.new.host))
    (asked (g.H.Host.told c.args.host.now))
    (asked_given (g.H.Host.told c.args.host.now) (g.H.Host.told c.raise.new.host) asks.Session
    c.raise.ensures.ordered)

pub returns-in_err-started-clause-begun : goal.returns-in_err-started-clause-begun
returns-in_err-started-clause-begun g c =
    start_begun (asked (g.H.Host.told c.raise.new.host)) (asked (g.H.Host.told c.give.new.host))
    (asked (g.H.Host.told c.args.host.now))
    (asked_given (g.H.Host.told c.args.host.now) (g.H.Host.told c.raise.new.host) asks.Session
    c.raise.ensures.ordered)
    (asked_given (g.H.Host.told c.raise.new.host) (g.H.Host.told c.give.new.host) asks.Start c.give.ensures.ordered)

pub returns-then-lacks-clause-begun : goal.returns-then-lacks-clause-begun
returns-then-lacks-clause-begun g c =
    start_begun (asked (g.H.Host.told c.raise.new.host)) (asked (g.H.Host.told c.give.new.host))
    (asked (g.H.Host.told c.args.host.now))
    (asked_given (g.H.Host.told c.args.host.now) (g.H.Host.told c.raise.new.host) asks.Session
    c.raise.ensures.ordered)
    (asked_given (g.H.Host.told c.raise.new.host) (g.H.Host.told c.give.new.host) asks.Start c.give.ensures.ordered)

pub returns-clause-begun : goal.returns-clause-begun
returns-clause-begun g c =
    start_begun (asked (g.H.Host.told c.raise.new.host)) (asked (g.H.Host.told c.give.new.host))
    (asked (g.H.Host.told c.args.host.now))
    (asked_given (g.H.Host.told c.args.host.now) (g.H.Host.told c.raise.new.host) asks.Session
    c.raise.ensures.ordered)
    (asked_given (g.H.Host.told c.raise.new.host) (g.H.Host.told c.give.new.host) asks.Start c.give.ensures.ordered)

pub returns-then-lacks-clause-ordered : goal.returns-then-lacks-clause-ordered
returns-then-lacks-clause-ordered g c =
    started_behind (asked (g.H.Host.told c.raise.new.host)) (asked (g.H.Host.told c.give.new.host))
    (asked (g.H.Host.told c.args.host.now))
    (asked_given (g.H.Host.told c.args.host.now) (g.H.Host.told c.raise.new.host) asks.Session
    c.raise.ensures.ordered)
    (asked_given (g.H.Host.told c.raise.new.host) (g.H.Host.told c.give.new.host) asks.Start c.give.ensures.ordered)

pub returns-clause-ordered : goal.returns-clause-ordered
returns-clause-ordered g c =
    started_behind (asked (g.H.Host.told c.raise.new.host)) (asked (g.H.Host.told c.give.new.host))
    (asked (g.H.Host.told c.args.host.now))
    (asked_given (g.H.Host.told c.args.host.now) (g.H.Host.told c.raise.new.host) asks.Session
    c.raise.ensures.ordered)
    (asked_given (g.H.Host.told c.raise.new.host) (g.H.Host.told c.give.new.host) asks.Start c.give.ensures.ordered)

pub returns-in_err-raised-clause-standing : goal.returns-in_err-raised-clause-standing
returns-in_err-raised-clause-standing g c = begun_so (g.H.Host.told c.args.host.now)
    (g.H.Host.told c.raise.new.host) c.args.progress.now.core asks.Session c.requires.going.told.recorded
    c.raise.ensures.ordered

pub returns-in_err-started-clause-standing : goal.returns-in_err-started-clause-standing
returns-in_err-started-clause-standing g c =
    begun_so (g.H.Host.told c.raise.new.host) (g.H.Host.told c.give.new.host) c.raise.new.core asks.Start
    (told_left g.H.Disk.Disk c.raise.result (g.H.Host.told c.raise.new.host) c.raise.new.core
    c.raise.new.noticed c.raise.ensures.leaves).recorded c.give.ensures.ordered
    ∙ begun_so (g.H.Host.told c.args.host.now) (g.H.Host.told c.raise.new.host) c.args.progress.now.core asks.Session
    c.requires.going.told.recorded c.raise.ensures.ordered

pub returns-then-lacks-clause-standing : goal.returns-then-lacks-clause-standing
returns-then-lacks-clause-standing g c =
    begun_so (g.H.Host.told c.raise.new.host) (g.H.Host.told c.give.new.host) c.raise.new.core asks.Start
    (told_left g.H.Disk.Disk c.raise.result (g.H.Host.told c.raise.new.host) c.raise.new.core
    c.raise.new.noticed c.raise.ensures.leaves).recorded c.give.ensures.ordered
    ∙ begun_so (g.H.Host.told c.args.host.now) (g.H.Host.told c.raise.new.host) c.args.progress.now.core asks.Session
    c.requires.going.told.recorded c.raise.ensures.ordered

pub returns-clause-standing : goal.returns-clause-standing
returns-clause-standing g c =
    begun_so (g.H.Host.told c.raise.new.host) (g.H.Host.told c.give.new.host) c.raise.new.core asks.Start
    (told_left g.H.Disk.Disk c.raise.result (g.H.Host.told c.raise.new.host) c.raise.new.core
    c.raise.new.noticed c.raise.ensures.leaves).recorded c.give.ensures.ordered
    ∙ begun_so (g.H.Host.told c.args.host.now) (g.H.Host.told c.raise.new.host) c.args.progress.now.core asks.Session
    c.requires.going.told.recorded c.raise.ensures.ordered

pub returns-then-lacks-clause-first : goal.returns-then-lacks-clause-first
returns-then-lacks-clause-first g c = (
  commanded_before (g.H.Host.told c.raise.new.host) (g.H.Host.told c.give.new.host) c.raise.new.core asks.Start
      (told_left g.H.Disk.Disk c.raise.result (g.H.Host.told c.raise.new.host) c.raise.new.core
      c.raise.new.noticed c.raise.ensures.leaves).recorded c.give.ensures.ordered c.in_ok-raised.raised
      (unraised_so c.raise.new.core (sym c.session-lacks.ensures ∙ c.if-lacks.true))
      (commanded_so (g.H.Host.told c.args.host.now) (g.H.Host.told c.raise.new.host) c.args.progress.now.core
      asks.Session
      c.requires.going.told.recorded c.raise.ensures.ordered c.in_ok-raised.raised refl
      c.in_ok-raised.ensures.answered),
  c.in_ok-started.ensures.tried,
)

pub returns-clause-first : goal.returns-clause-first
returns-clause-first g c = (
  commanded_so (g.H.Host.told c.raise.new.host) (g.H.Host.told c.give.new.host) c.raise.new.core asks.Start
      (told_left g.H.Disk.Disk c.raise.result (g.H.Host.told c.raise.new.host) c.raise.new.core
      c.raise.new.noticed c.raise.ensures.leaves).recorded c.give.ensures.ordered c.in_ok-started.started
      (raised_so c.raise.new.core (λ none. c.if-lacks.false (c.session-lacks.ensures ∙ none)))
      c.in_ok-started.ensures.answered,
  c.in_ok-started.ensures.tried,
)

pub returns-in_err-raised-clause-holding : goal.returns-in_err-raised-clause-holding
returns-in_err-raised-clause-holding g c = λ f hold. hold.each

pub returns-in_err-raised-clause-leaves : goal.returns-in_err-raised-clause-leaves
unfolding servers
returns-in_err-raised-clause-leaves g c =
    let again : IsErrAnd c.from_residual.result (λ x. x ≡ c.in_err-raised.field-0.0) = search rules in
    ends_on g.H.Disk.Disk c.from_residual.result c.in_err-raised.field-0.0 (g.H.Host.told c.raise.new.host)
    (record c.args.progress.now { core = c.raise.new.core; noticed = c.raise.new.noticed }) again (record {
      told = c.in_err-raised.ensures.leaves.told;
      linked = still_linked (g.H.Host.told c.args.host.now) (g.H.Host.told c.raise.new.host)
          c.args.progress.now.links.items (still_of c.raise.ensures.serving) c.requires.going.linked;
      shown = c.in_err-raised.ensures.leaves.shown;
    })

pub returns-in_err-raised-clause-turning : goal.returns-in_err-raised-clause-turning
unfolding servers
returns-in_err-raised-clause-turning g c = turned_of c.raise.ensures.serving

pub returns-in_err-started-clause-leaves : goal.returns-in_err-started-clause-leaves
returns-in_err-started-clause-leaves g c =
    let again : IsErrAnd c.from_residual-in_err-started.result (λ x. x ≡ c.in_err-started.field-0.0) = search rules in
    ends_on g.H.Disk.Disk c.from_residual-in_err-started.result c.in_err-started.field-0.0
    (g.H.Host.told c.give.new.host) c.give.new.progress again
    c.in_err-started.ensures.leaves

pub returns-in_err-started-clause-turning : goal.returns-in_err-started-clause-turning
unfolding servers
returns-in_err-started-clause-turning g c = c.give.ensures.turning ∙ turned_of c.raise.ensures.serving

pub returns-then-lacks-clause-turning : goal.returns-then-lacks-clause-turning
unfolding servers
returns-then-lacks-clause-turning g c = c.give.ensures.turning ∙ turned_of c.raise.ensures.serving

pub returns-clause-turning : goal.returns-clause-turning
unfolding servers
returns-clause-turning g c = c.give.ensures.turning ∙ turned_of c.raise.ensures.serving

pub give-requires-clause-going : goal.give-requires-clause-going
give-requires-clause-going g c =
    known_on g.H.Disk.Disk (g.H.Host.told c.args.host.now) (g.H.Host.told c.raise.new.host) c.args.progress.now
    c.raise.new.core c.raise.new.noticed c.raise.ensures.serving c.requires.going.linked c.requires.going.served
    c.in_ok-raised.ensures.leaves
