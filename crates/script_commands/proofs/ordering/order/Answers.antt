use Rattle.std.proofs.Common.{◌≡◌, ◌∙◌, sym}
use Rattle.script_model.specs.Containers.{record_of}
use Rattle.script_model.specs.Orders.{asked, behind_given, orders}
use Rattle.script_links.proofs.Served.{on_ok}
use Rattle.script_commands.proofs.Coursed.{asked_given}
use Rattle.script_commands.proofs.Lines.{begun_so, first_given, none_raised}
use Rattle.script_commands.proofs.Ordered.{alone_begun, given_alone, is_begun, is_given, readied_at}
use Rattle.script_commands.proofs.ordering.order.Goals as goal

pub give-requires-clause-readied : goal.give-requires-clause-readied
give-requires-clause-readied g c =
    readied_at c.args.ordered c.args.progress.now.core (record_of (g.H.Host.told c.args.host.now))
    (asked (g.H.Host.told c.args.host.now)) c.requires.going.told.recorded
    (c.is_first_start.ensures.other (asked (g.H.Host.told c.args.host.now)) c.if-is_first_start.false)

pub start_first-requires-clause-none : goal.start_first-requires-clause-none
start_first-requires-clause-none g c = none_raised c.args.progress.now.core c.args.ordered
    (sym c.is_first_start.ensures.exact ∙ c.if-is_first_start.true)

pub returns-then-is_first_start-clause-ordered : goal.returns-then-is_first_start-clause-ordered
returns-then-is_first_start-clause-ordered g c =
    is_given c.start_first.result c.args.ordered (orders (g.H.Host.told c.args.host.now))
    (orders (g.H.Host.told c.start_first.new.host)) (c.is_first_start.ensures.first c.if-is_first_start.true)
    c.start_first.ensures.ordered

pub returns-then-is_first_start-clause-begun : goal.returns-then-is_first_start-clause-begun
returns-then-is_first_start-clause-begun g c =
    is_begun c.args.ordered (orders (g.H.Host.told c.args.host.now)) (orders (g.H.Host.told c.start_first.new.host))
    (c.is_first_start.ensures.first c.if-is_first_start.true) c.start_first.ensures.begun

pub returns-clause-ordered : goal.returns-clause-ordered
returns-clause-ordered g c =
    on_ok c.give.result (orders (g.H.Host.told c.give.new.host) ≡ behind_given c.args.ordered
    (orders (g.H.Host.told c.args.host.now)))
    (given_alone c.args.ordered (asked (g.H.Host.told c.give.new.host)) (asked (g.H.Host.told c.args.host.now))
    (asked_given (g.H.Host.told c.args.host.now) (g.H.Host.told c.give.new.host) c.args.ordered
    c.give.ensures.ordered))

pub returns-clause-begun : goal.returns-clause-begun
returns-clause-begun g c = alone_begun c.args.ordered (asked (g.H.Host.told c.give.new.host))
    (asked (g.H.Host.told c.args.host.now))
    (asked_given (g.H.Host.told c.args.host.now) (g.H.Host.told c.give.new.host) c.args.ordered
    c.give.ensures.ordered)

pub returns-clause-standing : goal.returns-clause-standing
returns-clause-standing g c = begun_so (g.H.Host.told c.args.host.now) (g.H.Host.told c.give.new.host)
    c.args.progress.now.core c.args.ordered c.requires.going.told.recorded c.give.ensures.ordered

pub returns-clause-first : goal.returns-clause-first
returns-clause-first g c =
    first_given (g.H.Host.told c.args.host.now) (g.H.Host.told c.give.new.host) c.args.progress.now.core c.args.ordered
    c.requires.going.told.recorded c.give.ensures.ordered c.give.result
    (sym c.is_first_start.ensures.exact ∙ c.if-is_first_start.false) c.give.ensures.answered
    c.give.ensures.tried
