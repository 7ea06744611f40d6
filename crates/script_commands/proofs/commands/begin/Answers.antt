use Rattle.std.proofs.Common.{◌≡◌, ◌∙◌, ℕ, [], Some, ap, refl, subst, sym}
use Rattle.container_core.specs.Opening.{looked_at}
use Rattle.container_model.specs.Record.{Record}
use Rattle.script_links.specs.Ready.{AreReady}
use Rattle.script_links.proofs.Paces.{all_rested, single_linked, still_rested}
use Rattle.script_links.proofs.Served.{on_ok}
use Rattle.script_container.proofs.Servers.{handing_of, paced_of, turned_of}
use Rattle.script_links.proofs.Going.{goes_on, lacking_leaves}
use Rattle.script_model.specs.Bounds.{pace}
use Rattle.script_model.specs.Courses.{course}
use Rattle.script_model.specs.Errors.{behind_hold}
use Rattle.script_model.specs.Events.{running}
use Rattle.script_model.specs.Orders.{asked, behind_command, orders}
use Rattle.script_model.specs.Origins.{passed}
use Rattle.script_model.specs.declared.command.ScriptCommand.{ScriptCommand}
use Rattle.script_model.specs.declared.command.ScriptCommand.TheVariants as script
use Rattle.script_commands.proofs.Coursed.{asked_but_opening, asked_same, begun_but_opening, begun_same}
use Rattle.script_commands.proofs.Held.{as_command}
use Rattle.script_commands.proofs.Lines.{begins_idle, begins_unasked, begun_by, begun_screen, begun_with, ran_begun}
use Rattle.script_commands.proofs.Lines.{record_begun}
use Rattle.script_commands.proofs.Ordered.{as_begun, as_ordered, none_begun, none_ordered}
use Rattle.script_commands.specs.Lines.{IsCut, told_of_server}
use Rattle.script_opens.specs.Opening.{IsOpenTold}
use Rattle.script_commands.proofs.Handing.{none_handed, released}
use Rattle.script_container.specs.Servers.{servers, turned}
use Rattle.script_commands.proofs.commands.begin.Goals as goal

pub returns-in-Container-clause-ready : goal.returns-in-Container-clause-ready
unfolding turned
returns-in-Container-clause-ready g c =
    on_ok c.order.result (AreReady 1 (g.H.Host.told c.order.new.host) c.order.new.progress.links.items)
    (still_rested (g.H.Host.told c.args.host.now) (g.H.Host.told c.order.new.host) c.order.new.progress.links.items
    (paced_of c.order.ensures.turning) c.requires.rested)

pub returns-in-Open-clause-ready : goal.returns-in-Open-clause-ready
unfolding servers turned
returns-in-Open-clause-ready g c =
    on_ok c.open.result (AreReady 1 (g.H.Host.told c.open.new.host) c.args.progress.now.links.items)
    (still_rested (g.H.Host.told c.args.host.now) (g.H.Host.told c.open.new.host) c.args.progress.now.links.items
    (paced_of (turned_of c.open.ensures.serving)) c.requires.rested)

pub returns-in-Screen-clause-ready : goal.returns-in-Screen-clause-ready
returns-in-Screen-clause-ready g c = on_ok c.show.result
    (AreReady 1 (g.H.Host.told c.args.host.now) c.args.progress.now.links.items)
    (all_rested (g.H.Host.told c.args.host.now) c.args.progress.now.links.items c.requires.rested)

pub returns-in-Hold-clause-ready : goal.returns-in-Hold-clause-ready
returns-in-Hold-clause-ready g c = all_rested (g.H.Host.told c.args.host.now) c.hold_link.new.links.items
    c.requires.rested

pub returns-in-Container-clause-holding : goal.returns-in-Container-clause-holding
returns-in-Container-clause-holding g c = λ f hold. as_command f _ c.args.command c.order.new.progress.links.items
    c.in-Container.is (c.order.ensures.holding f hold)

pub returns-in-Cut-clause-holding : goal.returns-in-Cut-clause-holding
returns-in-Cut-clause-holding g c = λ f hold. as_command f _ c.args.command c.cut_link.new.progress.links.items
    c.in-Cut.is
    (c.cut_link.ensures.holding f hold.each)

pub returns-in-Hold-clause-holding : goal.returns-in-Hold-clause-holding
returns-in-Hold-clause-holding g c = λ f hold.
    as_command f _ c.args.command c.hold_link.new.links.items c.in-Hold.is
    (c.hold_link.ensures.holding f (single_linked (g.H.Host.told c.args.host.now) c.args.progress.now.links.items
    c.in-Hold.inc c.requires.going.told.single c.requires.going.linked) hold.each)

pub returns-in-Release-clause-holding : goal.returns-in-Release-clause-holding
returns-in-Release-clause-holding g c = λ f hold. as_command f _ c.args.command c.release_link.new.progress.links.items
    c.in-Release.is (c.release_link.ensures.holding f hold.each)

pub returns-in-Open-clause-holding : goal.returns-in-Open-clause-holding
returns-in-Open-clause-holding g c = λ f hold. as_command f _ c.args.command c.args.progress.now.links.items
    c.in-Open.is
    hold.each

pub returns-in-Screen-clause-holding : goal.returns-in-Screen-clause-holding
returns-in-Screen-clause-holding g c = λ f hold. as_command f _ c.args.command c.args.progress.now.links.items
    c.in-Screen.is
    hold.each

pub returns-in-Container-clause-ordered : goal.returns-in-Container-clause-ordered
returns-in-Container-clause-ordered g c =
    as_ordered c.args.command (script.Container c.in-Container.ordered) (orders (g.H.Host.told c.args.host.now))
    (orders (g.H.Host.told c.order.new.host)) c.in-Container.is c.order.result c.order.ensures.ordered

pub returns-in-Container-clause-begun : goal.returns-in-Container-clause-begun
returns-in-Container-clause-begun g c =
    as_begun c.args.command (script.Container c.in-Container.ordered) (orders (g.H.Host.told c.args.host.now))
    (orders (g.H.Host.told c.order.new.host)) c.in-Container.is c.order.ensures.begun

pub returns-in-Open-clause-ordered : goal.returns-in-Open-clause-ordered
returns-in-Open-clause-ordered g c =
    on_ok c.open.result (orders (g.H.Host.told c.open.new.host) ≡ behind_command c.args.command
    (orders (g.H.Host.told c.args.host.now)))
    (none_ordered c.args.command (asked (g.H.Host.told c.args.host.now)) (asked (g.H.Host.told c.open.new.host))
    (ap (λ (x : ScriptCommand). behind_command x (orders (g.H.Host.told c.args.host.now))) c.in-Open.is)
    (asked_but_opening (g.H.Host.told c.args.host.now) (g.H.Host.told c.open.new.host) c.open.ensures.ordered))

pub returns-in-Open-clause-begun : goal.returns-in-Open-clause-begun
returns-in-Open-clause-begun g c =
    none_begun c.args.command (asked (g.H.Host.told c.args.host.now)) (asked (g.H.Host.told c.open.new.host))
    (ap (λ (x : ScriptCommand). behind_command x (orders (g.H.Host.told c.args.host.now))) c.in-Open.is)
    (asked_but_opening (g.H.Host.told c.args.host.now) (g.H.Host.told c.open.new.host) c.open.ensures.ordered)

pub returns-in-Cut-clause-ordered : goal.returns-in-Cut-clause-ordered
returns-in-Cut-clause-ordered g c =
    on_ok c.cut_link.result (orders (g.H.Host.told c.cut_link.new.host) ≡ behind_command c.args.command
    (orders (g.H.Host.told c.args.host.now)))
    (none_ordered c.args.command (asked (g.H.Host.told c.args.host.now)) (asked (g.H.Host.told c.cut_link.new.host))
    (ap (λ (x : ScriptCommand). behind_command x (orders (g.H.Host.told c.args.host.now))) c.in-Cut.is)
    (asked_same (g.H.Host.told c.args.host.now) (g.H.Host.told c.cut_link.new.host) c.cut_link.ensures.ordered))

pub returns-in-Cut-clause-begun : goal.returns-in-Cut-clause-begun
returns-in-Cut-clause-begun g c =
    none_begun c.args.command (asked (g.H.Host.told c.args.host.now)) (asked (g.H.Host.told c.cut_link.new.host))
    (ap (λ (x : ScriptCommand). behind_command x (orders (g.H.Host.told c.args.host.now))) c.in-Cut.is)
    (asked_same (g.H.Host.told c.args.host.now) (g.H.Host.told c.cut_link.new.host) c.cut_link.ensures.ordered)

pub returns-in-Release-clause-ordered : goal.returns-in-Release-clause-ordered
returns-in-Release-clause-ordered g c =
    on_ok c.release_link.result (orders (g.H.Host.told c.release_link.new.host)
    ≡ behind_command c.args.command (orders (g.H.Host.told c.args.host.now)))
    (none_ordered c.args.command (asked (g.H.Host.told c.args.host.now))
    (asked (g.H.Host.told c.release_link.new.host))
    (ap (λ (x : ScriptCommand). behind_command x (orders (g.H.Host.told c.args.host.now))) c.in-Release.is)
    (asked_same (g.H.Host.told c.args.host.now) (g.H.Host.told c.release_link.new.host)
    c.release_link.ensures.ordered))

pub returns-in-Release-clause-begun : goal.returns-in-Release-clause-begun
returns-in-Release-clause-begun g c =
    none_begun c.args.command (asked (g.H.Host.told c.args.host.now))
    (asked (g.H.Host.told c.release_link.new.host))
    (ap (λ (x : ScriptCommand). behind_command x (orders (g.H.Host.told c.args.host.now))) c.in-Release.is)
    (asked_same (g.H.Host.told c.args.host.now) (g.H.Host.told c.release_link.new.host)
    c.release_link.ensures.ordered)

pub returns-in-Screen-clause-ordered : goal.returns-in-Screen-clause-ordered
returns-in-Screen-clause-ordered g c =
    on_ok c.show.result (orders (g.H.Host.told c.args.host.now) ≡ behind_command c.args.command
    (orders (g.H.Host.told c.args.host.now)))
    (none_ordered c.args.command (asked (g.H.Host.told c.args.host.now)) (asked (g.H.Host.told c.args.host.now))
    (ap (λ (x : ScriptCommand). behind_command x (orders (g.H.Host.told c.args.host.now))) c.in-Screen.is) refl)

pub returns-in-Screen-clause-begun : goal.returns-in-Screen-clause-begun
returns-in-Screen-clause-begun g c =
    none_begun c.args.command (asked (g.H.Host.told c.args.host.now)) (asked (g.H.Host.told c.args.host.now))
    (ap (λ (x : ScriptCommand). behind_command x (orders (g.H.Host.told c.args.host.now))) c.in-Screen.is) refl

pub returns-in-Hold-clause-ordered : goal.returns-in-Hold-clause-ordered
returns-in-Hold-clause-ordered g c =
    none_ordered c.args.command (asked (g.H.Host.told c.args.host.now)) (asked (g.H.Host.told c.args.host.now))
    (ap (λ (x : ScriptCommand). behind_command x (orders (g.H.Host.told c.args.host.now))) c.in-Hold.is) refl

pub returns-in-Hold-clause-begun : goal.returns-in-Hold-clause-begun
returns-in-Hold-clause-begun g c =
    none_begun c.args.command (asked (g.H.Host.told c.args.host.now)) (asked (g.H.Host.told c.args.host.now))
    (ap (λ (x : ScriptCommand). behind_command x (orders (g.H.Host.told c.args.host.now))) c.in-Hold.is) refl

pub order-requires-clause-idle : goal.order-requires-clause-idle
order-requires-clause-idle g c = begins_idle (g.H.Host.told c.args.host.now) c.requires.begins

pub open-requires-clause-unasked : goal.open-requires-clause-unasked
open-requires-clause-unasked g c = begins_unasked (g.H.Host.told c.args.host.now) c.requires.begins

pub returns-in-Open-clause-standing : goal.returns-in-Open-clause-standing
returns-in-Open-clause-standing g c = begun_but_opening (g.H.Host.told c.args.host.now)
    (g.H.Host.told c.open.new.host) c.open.ensures.ordered

pub returns-in-Cut-clause-standing : goal.returns-in-Cut-clause-standing
returns-in-Cut-clause-standing g c = begun_same (g.H.Host.told c.args.host.now) (g.H.Host.told c.cut_link.new.host)
    c.cut_link.ensures.ordered

pub returns-in-Release-clause-standing : goal.returns-in-Release-clause-standing
returns-in-Release-clause-standing g c = begun_same (g.H.Host.told c.args.host.now)
    (g.H.Host.told c.release_link.new.host) c.release_link.ensures.ordered

pub returns-in-Container-clause-first : goal.returns-in-Container-clause-first
returns-in-Container-clause-first g c =
    begun_by g.H.Disk.Disk (g.H.Host.told c.args.host.now) (g.H.Host.told c.order.new.host) c.requires.begins
    c.order.ensures.standing c.order.result c.args.command (script.Container c.in-Container.ordered)
    c.args.text.now.items c.args.text.now.items
    (λ t. ((course (g.H.Host.told c.order.new.host)).commanded ≡ Some t)
    × ((course (g.H.Host.told c.order.new.host)).unstarted ≡ [])) c.in-Container.is refl
    (λ t p. (refl, p.0, p.1)) c.order.ensures.first

pub returns-in-Open-clause-first : goal.returns-in-Open-clause-first
returns-in-Open-clause-first g c =
    let o = (course (g.H.Host.told c.open.new.host)).opening in
    begun_by g.H.Disk.Disk (g.H.Host.told c.args.host.now) (g.H.Host.told c.open.new.host) c.requires.begins
    (begun_but_opening (g.H.Host.told c.args.host.now) (g.H.Host.told c.open.new.host) c.open.ensures.ordered)
    c.open.result c.args.command
    (script.Open c.in-Open.name c.in-Open.width c.in-Open.height) c.args.text.now.items c.args.text.now.items
    (λ t. IsOpenTold g.H.Disk.Disk (looked_at c.args.progress.now.core c.in-Open.name c.in-Open.width c.in-Open.height)
    c.in-Open.name c.in-Open.width c.in-Open.height o t) c.in-Open.is refl
    (λ t p. (
      refl,
      subst (λ (r : Record). IsOpenTold g.H.Disk.Disk
          (looked_at r c.in-Open.name c.in-Open.width c.in-Open.height) c.in-Open.name c.in-Open.width
          c.in-Open.height o t) (record_begun (g.H.Host.told c.args.host.now) c.requires.begins c.args.progress.now.core
          c.requires.going.told.recorded) p,
    ))
    c.open.ensures.first

pub returns-in-Screen-clause-first : goal.returns-in-Screen-clause-first
returns-in-Screen-clause-first g c =
    begun_screen g.H.Disk.Disk (g.H.Host.told c.args.host.now) (g.H.Host.told c.args.host.now) c.requires.begins
    refl c.show.result c.args.command c.in-Screen.frame c.args.progress.now.core c.args.text.now.items
    c.show.new.text.items c.in-Screen.is
    (record_begun (g.H.Host.told c.args.host.now) c.requires.begins c.args.progress.now.core
    c.requires.going.told.recorded)
    c.show.ensures.first

pub returns-in-Cut-clause-first : goal.returns-in-Cut-clause-first
returns-in-Cut-clause-first g c =
    let ran = ran_begun (g.H.Host.told c.args.host.now) c.requires.begins c.in-Cut.inc in
    let links = (pace c.in-Cut.inc (g.H.Host.told c.cut_link.new.host)).links in
    begun_by g.H.Disk.Disk (g.H.Host.told c.args.host.now) (g.H.Host.told c.cut_link.new.host) c.requires.begins
    (begun_same (g.H.Host.told c.args.host.now) (g.H.Host.told c.cut_link.new.host) c.cut_link.ensures.ordered)
    c.cut_link.result c.args.command
    (script.Cut c.in-Cut.inc) c.args.text.now.items c.args.text.now.items
    (λ t. (t ≡ told_of_server (running c.in-Cut.inc (g.H.Host.told c.args.host.now)))
    × IsCut (running c.in-Cut.inc (g.H.Host.told c.args.host.now)) links) c.in-Cut.is refl
    (λ t p. (refl, p.0 ∙ ap told_of_server ran, subst (λ (n : ℕ). IsCut n links) ran p.1)) c.cut_link.ensures.first

pub returns-in-Hold-clause-first : goal.returns-in-Hold-clause-first
returns-in-Hold-clause-first g c =
    let ran = ran_begun (g.H.Host.told c.args.host.now) c.requires.begins c.in-Hold.inc in
    begun_with g.H.Disk.Disk (g.H.Host.told c.args.host.now) (g.H.Host.told c.args.host.now) c.requires.begins refl
    c.args.command (script.Hold c.in-Hold.inc) c.args.text.now.items c.args.text.now.items c.hold_link.result
    c.in-Hold.is refl (
      refl,
      c.hold_link.ensures.first (running c.in-Hold.inc (g.H.Host.told c.args.host.now))
          (c.requires.going.linked c.in-Hold.inc) ∙ ap told_of_server ran,
    )

pub returns-in-Release-clause-first : goal.returns-in-Release-clause-first
returns-in-Release-clause-first g c =
    let ran = ran_begun (g.H.Host.told c.args.host.now) c.requires.begins c.in-Release.inc in
    begun_by g.H.Disk.Disk (g.H.Host.told c.args.host.now) (g.H.Host.told c.release_link.new.host) c.requires.begins
    (begun_same (g.H.Host.told c.args.host.now) (g.H.Host.told c.release_link.new.host)
    c.release_link.ensures.ordered) c.release_link.result c.args.command
    (script.Release c.in-Release.inc) c.args.text.now.items c.args.text.now.items
    (λ t. t ≡ told_of_server (running c.in-Release.inc (g.H.Host.told c.args.host.now))) c.in-Release.is refl
    (λ t p. (refl, p ∙ ap told_of_server ran)) c.release_link.ensures.first

pub returns-in-Container-clause-handing : goal.returns-in-Container-clause-handing
unfolding turned
returns-in-Container-clause-handing g c = λ f. handing_of c.order.ensures.turning
    (λ s. behind_hold c.args.command s (f s))
    ∙ none_handed (g.H.Host.told c.args.host.now) c.requires.begins (λ s. behind_hold c.args.command s (f s))

pub returns-in-Open-clause-handing : goal.returns-in-Open-clause-handing
unfolding servers turned
returns-in-Open-clause-handing g c = λ f. handing_of (turned_of c.open.ensures.serving)
    (λ s. behind_hold c.args.command s (f s))
    ∙ none_handed (g.H.Host.told c.args.host.now) c.requires.begins (λ s. behind_hold c.args.command s (f s))

pub returns-in-Screen-clause-handing : goal.returns-in-Screen-clause-handing
returns-in-Screen-clause-handing g c = λ f. none_handed (g.H.Host.told c.args.host.now) c.requires.begins
    (λ s. behind_hold c.args.command s (f s))

pub returns-in-Cut-clause-handing : goal.returns-in-Cut-clause-handing
returns-in-Cut-clause-handing g c = λ f. c.cut_link.ensures.handing (λ s. behind_hold c.args.command s (f s))
    ∙ none_handed (g.H.Host.told c.args.host.now) c.requires.begins (λ s. behind_hold c.args.command s (f s))

pub returns-in-Hold-clause-handing : goal.returns-in-Hold-clause-handing
returns-in-Hold-clause-handing g c = λ f. none_handed (g.H.Host.told c.args.host.now) c.requires.begins
    (λ s. behind_hold c.args.command s (f s))

pub returns-in-Release-clause-handing : goal.returns-in-Release-clause-handing
returns-in-Release-clause-handing g c = λ f.
    c.release_link.ensures.handing (λ s. behind_hold c.args.command s (f s))
    (released c.args.command c.in-Release.inc (f c.in-Release.inc) c.in-Release.is)
    ∙ none_handed (g.H.Host.told c.args.host.now) c.requires.begins (λ s. behind_hold c.args.command s (f s))

pub returns-in-Hold-clause-leaves : goal.returns-in-Hold-clause-leaves
returns-in-Hold-clause-leaves g c = record {
  told = c.requires.going.told;
  linked = λ s. c.requires.going.linked s ∙ sym (c.hold_link.ensures.same s);
  served = c.hold_link.ensures.served (λ s. passed s (g.H.Host.told c.args.host.now)) c.requires.going.served;
  seen = c.requires.going.seen;
}

pub returns-in-Open-clause-leaves : goal.returns-in-Open-clause-leaves
returns-in-Open-clause-leaves g c =
    goes_on g.H.Disk.Disk c.open.result (g.H.Host.told c.args.host.now) (g.H.Host.told c.open.new.host)
    c.args.progress.now c.open.new.core c.args.progress.now.noticed c.open.ensures.serving c.requires.going.linked
    c.requires.going.served
    (lacking_leaves g.H.Disk.Disk c.open.result (g.H.Host.told c.args.host.now) (g.H.Host.told c.open.new.host)
    c.open.new.core c.args.progress.now.noticed c.open.ensures.told c.open.ensures.noticed c.requires.going.seen
    c.open.ensures.lacking)

pub returns-in-Screen-clause-leaves : goal.returns-in-Screen-clause-leaves
returns-in-Screen-clause-leaves g c =
    let here = g.H.Host.told c.args.host.now in
    goes_on g.H.Disk.Disk c.show.result here here c.args.progress.now c.args.progress.now.core
    c.args.progress.now.noticed refl c.requires.going.linked c.requires.going.served
    (lacking_leaves g.H.Disk.Disk c.show.result here here c.args.progress.now.core c.args.progress.now.noticed
    c.requires.going.told refl c.requires.going.seen c.show.ensures.lacking)
