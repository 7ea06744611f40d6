use Rattle.std.proofs.Common.{◌≡◌, ◌≤◌, ◌<◌, ℕ, length, ap, sym, subst, ◌∙◌, rules, slice_index_or, false}
use Rattle.script_model.specs.Bounds.{linking, pace}
use Rattle.script_links.specs.declared.links.Link.{Link}
use Rattle.script_links.specs.Ready.{AreReady, MayLink, pace_beside}
use Rattle.script_links.proofs.Paces.{any_at, cut_ended, cut_may, cut_ready, none_ended, rests_within}
use Rattle.script_links.proofs.Served.{on_ok, same_served}
use Rattle.std.specs.Result.{IsErrAnd}
use Rattle.script_model.specs.Notices.{notices}
use Rattle.script_model.specs.Origins.{passed}
use Rattle.script_container.proofs.Noticed.{seen_still}
use Rattle.script_container.proofs.Servers.{handing_of, paced_of}
use Rattle.script_links.proofs.Apart.{aside_of, still_apart}
use Rattle.script_links.proofs.Going.{ends_on}
use Rattle.script_commands.proofs.Lines.{one_link}
use Rattle.script_container.specs.Servers.{turned}
use Rattle.script_links.specs.Apart.{others}
use Rattle.script_commands.proofs.cutting.cut.Goals as goal

pub send_turn-requires-clause-within : goal.send_turn-requires-clause-within
send_turn-requires-clause-within g c = rests_within (g.H.Host.told c.args.host.now) c.index.result.now.inc
    c.requires.rested

pub reconnect_at-requires-clause-may : goal.reconnect_at-requires-clause-may
reconnect_at-requires-clause-may g c = λ d.
    subst (λ (l : Link). MayLink (pace l.inc (g.H.Host.told c.send_turn.new.host)))
    (c.index.ensures ∙ any_at c.args.progress.now.links.items c.args.place c.index.result.now d c.requires.within)
    (cut_may (g.H.Host.told c.args.host.now) (g.H.Host.told c.send_turn.new.host) c.index.result.now.inc
    c.requires.rested c.in_ok-send_turn.ensures.sent)

pub returns-then-made-clause-ready : goal.returns-then-made-clause-ready
unfolding others
returns-then-made-clause-ready g c =
    cut_ready (g.H.Host.told c.args.host.now) (g.H.Host.told c.send_turn.new.host)
    (g.H.Host.told c.reconnect_at.new.host) c.index.result.now.inc c.requires.rested
    (aside_of (c.send_turn.ensures.apart false))
    (subst (λ (l : Link). (s : ℕ) → pace_beside l.inc s (g.H.Host.told c.reconnect_at.new.host)
    ≡ pace_beside l.inc s (g.H.Host.told c.send_turn.new.host)) (sym c.index.ensures)
    (c.reconnect_at.ensures.aside c.index.result.now))
    c.reconnect_at.new.progress.links.items c.in_ok-made.made c.if-made.true c.in_ok-send_turn.ensures.sent
    (subst (λ (l : Link). pace l.inc (g.H.Host.told c.reconnect_at.new.host)
    ≡ linking c.in_ok-made.made (pace l.inc (g.H.Host.told c.send_turn.new.host))) (sym c.index.ensures)
    (c.in_ok-made.ensures.made c.index.result.now))

pub returns-clause-ready : goal.returns-clause-ready
unfolding others turned
returns-clause-ready g c =
    let within : c.args.place < length c.reconnect_at.new.progress.links.items =
    subst (λ (k : ℕ). c.args.place < k) (sym c.reconnect_at.ensures.many) c.requires.within in
    let none = none_ended (g.H.Host.told c.reconnect_at.new.host) c.reconnect_at.new.progress.links.items
    c.end_at.new.progress.links.items c.args.place c.index.result.now.inc c.index.result.now within
    (c.reconnect_at.ensures.same c.index.result.now ∙ ap (λ (l : Link). l.inc) (sym c.index.ensures))
    c.in_ok-made.ensures.leaves.told.single c.in_ok-made.ensures.leaves.linked
    c.end_at.ensures.rest in
    on_ok c.end_at.result (AreReady 1 (g.H.Host.told c.end_at.new.host) c.end_at.new.progress.links.items)
    (cut_ended (g.H.Host.told c.args.host.now) (g.H.Host.told c.send_turn.new.host)
    (g.H.Host.told c.reconnect_at.new.host) c.index.result.now.inc c.requires.rested
    (aside_of (c.send_turn.ensures.apart false))
    (subst (λ (l : Link). (s : ℕ) → pace_beside l.inc s (g.H.Host.told c.reconnect_at.new.host)
    ≡ pace_beside l.inc s (g.H.Host.told c.send_turn.new.host)) (sym c.index.ensures)
    (c.reconnect_at.ensures.aside c.index.result.now))
    (g.H.Host.told c.end_at.new.host) c.end_at.new.progress.links.items (paced_of c.end_at.ensures.turning) none)

pub returns-clause-holding : goal.returns-clause-holding
returns-clause-holding g c = λ f hold. c.end_at.ensures.holding f (c.reconnect_at.ensures.holding f hold)

pub returns-then-made-clause-anew : goal.returns-then-made-clause-anew
returns-then-made-clause-anew g c = λ d.
    let inc = (slice_index_or c.args.progress.now.links.items c.args.place d).inc in
    one_link (pace inc (g.H.Host.told c.send_turn.new.host)) (pace inc (g.H.Host.told c.reconnect_at.new.host))
    c.in_ok-made.made (c.in_ok-made.ensures.made d)

pub returns-clause-anew : goal.returns-clause-anew
unfolding turned
returns-clause-anew g c = λ d.
    let inc = (slice_index_or c.args.progress.now.links.items c.args.place d).inc in
    on_ok c.end_at.result (1 ≤ (pace inc (g.H.Host.told c.end_at.new.host)).links)
    (one_link (pace inc (g.H.Host.told c.send_turn.new.host)) (pace inc (g.H.Host.told c.end_at.new.host))
    c.in_ok-made.made (paced_of c.end_at.ensures.turning inc ∙ c.in_ok-made.ensures.made d))

pub reconnect_at-requires-clause-going : goal.reconnect_at-requires-clause-going
unfolding others
reconnect_at-requires-clause-going g c = record {
  told = c.send_turn.ensures.told;
  linked = λ s. still_apart (c.send_turn.ensures.apart false) s ∙ c.requires.going.linked s;
  served = same_served (λ s. passed s (g.H.Host.told c.args.host.now))
      (λ s. passed s (g.H.Host.told c.send_turn.new.host))
      c.args.progress.now.links.items c.send_turn.ensures.quiet c.requires.going.served;
  seen = seen_still (notices (g.H.Host.told c.args.host.now)) (notices (g.H.Host.told c.send_turn.new.host))
      c.args.progress.now.noticed c.send_turn.ensures.noticed c.requires.going.seen;
}

pub returns-in_err-send_turn-clause-leaves : goal.returns-in_err-send_turn-clause-leaves
unfolding others
returns-in_err-send_turn-clause-leaves g c =
    let again : IsErrAnd c.from_residual.result (λ x. x ≡ c.in_err-send_turn.field-0.0) = search rules in
    ends_on g.H.Disk.Disk c.from_residual.result c.in_err-send_turn.field-0.0 (g.H.Host.told c.send_turn.new.host)
    c.args.progress.now again (record {
      told = c.send_turn.ensures.told;
      linked = λ s. still_apart (c.send_turn.ensures.apart false) s ∙ c.requires.going.linked s;
      shown = c.in_err-send_turn.ensures.shown;
    })

pub returns-in_err-made-clause-leaves : goal.returns-in_err-made-clause-leaves
returns-in_err-made-clause-leaves g c =
    let again : IsErrAnd c.from_residual-in_err-made.result (λ x. x ≡ c.in_err-made.field-0.0) = search rules in
    ends_on g.H.Disk.Disk c.from_residual-in_err-made.result c.in_err-made.field-0.0
    (g.H.Host.told c.reconnect_at.new.host) c.reconnect_at.new.progress again c.in_err-made.ensures.leaves

pub returns-clause-handing : goal.returns-clause-handing
unfolding turned
returns-clause-handing g c = λ f. handing_of c.end_at.ensures.turning f ∙ c.reconnect_at.ensures.handing f
    ∙ c.send_turn.ensures.handing f
