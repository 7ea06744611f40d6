use Rattle.std.proofs.Common.{◌≡◌, ℕ, ap, false, subst, sym, ◌∙◌}
use Rattle.std.specs.Prelude.{MatchResult}
use Rattle.script_model.specs.Bounds.{linking, pace}
use Rattle.script_links.specs.declared.links.Link.{Link}
use Rattle.script_links.specs.Ready.{MayLink, pace_beside}
use Rattle.script_links.proofs.Linked.{same_links}
use Rattle.script_links.proofs.Paces.{any_at, set_at}
use Rattle.script_links.proofs.Served.{on_ok, placed_served}
use Rattle.script_links.specs.Links.{AreServed}
use Rattle.script_links.proofs.Apart.{apart_of, aside_of, ordered_of, still_apart}
use Rattle.script_links.proofs.Going.{goes_by, lacking_leaves}
use Rattle.script_links.proofs.Shown.{hold_set}
use Rattle.script_links.specs.Apart.{others}
use Rattle.script_commands.proofs.cutting.reconnect_at.Goals as goal

pub returns-clause-same : goal.returns-clause-same
returns-clause-same g c = λ d.
    ap (λ (l : Link). l.inc) (set_at c.args.progress.now.links.items c.args.place c.reconnect.new.link d
    c.requires.within)
    ∙ c.reconnect.ensures.same
    ∙ ap (λ (l : Link). l.inc) (c.index_mut.ensures.value ∙ any_at c.args.progress.now.links.items c.args.place
    c.index_mut.result.now d c.requires.within)

pub reconnect-requires-clause-may : goal.reconnect-requires-clause-may
reconnect-requires-clause-may g c = subst (λ (l : Link). MayLink (pace l.inc (g.H.Host.told c.args.host.now)))
    (sym c.index_mut.ensures.value) (c.requires.may c.index_mut.result.now)

pub returns-clause-aside : goal.returns-clause-aside
unfolding others
returns-clause-aside g c = λ d.
    subst (λ (l : Link). (s : ℕ) → pace_beside l.inc s (g.H.Host.told c.reconnect.new.host)
    ≡ pace_beside l.inc s (g.H.Host.told c.args.host.now))
    (c.index_mut.ensures.value ∙ any_at c.args.progress.now.links.items c.args.place c.index_mut.result.now d
    c.requires.within) (aside_of c.reconnect.ensures.apart)

pub returns-clause-made : goal.returns-clause-made
returns-clause-made g c = λ d.
    subst (λ (l : Link). MatchResult c.reconnect.result (λ made. pace l.inc (g.H.Host.told c.reconnect.new.host)
    ≡ linking made (pace l.inc (g.H.Host.told c.args.host.now)))
    (λ _. pace l.inc (g.H.Host.told c.reconnect.new.host)
    ≡ linking false (pace l.inc (g.H.Host.told c.args.host.now))))
    (c.index_mut.ensures.value ∙ any_at c.args.progress.now.links.items c.args.place c.index_mut.result.now d
    c.requires.within)
    (subst (λ (i : ℕ). MatchResult c.reconnect.result (λ made. pace i (g.H.Host.told c.reconnect.new.host)
    ≡ linking made (pace c.index_mut.result.now.inc (g.H.Host.told c.args.host.now)))
    (λ _. pace i (g.H.Host.told c.reconnect.new.host) ≡ linking false
    (pace c.index_mut.result.now.inc (g.H.Host.told c.args.host.now))))
    c.reconnect.ensures.same c.reconnect.ensures.linked)

pub returns-clause-holding : goal.returns-clause-holding
returns-clause-holding g c = λ f hold.
    hold_set f c.args.progress.now.links.items c.args.place c.reconnect.new.link c.index_mut.result.now
    c.requires.within
    (c.reconnect.ensures.same ∙ ap (λ (l : Link). l.inc) c.index_mut.ensures.value)
    (c.reconnect.ensures.holding ∙ ap (λ (l : Link). l.held) c.index_mut.ensures.value) hold

pub returns-clause-leaves : goal.returns-clause-leaves
unfolding others
returns-clause-leaves g c =
    goes_by g.H.Disk.Disk c.reconnect.result (g.H.Host.told c.reconnect.new.host) _
    (lacking_leaves g.H.Disk.Disk c.reconnect.result (g.H.Host.told c.args.host.now)
    (g.H.Host.told c.reconnect.new.host) c.args.progress.now.core c.args.progress.now.noticed
    (c.reconnect.ensures.told c.args.progress.now.core c.requires.going.told) c.reconnect.ensures.noticed
    c.requires.going.seen c.reconnect.ensures.lacking)
    (λ s.
    still_apart c.reconnect.ensures.apart s ∙ c.requires.going.linked s
    ∙ sym (same_links s c.args.progress.now.links.items c.args.place _ c.index_mut.result.now c.requires.within
    (c.reconnect.ensures.same ∙ ap (λ (l : Link). l.inc) c.index_mut.ensures.value)))
    (on_ok c.reconnect.result (AreServed (g.H.Host.told c.reconnect.new.host) _)
    (placed_served (g.H.Host.told c.args.host.now) (g.H.Host.told c.reconnect.new.host) c.args.progress.now.links.items
    c.args.place c.index_mut.result.now c.reconnect.new.link c.requires.within c.index_mut.ensures.value
    c.requires.going.told.single c.requires.going.linked c.reconnect.ensures.same
    (apart_of c.reconnect.ensures.apart) c.reconnect.ensures.served c.requires.going.served))

pub returns-clause-ordered : goal.returns-clause-ordered
unfolding others
returns-clause-ordered g c = ordered_of c.reconnect.ensures.apart
