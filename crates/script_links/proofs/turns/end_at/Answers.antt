use Rattle.std.proofs.Common.{◌∙◌, ap, refl}
use Rattle.script_model.specs.Notices.{notices}
use Rattle.script_container.specs.Servers.{turned, servers}
use Rattle.script_container.proofs.Noticed.{seen_still}
use Rattle.script_container.proofs.Servers.{quiet_of, still_of, turned_of}
use Rattle.script_links.specs.Links.{AreServed}
use Rattle.script_links.proofs.Going.{goes_by}
use Rattle.script_links.proofs.Linked.{ended_linked}
use Rattle.script_links.proofs.Served.{ended_served, on_ok}
use Rattle.script_links.proofs.turns.end_at.Goals as goal

pub reaped-requires-clause-ended : goal.reaped-requires-clause-ended
reaped-requires-clause-ended g c = (g.H.Host.told c.args.host.now, c.end.ensures, c.requires.told)

pub reaped-requires-clause-seen : goal.reaped-requires-clause-seen
reaped-requires-clause-seen g c = seen_still (notices (g.H.Host.told c.args.host.now))
    (notices (g.H.Host.told c.end.new.self)) c.args.progress.now.noticed (ap notices c.end.ensures) c.requires.seen

pub returns-clause-served : goal.returns-clause-served
unfolding servers
returns-clause-served g c =
    ended_served (g.H.Host.told c.args.host.now) (g.H.Host.told c.end.new.self) (g.H.Host.told c.reaped.new.host)
    c.args.progress.now.links.items c.remove-link.new.self.items c.args.place c.remove-link.result c.requires.within
    c.remove-link.ensures.value c.remove-link.ensures.items c.requires.told.single c.requires.linked
    c.end.ensures (quiet_of c.reaped.ensures.serving) c.requires.served

pub returns-clause-leaves : goal.returns-clause-leaves
unfolding servers
returns-clause-leaves g c =
    goes_by g.H.Disk.Disk c.reaped.result (g.H.Host.told c.reaped.new.host) _ c.reaped.ensures.leaves
    (λ s. still_of c.reaped.ensures.serving s
    ∙ ended_linked c.args.progress.now.links.items c.remove-link.new.self.items c.args.place c.remove-link.result
    c.requires.within c.remove-link.ensures.value c.remove-link.ensures.items c.end.ensures c.requires.linked s)
    (on_ok c.reaped.result (AreServed (g.H.Host.told c.reaped.new.host) c.remove-link.new.self.items)
    (returns-clause-served g c))

pub returns-clause-turning : goal.returns-clause-turning
unfolding servers turned
returns-clause-turning g c = turned_of c.reaped.ensures.serving ∙ ap turned c.end.ensures
