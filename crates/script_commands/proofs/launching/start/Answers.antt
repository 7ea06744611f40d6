use Rattle.std.proofs.Common.{◌≡◌, ◌<◌, ◌++◌, ◌∷◌, [], List, ap, length, subst, sym, ◌∙◌, rules}
use Rattle.script_links.specs.Links.{IsLinkAt, links_of}
use Rattle.script_links.specs.declared.links.Link.{Link}
use Rattle.script_links.proofs.Linked.{started_linked}
use Rattle.script_links.proofs.Served.{started_served}
use Rattle.script_commands.proofs.Held.{held_same, held_with, linked_there}
use Rattle.script_commands.proofs.Starting.{linked_runs, runs_already}
use Rattle.script_model.specs.Notices.{notices}
use Rattle.script_container.specs.Servers.{turned}
use Rattle.script_container.proofs.Noticed.{seen_still}
use Rattle.script_commands.proofs.Told.{started_told}
use Rattle.script_commands.proofs.launching.start.Goals as goal

pub returns-in-Ok-clause-leaves : goal.returns-in-Ok-clause-leaves
returns-in-Ok-clause-leaves g c =
    let with_one : c.add.new.list.items ≡ c.args.progress.now.links.items ++ c.new.result ∷ [] = search rules in
    let none : links_of c.args.inc c.args.progress.now.links.items ≡ 0 =
    ap (links_of c.args.inc) (sym c.deref.ensures.value) ∙ c.in-None.ensures.none in
    record {
      told = started_told g.H.Disk.Disk (g.H.Host.told c.args.host.now) (g.H.Host.told c.start.new.self)
          c.args.progress.now.core c.args.progress.now.links.items c.session-session.result c.args.inc
          c.session-session.ensures c.requires.session none c.requires.going.linked c.in-Ok.ensures
          c.requires.going.told;
      linked = started_linked c.session-session.result c.args.inc c.new.result _ _ c.in-Ok.ensures
          c.new.ensures.server with_one c.requires.going.linked;
      served = started_served (g.H.Host.told c.args.host.now) (g.H.Host.told c.start.new.self)
          c.args.progress.now.links.items c.add.new.list.items c.session-session.result c.args.inc c.new.result none
          c.new.ensures.server c.new.ensures.served c.in-Ok.ensures with_one c.requires.going.served;
      seen = seen_still (notices (g.H.Host.told c.args.host.now)) (notices (g.H.Host.told c.start.new.self))
          c.args.progress.now.noticed (ap notices c.in-Ok.ensures) c.requires.going.seen;
    }

pub returns-in-Some-clause-tried : goal.returns-in-Some-clause-tried
returns-in-Some-clause-tried g c =
    runs_already c.args.inc (g.H.Host.told c.args.host.now)
    (linked_runs c.args.inc (g.H.Host.told c.args.host.now) c.args.progress.now.links.items c.requires.going.linked
    (linked_there c.args.inc c.args.progress.now.links.items c.in-Some.field-0
    (subst (λ (ls : List Link). c.in-Some.field-0 < length ls) c.deref.ensures.value c.in-Some.ensures.within)
    (subst (λ (ls : List Link). IsLinkAt ls c.in-Some.field-0 c.args.inc) c.deref.ensures.value
    c.in-Some.ensures.there)))

pub returns-in-Ok-clause-holding : goal.returns-in-Ok-clause-holding
returns-in-Ok-clause-holding g c = λ f held.
    let with_one : c.add.new.list.items ≡ c.args.progress.now.links.items ++ c.new.result ∷ [] = search rules in
    let none : links_of c.args.inc c.args.progress.now.links.items
    ≡ 0 = ap (links_of c.args.inc) (sym c.deref.ensures.value)
    ∙ c.in-None.ensures.none in
    held_with f c.args.progress.now.links.items c.add.new.list.items c.new.result c.args.inc c.new.ensures.free
    c.new.ensures.server none with_one held

pub returns-in-Err-NoMemory-clause-holding : goal.returns-in-Err-NoMemory-clause-holding
returns-in-Err-NoMemory-clause-holding g c = λ f held. held_same f c.args.progress.now.links.items
    c.reserve.new.self.items
    c.in_ok-reserve.ensures.items held

pub returns-in-Err-Failed-clause-holding : goal.returns-in-Err-Failed-clause-holding
returns-in-Err-Failed-clause-holding g c = λ f held. held_same f c.args.progress.now.links.items
    c.reserve.new.self.items
    c.in_ok-reserve.ensures.items held

pub returns-in-Ok-clause-turning : goal.returns-in-Ok-clause-turning
unfolding turned
returns-in-Ok-clause-turning g c = ap turned c.in-Ok.ensures

pub returns-in-Err-NoMemory-clause-turning : goal.returns-in-Err-NoMemory-clause-turning
unfolding turned
returns-in-Err-NoMemory-clause-turning g c = ap turned c.in-Err-NoMemory.ensures

pub returns-in-Err-Failed-clause-turning : goal.returns-in-Err-Failed-clause-turning
unfolding turned
returns-in-Err-Failed-clause-turning g c = ap turned c.in-Err-Failed.ensures
