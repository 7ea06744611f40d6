use Rattle.std.proofs.Common.{◌≡◌, ◌∙◌, ◌<◌, false, List, ap, length, sym, subst, rules}
use Rattle.script_links.specs.Links.{IsLinkAt, links_of}
use Rattle.script_links.specs.declared.links.Link.{Link}
use Rattle.std.specs.Result.{IsErrAnd}
use Rattle.script_links.proofs.Going.{ends_on}
use Rattle.script_model.specs.Events.{running}
use Rattle.script_commands.proofs.Held.{linked_there, set_none}
use Rattle.script_commands.proofs.Lines.{told_none, told_some}
use Rattle.script_commands.proofs.Starting.{linked_runs}
use Rattle.script_commands.proofs.holding.release_link.Goals as goal

pub returns-in_default-clause-holding : goal.returns-in_default-clause-holding
returns-in_default-clause-holding g c =
    let none : links_of c.args.inc c.deref.result.now ≡ 0 = c.in_default.ensures.none in
    λ f hold. set_none f c.args.inc false c.args.progress.now.links.items
    (ap (links_of c.args.inc) (sym c.deref.ensures.value) ∙ none) hold

pub returns-in_err-release-clause-holding : goal.returns-in_err-release-clause-holding
returns-in_err-release-clause-holding g c = λ f hold. c.release.ensures.holding f c.args.inc
    (subst (λ (ls : List Link). IsLinkAt ls c.in-Some.place c.args.inc) c.deref.ensures.value
    c.in-Some.ensures.there) hold

pub returns-clause-holding : goal.returns-clause-holding
returns-clause-holding g c = λ f hold. c.release.ensures.holding f c.args.inc
    (subst (λ (ls : List Link). IsLinkAt ls c.in-Some.place c.args.inc) c.deref.ensures.value
    c.in-Some.ensures.there) hold

pub returns-in_default-clause-first : goal.returns-in_default-clause-first
returns-in_default-clause-first g c =
    let none : running c.args.inc (g.H.Host.told c.args.host.now) ≡ 0 = c.requires.going.linked c.args.inc
    ∙ ap (links_of c.args.inc) (sym c.deref.ensures.value) ∙ c.in_default.ensures.none in
    told_none (running c.args.inc (g.H.Host.told c.args.host.now)) none

pub returns-clause-first : goal.returns-clause-first
returns-clause-first g c =
    told_some (running c.args.inc (g.H.Host.told c.args.host.now))
    (linked_runs c.args.inc (g.H.Host.told c.args.host.now) c.args.progress.now.links.items c.requires.going.linked
    (linked_there c.args.inc c.args.progress.now.links.items c.in-Some.place
    (subst (λ (ls : List Link). c.in-Some.place < length ls) c.deref.ensures.value c.in-Some.ensures.within)
    (subst (λ (ls : List Link). IsLinkAt ls c.in-Some.place c.args.inc) c.deref.ensures.value
    c.in-Some.ensures.there)))

pub returns-in_err-release-clause-handing : goal.returns-in_err-release-clause-handing
returns-in_err-release-clause-handing g c = λ f free. c.release.ensures.handing f c.args.inc
    (subst (λ (ls : List Link). IsLinkAt ls c.in-Some.place c.args.inc) c.deref.ensures.value
    c.in-Some.ensures.there) free

pub returns-clause-handing : goal.returns-clause-handing
returns-clause-handing g c = λ f free. c.release.ensures.handing f c.args.inc
    (subst (λ (ls : List Link). IsLinkAt ls c.in-Some.place c.args.inc) c.deref.ensures.value
    c.in-Some.ensures.there) free

pub returns-in_err-release-clause-leaves : goal.returns-in_err-release-clause-leaves
returns-in_err-release-clause-leaves g c =
    let again : IsErrAnd c.from_residual.result (λ x. x ≡ c.in_err-release.field-0.0) = search rules in
    ends_on g.H.Disk.Disk c.from_residual.result c.in_err-release.field-0.0 (g.H.Host.told c.release.new.host)
    c.release.new.progress again c.in_err-release.ensures.leaves
