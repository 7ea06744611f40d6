use Rattle.std.proofs.Common.{◌≡◌, ◌∙◌, ◌<◌, List, ap, length, subst, sym, rules}
use Rattle.script_links.specs.Links.{IsLinkAt, links_of}
use Rattle.script_links.specs.declared.links.Link.{Link}
use Rattle.script_model.specs.Bounds.{pace}
use Rattle.script_model.specs.Events.{running}
use Rattle.std.specs.Result.{IsErrAnd}
use Rattle.script_links.proofs.Going.{ends_on}
use Rattle.script_commands.proofs.Held.{cut_anew, linked_there}
use Rattle.script_commands.proofs.Lines.{cut_none, cut_some, told_none, told_some}
use Rattle.script_commands.proofs.Starting.{linked_runs}
use Rattle.script_commands.proofs.cutting.cut_link.Goals as goal

pub returns-in_default-clause-first : goal.returns-in_default-clause-first
returns-in_default-clause-first g c =
    let none : running c.args.inc (g.H.Host.told c.args.host.now) ≡ 0 = c.requires.going.linked c.args.inc
    ∙ ap (links_of c.args.inc) (sym c.deref.ensures.value) ∙ c.in_default.ensures.none in (
      told_none (running c.args.inc (g.H.Host.told c.args.host.now)) none,
      cut_none
          (running c.args.inc (g.H.Host.told c.args.host.now)) (pace c.args.inc (g.H.Host.told c.args.host.now)).links
          none,
    )

pub returns-clause-first : goal.returns-clause-first
returns-clause-first g c =
    let ran = running c.args.inc (g.H.Host.told c.args.host.now) in
    let at = subst (λ (ls : List Link). IsLinkAt ls c.in-Some.place c.args.inc) c.deref.ensures.value
    c.in-Some.ensures.there in
    let within = subst (λ (ls : List Link). c.in-Some.place < length ls) c.deref.ensures.value
    c.in-Some.ensures.within in (
      told_some ran (linked_runs c.args.inc (g.H.Host.told c.args.host.now) c.args.progress.now.links.items
          c.requires.going.linked
          (linked_there c.args.inc c.args.progress.now.links.items c.in-Some.place within at)),
      cut_some ran (pace c.args.inc (g.H.Host.told c.cut.new.host)).links
          (cut_anew (g.H.Host.told c.cut.new.host) c.args.inc c.args.progress.now.links.items c.in-Some.place at
          c.in_ok-cut.ensures.anew),
    )

pub returns-in_err-cut-clause-leaves : goal.returns-in_err-cut-clause-leaves
returns-in_err-cut-clause-leaves g c =
    let again : IsErrAnd c.from_residual.result (λ x. x ≡ c.in_err-cut.field-0.0) = search rules in
    ends_on g.H.Disk.Disk c.from_residual.result c.in_err-cut.field-0.0 (g.H.Host.told c.cut.new.host)
    c.cut.new.progress again c.in_err-cut.ensures.leaves
