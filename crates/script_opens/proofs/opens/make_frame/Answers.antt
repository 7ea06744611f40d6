use Rattle.std.proofs.Common.{◌≡◌, ◌∙◌, sym}
use Rattle.script_model.specs.Courses.{Made, course}
use Rattle.script_opens.proofs.Results.{refused_then}
use Rattle.script_opens.proofs.Reading.{made_so, opening_alone}
use Rattle.script_opens.proofs.opens.make_frame.Goals as goal

pub returns-in-Ok-clause-made : goal.returns-in-Ok-clause-made
returns-in-Ok-clause-made g c =
    made_so (g.H.Host.told c.args.host.now) (g.H.Host.told c.opened.new.host) c.args.core.now c.args.name
    c.args.width c.args.height c.args.document c.requires.told.recorded c.opened.ensures.ordered
    c.opened_by.result
    (c.in-Ok.ensures.answered ∙ sym c.opened_by.ensures)

pub returns-in-Err-clause-made : goal.returns-in-Err-clause-made
returns-in-Err-clause-made g c =
    refused_then c.refusal.result c.in-Err.fault (λ t. course (g.H.Host.told c.opened.new.host)
    ≡ record (course (g.H.Host.told c.args.host.now)) {
      opening =
          Made c.args.name c.args.width c.args.height t;
    }) c.refusal.ensures.told
    (λ some. made_so (g.H.Host.told c.args.host.now) (g.H.Host.told c.opened.new.host) c.args.core.now c.args.name
    c.args.width c.args.height c.args.document c.requires.told.recorded c.opened.ensures.ordered _
    (c.in-Err.ensures.refused some))

pub returns-in-Ok-clause-ordered : goal.returns-in-Ok-clause-ordered
returns-in-Ok-clause-ordered g c =
    opening_alone (g.H.Host.told c.args.host.now) (g.H.Host.told c.opened.new.host) c.args.core.now c.args.name
    c.args.width c.args.height c.args.document c.requires.told.recorded c.opened.ensures.ordered

pub returns-in-Err-clause-ordered : goal.returns-in-Err-clause-ordered
returns-in-Err-clause-ordered g c =
    opening_alone (g.H.Host.told c.args.host.now) (g.H.Host.told c.opened.new.host) c.args.core.now c.args.name
    c.args.width c.args.height c.args.document c.requires.told.recorded c.opened.ensures.ordered
