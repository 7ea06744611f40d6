use Rattle.std.proofs.Common.{◌∙◌, length, refl, sym}
use Rattle.std.proofs.lemmas.Bool.{eqb-true}
use Rattle.std.proofs.lemmas.List.{nil_from_length}
use Rattle.script_model.specs.Courses.{course}
use Rattle.script_opens.proofs.Reading.{found_made, given_none}
use Rattle.script_opens.specs.Opening.{bad, void}
use Rattle.script_opens.proofs.opens.open_found.Goals as goal

pub returns-in-Ok-Some-clause-opened : goal.returns-in-Ok-Some-clause-opened
returns-in-Ok-Some-clause-opened g c =
    found_made (course (g.H.Host.told c.args.host.now)) (course (g.H.Host.told c.make_frame.new.host)) c.args.name
    c.args.width c.args.height c.args.file.now c.make_frame.result c.make_frame.ensures.made

pub returns-in-Ok-None-clause-opened : goal.returns-in-Ok-None-clause-opened
returns-in-Ok-None-clause-opened g c =
    bad refl refl (given_none c.args.file.now c.in-Ok-None.field-0 c.in-Ok-None.field-0-is
    c.in-Ok-None.ensures.given)

pub returns-then-is_empty-clause-opened : goal.returns-then-is_empty-clause-opened
returns-then-is_empty-clause-opened g c =
    void refl refl (nil_from_length c.args.file.now
    (eqb-true (length c.args.file.now) 0 (sym c.is_empty.ensures ∙ c.if-is_empty.true)))
