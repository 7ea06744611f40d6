use Rattle.std.proofs.Common.{◌∙◌, List, ℕ, ap, sym}
use Rattle.container_core.specs.Opening.{looked_at}
use Rattle.script_model.specs.Courses.{course}
use Rattle.script_opens.proofs.Reading.{may_not, may_tell}
use Rattle.script_opens.proofs.opens.open.Goals as goal

pub returns-in-Ok-clause-first : goal.returns-in-Ok-clause-first
returns-in-Ok-clause-first g c =
    may_tell g.H.Disk.Disk c.args.core.now c.args.name c.args.width c.args.height c.open_named.result
    (course (g.H.Host.told c.open_named.new.host)).opening
    (sym c.in-Ok.is ∙ c.may_open.ensures
    ∙ ap (λ (n : List ℕ). looked_at c.args.core.now n c.args.width c.args.height) c.as_slice.ensures)
    c.open_named.ensures.first

pub returns-in-Err-clause-first : goal.returns-in-Err-clause-first
returns-in-Err-clause-first g c =
    may_not g.H.Disk.Disk c.args.core.now c.args.name c.args.width c.args.height c.in-Err.fault
    (course (g.H.Host.told c.args.host.now)).opening
    (sym c.in-Err.is ∙ c.may_open.ensures
    ∙ ap (λ (n : List ℕ). looked_at c.args.core.now n c.args.width c.args.height) c.as_slice.ensures)
    c.requires.unasked
