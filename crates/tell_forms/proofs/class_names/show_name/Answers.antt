use Rattle.std.proofs.Common.{◌∙◌, ap, sym}
use Rattle.std.specs.Prelude.{codes}
use Rattle.std.specs.Str.{bytes_eq}
use Rattle.tell_forms.proofs.Picked.{passed, picked}
use Rattle.tell_forms.proofs.class_names.show_name.Goals as goal

pub returns-then-eq : goal.returns-then-eq
returns-then-eq c =
    c.as_slice-then-eq.ensures
    ∙ sym (picked (bytes_eq c.args.id.now (codes "64818d10-4f9b-11cf-86ea-00aa00b929e8")) (codes "PowerPoint presentation") _
    (ap (bytes_eq c.args.id.now) (sym c.as_slice.ensures) ∙ sym c.eq.ensures ∙ c.if-eq.true))

pub returns-then-eq-2 : goal.returns-then-eq-2
returns-then-eq-2 c =
    c.as_slice-then-eq-2.ensures
    ∙ sym (passed (bytes_eq c.args.id.now (codes "64818d10-4f9b-11cf-86ea-00aa00b929e8")) (codes "PowerPoint presentation") _
    (ap (bytes_eq c.args.id.now) (sym c.as_slice.ensures) ∙ sym c.eq.ensures ∙ c.if-eq.false)
    ∙ picked (bytes_eq c.args.id.now (codes "64818d11-4f9b-11cf-86ea-00aa00b929e8")) (codes "PowerPoint slide") _
    (ap (bytes_eq c.args.id.now) (sym c.as_slice-else-eq.ensures) ∙ sym c.eq-else-eq.ensures ∙ c.if-eq-2.true))
