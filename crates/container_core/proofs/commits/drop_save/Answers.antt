use Rattle.std.proofs.Common.{◌≡◌, ◌∙◌, List, ap, map, sym}
use Rattle.message_values.specs.declared.operation.Operation.{Operation}
use Rattle.message_values.specs.declared.operation.Operation.TheVariants.{SaveDropped}
use Rattle.container_model.specs.Saves.{dropped_object}
use Rattle.container_links.specs.Asking.{prepared}
use Rattle.container_model.specs.declared.record.Frame.{Frame}
use Rattle.container_model.specs.declared.record.Object.{Object}
use Rattle.container_checks.proofs.Numbers.{numbers, still}
use Rattle.container_state.proofs.NumbersKept.{dropped_kept}
use Rattle.container_core.proofs.commits.drop_save.Goals as goal

pub invariant_of-state-inside : goal.invariant_of-state-inside
invariant_of-state-inside c =
    let os : List Object = c.state.inside.objects.list.items in
    let frame : Frame = c.index.result.now in
    let asked : c.in-Ok.asking.takes.items ≡ map (prepared c.args.f (SaveDropped frame.k)) os =
    c.in-Ok.ensures.takes ∙ (ap (λ (xs : List Object). map (prepared c.args.f c.dropping-operation.result) xs)
    c.as_slice.ensures.value ∙ ap (λ (op : Operation). map (prepared c.args.f op) os)
    c.dropping-operation.ensures) in
    let objects : c.drop_objects.new.objects.items ≡ map (dropped_object c.args.f frame) os =
    c.drop_objects.ensures frame asked in
    record {
      rising = still c.state.inside.objects.rising (sym (dropped_kept c.args.f frame os)
          ∙ ap numbers (sym objects));
    }
