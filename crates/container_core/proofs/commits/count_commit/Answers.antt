use Rattle.std.proofs.Common.{◌≡◌, ◌∙◌, List, ap, map, sym}
use Rattle.message_values.specs.declared.operation.Operation.{Operation}
use Rattle.container_model.specs.Saves.{completed, completion}
use Rattle.container_links.specs.Asking.{prepared}
use Rattle.container_model.specs.declared.record.Frame.{Frame}
use Rattle.container_model.specs.declared.record.Object.{Object}
use Rattle.container_checks.proofs.Numbers.{numbers, still}
use Rattle.container_state.proofs.NumbersKept.{completed_kept}
use Rattle.container_core.proofs.commits.count_commit.Goals as goal

pub invariant_of-state-inside : goal.invariant_of-state-inside
invariant_of-state-inside c =
    let os : List Object = c.state.inside.objects.list.items in
    let frame : Frame = c.index-frame.result.now in
    let asked : c.in-Ok.asking.takes.items ≡ map (prepared c.args.f (completion frame)) os =
    c.in-Ok.ensures.takes ∙ (ap (λ (xs : List Object). map (prepared c.args.f c.completion-operation.result) xs)
    c.as_slice.ensures.value ∙ ap (λ (op : Operation). map (prepared c.args.f op) os)
    c.completion-operation.ensures) in
    let objects : c.complete_objects.new.objects.items ≡ map (completed c.args.f frame) os =
    c.complete_objects.ensures frame asked in
    record {
      rising = still c.state.inside.objects.rising (sym (completed_kept c.args.f frame os)
          ∙ ap numbers (sym objects));
    }
