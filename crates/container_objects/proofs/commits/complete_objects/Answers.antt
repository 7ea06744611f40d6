use Rattle.container_model.specs.Saves.{completion, counted_object}
use Rattle.container_objects.proofs.CommitsObjects.{prepared_counted, taken_up}
use Rattle.container_objects.proofs.commits.complete_objects.Goals as goal

pub returns : goal.returns
returns c = λ frame takes.
    taken_up (counted_object c.args.f) c.args.f (completion frame) (prepared_counted c.args.f (completion frame))
    c.args.objects.now.items c.count_all.new.objects.items c.take_up.new.objects.items c.args.takes.items
    c.count_all.ensures.items (λ t. c.take_up.ensures c.args.f (completion frame) t) takes
