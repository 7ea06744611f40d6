use Rattle.message_values.specs.declared.operation.Operation.TheVariants.{SaveDropped}
use Rattle.container_model.specs.Saves.{forgotten_object}
use Rattle.container_objects.proofs.CommitsObjects.{prepared_forgotten, taken_up}
use Rattle.container_objects.proofs.commits.drop_objects.Goals as goal

pub returns : goal.returns
returns c = λ frame takes.
    taken_up (forgotten_object c.args.f) c.args.f (SaveDropped frame.k)
    (prepared_forgotten c.args.f (SaveDropped frame.k)) c.args.objects.now.items c.forget_all.new.objects.items
    c.take_up.new.objects.items c.args.takes.items
    c.forget_all.ensures.items (λ t. c.take_up.ensures c.args.f (SaveDropped frame.k) t) takes
