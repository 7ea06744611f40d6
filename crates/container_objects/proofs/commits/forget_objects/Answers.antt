use Rattle.container_model.specs.Saves.{forgotten_object}
use Rattle.container_checks.proofs.LookupPlaces.{mapped_more}
use Rattle.container_objects.proofs.commits.forget_objects.Goals as goal

pub loop-object-preserved : goal.loop-object-preserved
loop-object-preserved c =
    mapped_more (forgotten_object c.args.f) c.args.objects.now c.loop-object.objects c.loop-object.object-index
    c.object-item.result c.forget_object.new.object
    c.loop-object.invariant c.loop-object-test.true c.forget_object.ensures
