use Rattle.container_model.specs.Saves.{counted_object}
use Rattle.container_checks.proofs.LookupPlaces.{mapped_more}
use Rattle.container_objects.proofs.commits.count_objects.Goals as goal

pub loop-object-preserved : goal.loop-object-preserved
loop-object-preserved c =
    mapped_more (counted_object c.args.f) c.args.objects.now c.loop-object.objects c.loop-object.object-index
    c.object-item.result c.count_object.new.object
    c.loop-object.invariant c.loop-object-test.true c.count_object.ensures
