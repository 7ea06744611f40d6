use Rattle.container_model.specs.Grants.{freed_frame}
use Rattle.container_checks.proofs.LookupPlaces.{mapped_more}
use Rattle.container_grants.proofs.grants.free_slice.Goals as goal

pub loop-frame-preserved : goal.loop-frame-preserved
loop-frame-preserved c =
    mapped_more (freed_frame c.args.inc c.args.objects.now.list.items) c.args.frames.now c.loop-frame.frames
    c.loop-frame.frame-index c.frame-item.result c.free_frame.new.frame
    c.loop-frame.invariant c.loop-frame-test.true c.free_frame.ensures
