use Rattle.std.proofs.Common.{◌≡◌, ◌++◌, drop, take, map}
use Rattle.container_model.specs.Grants.{freed_frame}
use Rattle.container_grants.proofs.grants.free_slice.Given as goal

abbrev pub invariant-loop-frame : goal.invariant-loop-frame
invariant-loop-frame l = l.frames ≡ map (freed_frame l.inc l.objects.list.items) (take l.frame-index l.fn.frames)
    ++ drop l.frame-index l.fn.frames
