use Rattle.std.proofs.Common.{◌++◌, ◌+◌, List, drop}
use Rattle.container_grants.specs.Places.{AllHavePlaces}
use Rattle.container_grants.specs.declared.rooms.FrameRooms.{FrameRooms}
use Rattle.container_grants.proofs.rooms.prepare_frames.Given as goal

abbrev pub invariant-loop-i : goal.invariant-loop-i
invariant-loop-i l = (rest : List FrameRooms) → AllHavePlaces l.more (l.i + 1) (drop l.i l.frames) l.objects rest
    → AllHavePlaces l.more 1 l.frames l.objects (l.all.items ++ rest)
