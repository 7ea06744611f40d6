use Rattle.std.proofs.Common.{◌++◌, List, drop}
use Rattle.container_grants.specs.Places.{HavePlaces}
use Rattle.container_grants.specs.declared.rooms.Room.{Room}
use Rattle.container_grants.proofs.rooms.rooms_of.Given as goal

abbrev pub invariant-loop-object : goal.invariant-loop-object
invariant-loop-object l = (rest : List Room) → HavePlaces l.more l.f (drop l.object-index l.objects) rest
    → HavePlaces l.more l.f l.objects (l.rooms.items ++ rest)
