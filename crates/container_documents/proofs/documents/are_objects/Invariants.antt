use Rattle.std.proofs.Common.{◌≡◌, drop}
use Rattle.container_model.specs.Saves.{are_objects, held_parts, parts_in}
use Rattle.container_documents.proofs.documents.are_objects.Given as goal

abbrev pub invariant-loop-object : goal.invariant-loop-object
invariant-loop-object l = are_objects (held_parts (parts_in l.f (drop l.object-index l.objects)))
    ≡ are_objects (held_parts (parts_in l.f l.objects))
