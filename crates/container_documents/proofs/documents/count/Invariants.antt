use Rattle.std.proofs.Common.{◌+◌, ◌≡◌, ◌≤◌, length, drop}
use Rattle.container_model.specs.Saves.{held_parts, parts_in}
use Rattle.container_documents.proofs.documents.count.Given as goal

abbrev pub invariant-loop-object : goal.invariant-loop-object
invariant-loop-object l = record {
  few : l.count ≤ l.object-index;
  counted : l.count + length (held_parts (parts_in l.f (drop l.object-index l.objects)))
      ≡ length (held_parts (parts_in l.f l.objects));
}
