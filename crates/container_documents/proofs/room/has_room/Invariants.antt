use Rattle.std.proofs.Common.{◌+◌, ◌≡◌, drop, length, min, true}
use Rattle.cfb_file.specs.Limits.{MANY}
use Rattle.cfb_file.specs.Need.{long_pieces, short_pieces}
use Rattle.container_model.specs.Saves.{are_objects, held_parts, parts_in}
use Rattle.container_documents.specs.Sums.{AreTyped, objects_sum, one}
use Rattle.container_documents.proofs.room.has_room.Given as goal

abbrev pub invariant-loop-object : goal.invariant-loop-object
invariant-loop-object l = record {
  count : l.count + length (held_parts (parts_in l.f (drop l.object-index l.objects)))
      ≡ length (held_parts (parts_in l.f l.objects));
  entries : min MANY (l.room.entries + objects_sum one 1
      (held_parts (parts_in l.f (drop l.object-index l.objects))))
      ≡ min MANY (objects_sum one 1 (held_parts (parts_in l.f l.objects)));
  minis : min MANY (l.room.minis + objects_sum short_pieces 0
      (held_parts (parts_in l.f (drop l.object-index l.objects))))
      ≡ min MANY (objects_sum short_pieces 0 (held_parts (parts_in l.f l.objects)));
  longs : min MANY (l.room.longs + objects_sum long_pieces 0
      (held_parts (parts_in l.f (drop l.object-index l.objects))))
      ≡ min MANY (objects_sum long_pieces 0 (held_parts (parts_in l.f l.objects)));
  held : are_objects (held_parts (parts_in l.f (drop l.object-index l.objects))) ≡ true;
  typed : AreTyped (held_parts (parts_in l.f (drop l.object-index l.objects)))
      → AreTyped (held_parts (parts_in l.f l.objects));
}
