use Rattle.std.proofs.Common.{◌+◌, ◌≤◌, ◌≡◌, vec_len, vec_capacity}
use Rattle.std.specs.Vec.Iter.{into_iter_items, into_iter_len}
use Rattle.world_host.specs.Stops.{put_each}
use Rattle.world_host.proofs.stops.put_all.Given as goal

abbrev pub invariant-loop-file : goal.invariant-loop-file
invariant-loop-file l = record {
  can_next : (goal.iterator-loop-file).can_next l.file-iterator;
  is_finite : (goal.iterator-loop-file).is_finite l.file-iterator;
  room : vec_len l.files + into_iter_len l.file-iterator ≤ vec_capacity l.files;
  put : put_each (into_iter_items l.file-iterator) l.files.items
      ≡ put_each (into_iter_items l.initial.file-iterator) l.initial.files.items;
}
