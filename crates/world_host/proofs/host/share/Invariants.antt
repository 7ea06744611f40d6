use Rattle.std.proofs.Common.{◌++◌, ◌+◌, ◌≤◌, ◌≡◌, length, map, vec_len, vec_capacity}
use Rattle.std.specs.Vec.Iter.{into_iter_items, into_iter_len}
use Rattle.world_model.specs.World.{messages_of, commits_of, of_container}
use Rattle.world_host.specs.Servers.{ends_of, starts_of}
use Rattle.world_host.proofs.host.share.Given as goal

abbrev pub invariant-loop-action : goal.invariant-loop-action
invariant-loop-action l = record {
  can_next : (goal.iterator-loop-action).can_next l.action-iterator;
  is_finite : (goal.iterator-loop-action).is_finite l.action-iterator;
  few : vec_len l.sent + into_iter_len l.action-iterator ≤ vec_len l.initial.sent
      + into_iter_len l.initial.action-iterator;
  count : vec_len l.sent + length (messages_of (into_iter_items l.action-iterator)) ≡ vec_len l.initial.sent
      + length (messages_of (into_iter_items l.initial.action-iterator));
  sent_room : vec_len l.sent + into_iter_len l.action-iterator ≤ vec_capacity l.sent;
  ends_room : vec_len l.ends + into_iter_len l.action-iterator ≤ vec_capacity l.ends;
  starts_room : vec_len l.starts + into_iter_len l.action-iterator ≤ vec_capacity l.starts;
  commits_room : vec_len l.commits + into_iter_len l.action-iterator ≤ vec_capacity l.commits;
  sent : l.sent.items ++ map of_container (messages_of (into_iter_items l.action-iterator)) ≡ l.initial.sent.items
      ++ map of_container (messages_of (into_iter_items l.initial.action-iterator));
  ends : l.ends.items ++ ends_of (into_iter_items l.action-iterator) ≡ l.initial.ends.items
      ++ ends_of (into_iter_items l.initial.action-iterator);
  starts : l.starts.items ++ starts_of (into_iter_items l.action-iterator) ≡ l.initial.starts.items
      ++ starts_of (into_iter_items l.initial.action-iterator);
  commits : l.commits.items ++ commits_of (into_iter_items l.action-iterator) ≡ l.initial.commits.items
      ++ commits_of (into_iter_items l.initial.action-iterator);
}
