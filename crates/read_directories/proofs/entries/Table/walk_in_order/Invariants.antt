use Rattle.std.proofs.Common.{◌≤◌, ◌+◌, ◌*◌, length, vec_capacity}
use Rattle.read_directories.proofs.InOrder.{Walked}
use Rattle.cfb_entries.proofs.Marks.{unused}
use Rattle.read_directories.proofs.entries.Table.walk_in_order.Given as goal

abbrev pub invariant-loop-at : goal.invariant-loop-at
invariant-loop-at l = record {
  walked : Walked l.initial.self l.self l.top l.at l.found.items l.waiting.items;
  room : length l.found.items + length l.waiting.items + unused l.self.used ≤ vec_capacity l.found;
  room_to_wait : length l.waiting.items + unused l.self.used ≤ vec_capacity l.waiting;
  found_kept : vec_capacity l.initial.found ≤ vec_capacity l.found;
  waiting_kept : vec_capacity l.initial.waiting ≤ vec_capacity l.waiting;
}

abbrev pub decreases-loop-at : goal.decreases-loop-at
decreases-loop-at l = 2 * unused l.self.used + length l.waiting.items
