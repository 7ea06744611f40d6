use Rattle.std.proofs.Common.{◌≡◌, ◌≤◌, ◌+◌, ◌*◌, length, vec_capacity}
use Rattle.std.specs.List.{All}
use Rattle.cfb_entries.specs.Entries.{AreFree, Reaches, marked}
use Rattle.cfb_entries.proofs.Inside.{Begins}
use Rattle.cfb_entries.proofs.Linked.{Completes}
use Rattle.cfb_entries.proofs.Marks.{unused}
use Rattle.read_directories.proofs.entries.Table.walk.Given as goal

abbrev pub invariant-loop-id : goal.invariant-loop-id
invariant-loop-id l = record {
  marks : l.self ≡ marked l.initial.self l.found.items;
  free : AreFree l.initial.self l.found.items;
  reached : All (Reaches l.initial.self.directory l.top) l.waiting.items;
  linked : Completes l.initial.self.directory l.top l.found.items l.waiting.items;
  met : Begins l.initial.self.directory l.top l.found.items l.waiting.items;
  room : length l.found.items + unused l.self.used ≤ vec_capacity l.found;
  room_to_wait : length l.waiting.items + 2 * unused l.self.used ≤ vec_capacity l.waiting;
  found_kept : vec_capacity l.initial.found ≤ vec_capacity l.found;
  waiting_kept : vec_capacity l.initial.waiting ≤ vec_capacity l.waiting;
}

abbrev pub decreases-loop-id : goal.decreases-loop-id
decreases-loop-id l = 2 * unused l.self.used + length l.waiting.items
