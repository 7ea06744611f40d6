use Rattle.std.proofs.Common.{◌≡◌, ◌<◌, ◌≤◌, length, vec_capacity}
use Rattle.std.specs.List.{All}
use Rattle.cfb_entries.specs.Walk.{clear_all}
use Rattle.read_directories.proofs.entries.Table.unmark.Given as goal

abbrev pub invariant-loop-id : goal.invariant-loop-id
invariant-loop-id l = record {
  directory : l.self-inside.directory ≡ l.initial.self-inside.directory;
  count : length l.self-inside.used.items ≡ length l.initial.self-inside.used.items;
  inside : All (λ n. n < length l.self-inside.used.items) l.found.items;
  kept : vec_capacity l.initial.found ≤ vec_capacity l.found;
  cleared : clear_all l.self-inside.used.items l.found.items ≡ clear_all l.initial.self-inside.used.items
      l.initial.found.items;
}

abbrev pub decreases-loop-id : goal.decreases-loop-id
decreases-loop-id l = length l.found.items
