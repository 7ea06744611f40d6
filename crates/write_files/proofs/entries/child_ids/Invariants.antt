use Rattle.std.proofs.Common.{◌≡◌, ◌≤◌, ◌+◌, ◌++◌, vec_len}
use Rattle.cfb_file.specs.Need.{entries, entries_of}
use Rattle.cfb_layout.specs.Directory.{children_in, ids_from}
use Rattle.write_files.proofs.entries.child_ids.Given as goal

abbrev pub invariant-loop-child : goal.invariant-loop-child
invariant-loop-child g l = record {
  few : vec_len l.ids + l.fn.first ≤ l.id;
  counted : l.id + entries_of (g.B.Branch.before l.walk) ≡ l.fn.first + entries (g.B.Branch.tree l.fn.storage);
  listed : l.ids.items ++ ids_from l.id (g.B.Branch.before l.walk)
      ≡ ids_from l.fn.first (children_in (g.B.Branch.tree l.fn.storage));
}

abbrev pub decreases-loop-child : goal.decreases-loop-child
decreases-loop-child g l = entries_of (g.B.Branch.before l.walk)
