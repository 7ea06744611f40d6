use Rattle.std.proofs.Common.{◌≡◌, ◌+◌, ◌*◌, ◌≤◌, min}
use Rattle.cfb_file.specs.Limits.{MANY}
use Rattle.cfb_file.specs.Need.{entries, entries_of, long_pieces, mini_sectors, long_sectors, over_streams_of}
use Rattle.cfb_file.specs.Need.{short_pieces}
use Rattle.write_files.specs.Depth.{below}
use Rattle.write_files.proofs.needs.+count_needs.Given as goal

abbrev pub invariant-needs_below-loop-child : goal.invariant-needs_below-loop-child
invariant-needs_below-loop-child g l = record {
  few_entries : l.entries ≤ MANY;
  few_minis : l.minis ≤ MANY;
  few_longs : l.longs ≤ MANY;
  entries_left : entries_of (g.B.Branch.before l.walk) ≤ entries (g.B.Branch.tree l.fn.storage);
  entries_counted : min MANY (l.entries + entries_of (g.B.Branch.before l.walk))
      ≡ min MANY (entries (g.B.Branch.tree l.fn.storage));
  minis_counted : min MANY (l.minis + over_streams_of short_pieces (g.B.Branch.before l.walk))
      ≡ min MANY (mini_sectors (g.B.Branch.tree l.fn.storage));
  longs_counted : min MANY (l.longs + over_streams_of long_pieces (g.B.Branch.before l.walk))
      ≡ min MANY (long_sectors (g.B.Branch.tree l.fn.storage));
}

-- one entry fewer is left at each turn, and a storage among them has fewer below it than there were
abbrev pub decreases-needs_below-loop-child : goal.decreases-needs_below-loop-child
decreases-needs_below-loop-child g l = entries_of (g.B.Branch.before l.walk)

abbrev pub decreases-needs_below : goal.decreases-needs_below
decreases-needs_below g l = 2 * entries (g.B.Branch.tree l.storage)

abbrev pub decreases-needs_with : goal.decreases-needs_with
decreases-needs_with g l = 2 * below g.B.Branch.tree l.child + 1
