use Rattle.std.proofs.Common.{◌≡◌, ◌≤◌, ◌+◌, ◌*◌, ◌++◌, length}
use Rattle.cfb_file.specs.Need.{entries, entries_of}
use Rattle.cfb_layout.specs.Directory.{AreSpelled, children_in, ids_from, long_streams, long_streams_of, short_streams}
use Rattle.cfb_layout.specs.Directory.{short_streams_of}
use Rattle.cfb_layout.specs.Image.{pieces_of, runs}
use Rattle.write_files.specs.Walked.{sibling_leads}
use Rattle.write_files.specs.Siblings.{past_all}
use Rattle.write_files.proofs.entries.+push_leads.Given as goal

abbrev pub invariant-push_below-loop-next : goal.invariant-push_below-loop-next
invariant-push_below-loop-next g l = record {
  left : entries_of (g.B.Branch.before l.walk) ≤ entries (g.B.Branch.tree l.fn.storage);
  places : l.place + length (ids_from l.next.id (g.B.Branch.before l.walk)) ≡ length l.siblings.ids.items;
  next : past_all l.next (g.B.Branch.before l.walk) ≡ past_all l.fn.at (children_in (g.B.Branch.tree l.fn.storage));
  spelled : AreSpelled (g.B.Branch.before l.walk) → AreSpelled (children_in (g.B.Branch.tree l.fn.storage));
  pushed : l.leads.items ++ sibling_leads l.siblings.ids.items l.place l.next (g.B.Branch.before l.walk)
      ≡ l.initial.leads.items ++ sibling_leads l.siblings.ids.items 0 l.fn.at
      (children_in (g.B.Branch.tree l.fn.storage));
  minis : l.tables.minis.items ++ runs l.next.mini (pieces_of 64 (short_streams_of (g.B.Branch.before l.walk)))
      ≡ l.initial.tables.minis.items ++ runs l.fn.at.mini (pieces_of 64 (short_streams (g.B.Branch.tree l.fn.storage)));
  fat : l.tables.fat.items ++ runs l.next.sector (pieces_of 512 (long_streams_of (g.B.Branch.before l.walk)))
      ≡ l.initial.tables.fat.items ++ runs l.fn.at.sector (pieces_of 512 (long_streams (g.B.Branch.tree l.fn.storage)));
}

-- one entry fewer is left at each turn, and a storage among them has fewer below it than there were
abbrev pub decreases-push_below-loop-next : goal.decreases-push_below-loop-next
decreases-push_below-loop-next g l = entries_of (g.B.Branch.before l.walk)

abbrev pub decreases-push_below : goal.decreases-push_below
decreases-push_below g l = 2 * entries (g.B.Branch.tree l.storage)

abbrev pub decreases-push_storage : goal.decreases-push_storage
decreases-push_storage g l = 2 * entries (g.B.Branch.tree l.storage) + 1
