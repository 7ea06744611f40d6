use Rattle.cfb_file.specs.Need.{entries, entries_of}
use Rattle.write_files.proofs.DirectoryWalk.{Sent}
use Rattle.write_files.proofs.directory.+send_below.Given as goal

abbrev pub invariant-loop-next : goal.invariant-loop-next
invariant-loop-next g l =
    Sent (g.W.Write.contents l.initial.writer) (g.W.Write.contents l.writer) l.initial.waiting.items l.waiting.items
    l.leads l.fn.at (g.B.Branch.tree l.fn.storage) l.next (g.B.Branch.before l.walk)

abbrev pub decreases-loop-next : goal.decreases-loop-next
decreases-loop-next g l = entries_of (g.B.Branch.before l.walk)

abbrev pub decreases-send_below : goal.decreases-send_below
decreases-send_below g l = entries (g.B.Branch.tree l.storage)
