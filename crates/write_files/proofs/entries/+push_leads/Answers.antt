use Rattle.std.proofs.Common.{◌++◌, ℕ, List, arith, length, subst}
use Rattle.cfb_entries.specs.Tree.{Children}
use Rattle.cfb_layout.specs.Directory.{children_in, long_streams, short_streams}
use Rattle.cfb_layout.specs.Image.{pieces_of, runs}
use Rattle.write_files.specs.Siblings.{past_all}
use Rattle.write_files.specs.Walked.{sibling_leads}
use Rattle.write_files.specs.declared.entries.Cursor.{Cursor}
use Rattle.write_files.specs.Walks.{Is}
use Rattle.write_files.proofs.ContentsWalk.{entries-first}
use Rattle.write_files.proofs.ContentsPush.{IsPushed, leaf-pushed, moved, storage-pushed, step-places, step-next}
use Rattle.write_files.proofs.ContentsPush.{step-pushed, step-spelled}
use Rattle.write_files.proofs.ContentsStreams.{long-runs-more, short-runs-more}
use Rattle.write_files.proofs.entries.+push_leads.Goals as goal
use Rattle.write_files.proofs.entries.+push_leads.Goals.{push_below-in-Stream+in_ok-next-in-Stream}
use Rattle.write_files.proofs.entries.+push_leads.Goals.{push_below-in-Storage+in_ok-next-in-Storage}

pub push_below-loop-next-preserved : goal.push_below-loop-next-preserved
push_below-loop-next-preserved g t c =
    let l = c.loop-next in
    let after = c.match-child in
    let at : Cursor = c.args.at in
    let ids : List ℕ = c.args.siblings.now.ids.items in
    let all : Children = children_in (g.B.Branch.tree c.args.storage) in
    let step = c.in-Some.ensures.some in
    let one : IsPushed ids l.place l.next after.next l.leads.items after.leads.items l.tables after.tables step.seen =
    elim after.branch [
      | push_below-in-Stream+in_ok-next-in-Stream w ↦
          let made = w.in_ok-next-in-Stream in
          moved ids l.place l.next made.next l.leads.items w.push_leaf.new.leads.items l.tables
          w.push_leaf.new.tables after.next after.leads.items after.tables step.seen
          w.next-is (λ i. (w.leads-is i).items) w.tables-is
          (leaf-pushed ids l.place l.next made.next l.leads.items w.push_leaf.new.leads.items l.tables
          w.push_leaf.new.tables g.B.Branch.tree w.in-Stream.size
          made.ensures.next made.ensures.pushed made.ensures.minis made.ensures.fat made.ensures.spelled
          step.seen (subst (λ what. Is g.B.Branch.tree what step.seen) w.in-Stream.is step.is))
      | push_below-in-Storage+in_ok-next-in-Storage w ↦
          let made = w.in_ok-next-in-Storage in
          moved ids l.place l.next made.next l.leads.items w.push_storage.new.leads.items l.tables
          w.push_storage.new.tables after.next after.leads.items after.tables step.seen
          w.next-is (λ i. (w.leads-is i).items) w.tables-is
          (storage-pushed ids l.place l.next made.next l.leads.items w.push_storage.new.leads.items l.tables
          w.push_storage.new.tables g.B.Branch.tree w.in-Storage.inner
          made.ensures.next made.ensures.pushed made.ensures.minis made.ensures.fat made.ensures.spelled
          step.seen (subst (λ what. Is g.B.Branch.tree what step.seen) w.in-Storage.is step.is))
    ] in
    record {
      left = omega (arith, entries-first step, l.invariant.left);
      places = step-places step l.next after.next one.after l.place (length ids) l.invariant.places;
      next = step-next step l.next after.next one.after (past_all at all) l.invariant.next;
      spelled = λ h. l.invariant.spelled (step-spelled step one.spelled h);
      pushed = step-pushed step l.next after.next one.after ids l.place l.leads.items after.leads.items
          (c.args.leads.now.items ++ sibling_leads ids 0 at all) one.leads l.invariant.pushed;
      minis = short-runs-more step l.next after.next one.after l.tables.minis.items after.tables.minis.items
          (c.args.tables.now.minis.items ++ runs at.mini
          (pieces_of 64 (short_streams (g.B.Branch.tree c.args.storage)))) one.minis l.invariant.minis;
      fat = long-runs-more step l.next after.next one.after l.tables.fat.items after.tables.fat.items
          (c.args.tables.now.fat.items ++ runs at.sector
          (pieces_of 512 (long_streams (g.B.Branch.tree c.args.storage)))) one.fat l.invariant.fat;
    }
