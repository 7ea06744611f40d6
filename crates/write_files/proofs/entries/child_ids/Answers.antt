use Rattle.std.proofs.Common.{◌≡◌, ℕ, min}
use Rattle.std.specs.Vec.{vec_len}
use Rattle.cfb_file.specs.Need.{entries}
use Rattle.cfb_file.specs.declared.limit.TheConstants.{MANY}
use Rattle.cfb_layout.specs.Directory.{children_in, entries_with, ids_from}
use Rattle.write_files.proofs.ContentsWalk.{ids-counted, ids-few, ids-listed}
use Rattle.write_files.proofs.entries.child_ids.Goals as goal

pub loop-child-preserved : goal.loop-child-preserved
loop-child-preserved g c =
    let step = c.in-Some.ensures.some in
    let more : ℕ = c.needs_with-id.result.entries in
    let all : ℕ = entries (g.B.Branch.tree c.args.storage) in
    let counted : more ≡ min MANY (entries_with step.seen) = c.needs_with-id.ensures.entries step.seen step.is in
    record {
      few = ids-few step c.args.first c.loop-child.id more all MANY c.loop-child.invariant.counted c.requires
          counted (vec_len c.loop-child.ids) (vec_len c.push.new.self) c.in_ok-push.ensures.len
          c.loop-child.invariant.few;
      counted = ids-counted step c.args.first c.loop-child.id more all MANY c.loop-child.invariant.counted
          c.requires counted;
      listed = ids-listed step c.args.first c.loop-child.id more all MANY c.loop-child.invariant.counted c.requires
          counted
          c.loop-child.ids.items c.push.new.self.items
          (ids_from c.args.first (children_in (g.B.Branch.tree c.args.storage))) c.in_ok-push.ensures.items
          c.loop-child.invariant.listed;
    }
