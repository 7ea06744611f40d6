use Rattle.std.proofs.Common.{ap, replicate, sym, ◌∙◌}
use Rattle.tree_storage.specs.Kept.{kept, put}
use Rattle.tree_edits.proofs.Told.{put_made, put_refused}
use Rattle.tree_edits.proofs.editing.fill.Goals as goal

pub returns-in-Ok-put_stream : goal.returns-in-Ok-put_stream
returns-in-Ok-put_stream c =
    put_made c.args.path.now (replicate c.args.count c.args.byte) (kept c.args.tree.now) (kept c.put_stream.new.self)
    (ap (λ x. put c.args.path.now x (kept c.args.tree.now)) (sym c.new.ensures) ∙ c.in-Ok-put_stream.ensures)

pub returns-in-Err-put_stream : goal.returns-in-Err-put_stream
returns-in-Err-put_stream c =
    rw c.from.ensures (put_refused c.args.path.now (replicate c.args.count c.args.byte) (kept c.args.tree.now)
    (kept c.put_stream.new.self) c.in-Err-put_stream.fault
    (rw c.new.ensures at c.in-Err-put_stream.ensures))
