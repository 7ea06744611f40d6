use Rattle.std.proofs.Common.{◌≡◌, rules, drop}
use Rattle.message_bytes.proofs.Fronts.{took_more}
use Rattle.message_bytes.proofs.front.take_frames.Goals as goal

pub frames-preserved : goal.frames-preserved
frames-preserved c =
    let rest : c.split_at.result.1.now ≡ drop c.frames.used c.args.bytes.now = search rules in
    took_more c.args.waiting.now.items c.frames.waiting.items c.put_behind.new.waiting.items c.args.bytes.now
    c.frames.used c.in-Ok-Whole.n c.in-Ok-Whole.frame c.frames.invariant
    (rw rest at (rw c.in-Ok-Whole.field-0-is at c.in-Ok-Whole.ensures)) c.in-Ok.ensures.items
