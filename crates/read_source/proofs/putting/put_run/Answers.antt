use Rattle.std.proofs.Common.{◌+◌, ◌-◌, ◌*◌, arith, ap, drop, refl, take}
use Rattle.read_source.proofs.Filling.{put_more}
use Rattle.read_source.proofs.putting.put_run.Goals as goal

pub loop-k-preserved : goal.loop-k-preserved
loop-k-preserved c =
    let k = c.loop-k.k in
    let bytes = c.args.bytes.now in
    let at = 512 * k in
    let end = c.min.result + at in
    put_more c.args.file.now c.loop-k.file c.put.new.self bytes (take (end - at) (drop at bytes)) c.args.first k at
    end c.loop-k.invariant
    refl (omega (arith, c.div_ceil-blocks.ensures)) (ap (λ n. n + at) c.min.ensures) refl
    c.in_ok-put.ensures.len c.in_ok-put.ensures.here c.in_ok-put.ensures.apart
