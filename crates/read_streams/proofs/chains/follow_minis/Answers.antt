use Rattle.std.proofs.Common.{◌*◌, ◌∙◌, suc, append-nil, arith, sym}
use Rattle.cfb_header.specs.Bytes.{u32_at}
use Rattle.read_streams.proofs.Minis.{walked_push}
use Rattle.read_streams.proofs.chains.follow_minis.Goals as goal

pub loop-preserved : goal.loop-preserved
loop-preserved c = λ k e.
    walked_push (λ n. u32_at c.args.mini_fat.now (4 * n)) c.loop.minis.items c.push.new.self.items c.loop.at
    c.number-at.result k c.in_ok-push.ensures.items c.number-at.ensures
    ∙ c.loop.invariant (suc k) (omega (arith, e))

pub returns : goal.returns
returns c = sym (append-nil c.loop.minis.items) ∙ c.loop.invariant 0 (omega arith)
