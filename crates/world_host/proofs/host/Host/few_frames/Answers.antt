use Rattle.std.proofs.Common.{arith}
use Rattle.world_host.proofs.host.Host.few_frames.Goals as goal

pub returns : goal.returns
returns c =
    let few = c.steady.ensures.sound.frames in
    let most = c.steady.ensures.sound.limit in
    omega arith
