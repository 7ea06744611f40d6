use Rattle.std.proofs.Common.{arith}
use Rattle.text_worlds.proofs.Forged.{short_none}
use Rattle.text_worlds.proofs.forge.kind_in.Goals as goal

pub returns-then-bytes-lt-HEAD_LEN-clause-framed : goal.returns-then-bytes-lt-HEAD_LEN-clause-framed
returns-then-bytes-lt-HEAD_LEN-clause-framed c = short_none c.args.bytes.now
    (omega (arith, c.if-bytes-lt-HEAD_LEN.true))
