use Rattle.std.proofs.Common.{◌≡◌, subst, arith}
use Rattle.std.proofs.lemmas.List.{take_all}
use Rattle.std.proofs.lemmas.List.Elements.{All-more}
use Rattle.write_zeros.specs.Zeroed.{AreZeros}
use Rattle.write_zeros.proofs.zeros.are_zeros.Goals as goal

pub loop-byte-preserved : goal.loop-byte-preserved
loop-byte-preserved c = All-more (λ b. b ≡ 0) c.args.bytes.now c.loop-byte.byte-index 0 (omega arith)
    c.loop-byte.invariant (omega arith)

pub returns : goal.returns
returns c = λ t. subst AreZeros (take_all c.loop-byte.byte-index c.args.bytes.now (omega arith)) c.loop-byte.invariant
