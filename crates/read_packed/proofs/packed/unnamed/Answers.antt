use Rattle.std.proofs.Common.{ap}
use Rattle.cfb_bytes.specs.Bytes.{block}
use Rattle.read_packed.specs.Named.{laid_out, named_bytes}
use Rattle.read_packed.specs.Packed.{spelled}
use Rattle.read_packed.proofs.packed.unnamed.Goals as goal

pub returns : goal.returns
unfolding named_bytes spelled
returns c = ap (λ p. block 128 (laid_out p.0 p.1 p.2) 0) c.parts.ensures
