use Rattle.std.proofs.Common.{arith}
use Rattle.read_packed.proofs.pool.Blocks.add.Goals as goal

pub append-requires : goal.append-requires
append-requires c = record { whole = (4, omega arith) }
