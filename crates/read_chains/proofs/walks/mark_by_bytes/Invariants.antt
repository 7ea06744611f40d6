use Rattle.std.proofs.Common.{◌*◌, ◌-◌, length}
use Rattle.cfb_header.specs.Bytes.{u32_at}
use Rattle.read_chains.specs.Walks.{IsWalk}
use Rattle.read_chains.proofs.walks.mark_by_bytes.Given as goal

abbrev pub invariant-loop-stop : goal.invariant-loop-stop
invariant-loop-stop l = IsWalk (λ n. u32_at l.bytes (4 * n)) l.start l.initial.used l.used l.count l.stop

abbrev pub decreases-loop-stop : goal.decreases-loop-stop
decreases-loop-stop l = length l.used - l.count
