use Rattle.std.proofs.Common.{◌-◌, get_or, length}
use Rattle.read_chains.specs.Walks.{IsWalk}
use Rattle.read_chains.proofs.walks.mark_by_numbers.Given as goal

abbrev pub invariant-loop-stop : goal.invariant-loop-stop
invariant-loop-stop l = IsWalk (λ n. get_or l.numbers n 0) l.start l.initial.used l.used l.count l.stop

abbrev pub decreases-loop-stop : goal.decreases-loop-stop
decreases-loop-stop l = length l.used - l.count
