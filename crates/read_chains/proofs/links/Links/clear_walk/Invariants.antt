use Rattle.std.proofs.Common.{◌-◌, get_or}
use Rattle.read_chains.proofs.Ways.{IsClearing}
use Rattle.read_chains.proofs.links.Links.clear_walk.Given as goal

abbrev pub invariant-loop : goal.invariant-loop
invariant-loop l = IsClearing (λ n. get_or l.self n 0) l.start l.fn.walk.count l.initial.used l.used l.at
    (l.fn.walk.count - l.counter)
