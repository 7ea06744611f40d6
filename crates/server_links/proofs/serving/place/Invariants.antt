use Rattle.std.proofs.Common.{◌≡◌, ◌-◌, ◌≤◌, ◌++◌, take, drop, length}
use Rattle.server_links.specs.Turns.{noted}
use Rattle.server_links.proofs.serving.place.Given as goal

abbrev pub invariant-loop-at : goal.invariant-loop-at
invariant-loop-at l = (l.at ≤ length l.numbers.items) × (l.numbers.items ≡ l.fn.numbers.items)
    × (noted l.number l.numbers.items ≡ take l.at l.numbers.items ++ noted l.number (drop l.at l.numbers.items))

abbrev pub decreases-loop-at : goal.decreases-loop-at
decreases-loop-at l = length l.numbers.items - l.at
