use Rattle.std.proofs.Common.{◌≡◌, ◌++◌, take, drop}
use Rattle.server_model.specs.Server.{place_hold}
use Rattle.server_core.proofs.holds.hold_place.Given as goal

abbrev pub invariant-loop-i : goal.invariant-loop-i
invariant-loop-i l = place_hold l.fn.hold l.holds ≡ take l.i l.holds ++ place_hold l.fn.hold (drop l.i l.holds)
