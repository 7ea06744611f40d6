use Rattle.std.proofs.Common.{◌≡◌, drop}
use Rattle.container_model.specs.Commands.{is_named}
use Rattle.container_checks.proofs.checks.is_named.Given as goal

abbrev pub invariant-loop-frame : goal.invariant-loop-frame
invariant-loop-frame l = is_named l.name (drop l.frame-index l.frames) ≡ is_named l.name l.frames
