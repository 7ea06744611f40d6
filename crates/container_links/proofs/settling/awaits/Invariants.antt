use Rattle.std.proofs.Common.{◌≡◌, drop}
use Rattle.container_model.specs.Saves.{awaits}
use Rattle.container_links.proofs.settling.awaits.Given as goal

abbrev pub invariant-loop-object : goal.invariant-loop-object
invariant-loop-object l = awaits l.frame (drop l.object-index l.objects) ≡ awaits l.frame l.objects
