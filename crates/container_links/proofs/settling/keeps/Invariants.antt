use Rattle.std.proofs.Common.{◌≡◌, drop}
use Rattle.container_model.specs.Saves.{keeps}
use Rattle.container_links.proofs.settling.keeps.Given as goal

abbrev pub invariant-loop-object : goal.invariant-loop-object
invariant-loop-object l = keeps l.frame (drop l.object-index l.objects) ≡ keeps l.frame l.objects
