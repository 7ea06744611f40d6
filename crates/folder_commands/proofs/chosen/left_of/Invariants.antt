use Rattle.std.proofs.Common.{◌≡◌, take}
use Rattle.std.specs.List.{flat_map}
use Rattle.folder_commands.specs.Chosen.{one, step}
use Rattle.folder_commands.proofs.chosen.left_of.Given as goal

abbrev pub invariant-loop-path : goal.invariant-loop-path
invariant-loop-path l = l.left.items ≡ flat_map (λ path. one (step l.key path)) (take l.path-index l.paths)
