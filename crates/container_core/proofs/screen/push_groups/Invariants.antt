use Rattle.std.proofs.Common.{◌≡◌, ◌++◌, drop}
use Rattle.std.specs.List.{flat_map}
use Rattle.container_core.specs.Screen.{further}
use Rattle.container_core.proofs.screen.push_groups.Given as goal

abbrev pub invariant-loop-group : goal.invariant-loop-group
invariant-loop-group l = l.text.items ++ flat_map further (drop l.group-index l.groups) ≡ l.initial.text.items
    ++ flat_map further l.groups
