use Rattle.std.proofs.Common.{◌≡◌, take}
use Rattle.folder_commands.proofs.chosen.TreePath.new.Given as goal

abbrev pub invariant-loop-name : goal.invariant-loop-name
invariant-loop-name l = l.own.items ≡ take l.name-index l.names
