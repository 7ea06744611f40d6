use Rattle.std.proofs.Common.{ℕ, List, take}
use Rattle.read_outlines.specs.View.{shown}
use Rattle.read_outlines.specs.declared.outline.Place.{Place}
use Rattle.folder_commands.specs.Chosen.{AllStand}
use Rattle.folder_commands.proofs.finding.find_all.Given as goal

abbrev pub invariant-loop-number : goal.invariant-loop-number
invariant-loop-number l = (content : Place → List ℕ) → AllStand (take l.number l.paths) (shown content l.outline)
