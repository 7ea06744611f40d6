use Rattle.std.proofs.Common.{◌++◌, ◌+◌, List, Option, drop}
use Rattle.world_model.specs.declared.logs.File.{File}
use Rattle.world_host.specs.Stops.{AreMade}
use Rattle.world_host.specs.View.{bare}
use Rattle.world_host.proofs.host.Host.made_files.Given as goal

abbrev pub invariant-loop-i : goal.invariant-loop-i
invariant-loop-i l = (rest : List (Option File)) → AreMade (bare l.self) l.frames (l.i + 1)
    (drop l.i l.self.core.frames) rest
    → AreMade (bare l.self) l.frames 1 l.self.core.frames (l.made.items ++ rest)
