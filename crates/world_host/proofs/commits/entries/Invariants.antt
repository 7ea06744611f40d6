use Rattle.std.proofs.Common.{◌≡◌, ◌++◌, drop, map}
use Rattle.container_model.specs.Saves.{done_entry}
use Rattle.world_host.proofs.commits.entries.Given as goal

abbrev pub invariant-loop-part : goal.invariant-loop-part
invariant-loop-part l = l.done.items ++ map (done_entry l.k) (drop l.part-index l.parts) ≡ map (done_entry l.k) l.parts
