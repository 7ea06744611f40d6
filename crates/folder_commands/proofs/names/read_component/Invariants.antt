use Rattle.std.proofs.Common.{◌≡◌, ◌++◌, length}
use Rattle.std.specs.Option.{option_map}
use Rattle.folder_commands.specs.Names.{component_read}
use Rattle.folder_commands.proofs.names.read_component.Given as goal

abbrev pub invariant-loop-rest : goal.invariant-loop-rest
invariant-loop-rest l = option_map (λ bs. l.buffer.items ++ bs) (component_read l.rest) ≡ component_read l.text

abbrev pub decreases-loop-rest : goal.decreases-loop-rest
decreases-loop-rest l = length l.rest
