use Rattle.std.proofs.Common.{◌≡◌, drop}
use Rattle.container_model.specs.Messages.{has_save}
use Rattle.container_links.proofs.writes.has_save.Given as goal

abbrev pub invariant-loop-operation : goal.invariant-loop-operation
invariant-loop-operation l = has_save (drop l.operation-index l.operations) ≡ has_save l.operations
