use Rattle.std.proofs.Common.{◌++◌, ◌≡◌, drop}
use Rattle.container_links.proofs.asking.copied.Given as goal

abbrev pub invariant-loop-operation : goal.invariant-loop-operation
invariant-loop-operation l = l.out.items ++ drop l.operation-index l.operations ≡ l.operations
