use Rattle.std.proofs.Common.{◌≡◌, ◌<◌, length}
use Rattle.test_scripts.proofs.servers.Servers.deliver.Given as goal

abbrev pub invariant-loop : goal.invariant-loop
invariant-loop g l = (l.self.history ≡ l.fn.self.history) × (l.place < length l.self.servers.items)
