use Rattle.std.proofs.Common.{sym}
use Rattle.object_kinds.proofs.Loading.{unloaded}
use Rattle.object_kinds.proofs.entries.read.Goals as goal

pub returns-then-not-are_entries-clause-refused : goal.returns-then-not-are_entries-clause-refused
returns-then-not-are_entries-clause-refused c = unloaded c.args.bytes.now (sym c.if-not-are_entries.ensures)
