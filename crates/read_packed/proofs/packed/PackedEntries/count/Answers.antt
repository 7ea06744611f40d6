use Rattle.std.proofs.Common.{ap, arith, length}
use Rattle.read_packed.proofs.Held.{length_entries}
use Rattle.read_packed.proofs.packed.PackedEntries.count.Goals as goal

pub returns : goal.returns
returns c = omega (
  arith,
  c.len.ensures,
  c.self.inside.slots.ok.0,
  length_entries c.self.inside.slots.items,
  ap length c.self.view_is,
)
