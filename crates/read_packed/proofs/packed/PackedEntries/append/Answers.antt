use Rattle.std.proofs.Common.{◌++◌, ◌*◌, ◌∙◌, ap, arith, length, take}
use Rattle.std.specs.List.{flat_map}
use Rattle.read_packed.specs.Packed.{entry_of}
use Rattle.read_packed.proofs.Held.{back, entry_more, length_entries}
use Rattle.read_packed.proofs.packed.PackedEntries.append.Goals as goal

pub returns-in-Err-clause-kept : goal.returns-in-Err-clause-kept
returns-in-Err-clause-kept c =
    ap (flat_map entry_of) c.truncate.ensures.items
    ∙ back c.args.self.now (take (128 * c.loop-k.k) c.args.bytes.now) c.self-in-loop-k.inside.slots.items
    c.len-before.result
    (c.self-in-loop-k.view_is ∙ c.in-Err.ensures.kept ∙ c.loop-k.invariant)
    (omega (
      arith,
      c.len-before.ensures,
      c.self.inside.slots.ok.0,
      length_entries c.self.inside.slots.items,
      ap length c.self.view_is,
    ))

pub loop-k-preserved : goal.loop-k-preserved
loop-k-preserved c =
    c.in-Ok.ensures.added
    ∙ (λ t. c.loop-k.invariant t ++ c.entry_in-entry.ensures t)
    ∙ entry_more c.args.self.now c.args.bytes.now c.loop-k.k c.loop-k-test.true
