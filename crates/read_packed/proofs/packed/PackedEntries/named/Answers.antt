use Rattle.std.proofs.Common.{◌<◌, ◌*◌, ◌∙◌, ap, arith, length, sym, get_or}
use Rattle.cfb_bytes.specs.Bytes.{block}
use Rattle.read_packed.specs.Packed.{entry_of}
use Rattle.read_packed.proofs.Held.{entry_there, length_entries}
use Rattle.read_packed.proofs.packed.PackedEntries.named.Goals as goal

pub returns-in-Some-Named-clause-there : goal.returns-in-Some-Named-clause-there
returns-in-Some-Named-clause-there c =
    let there : c.args.id < length c.self.inside.slots.items =
    omega (arith, c.in-Some-Named.ensures.lookup.3.0, ap length c.deref.ensures.value) in
    omega (arith, there, length_entries c.self.inside.slots.items, ap length c.self.view_is)

pub returns-in-Some-Named-clause-bytes : goal.returns-in-Some-Named-clause-bytes
returns-in-Some-Named-clause-bytes c =
    let there : c.args.id < length c.self.inside.slots.items =
    omega (arith, c.in-Some-Named.ensures.lookup.3.0, ap length c.deref.ensures.value) in
    let slot = c.in-Some-Named.field-0.now in
    ap entry_of (sym c.in-Some-Named.field-0-is ∙ c.in-Some-Named.ensures.lookup.3.1 slot
    ∙ ap (λ xs. get_or xs c.args.id slot) c.deref.ensures.value)
    ∙ sym (entry_there c.self.inside.slots.items c.args.id slot there)
    ∙ ap (λ xs. block 128 xs (128 * c.args.id)) c.self.view_is
