use Rattle.std.proofs.Common.{◌<◌, ◌*◌, ◌∙◌, ap, arith, length, sym}
use Rattle.cfb_bytes.specs.Bytes.{block}
use Rattle.read_packed.proofs.Held.{entry_there, length_entries}
use Rattle.read_packed.proofs.packed.PackedEntries.entry.Goals as goal
use Rattle.read_packed.specs.Packed.{entry_of}

pub index-requires : goal.index-requires
index-requires c = omega (
  arith,
  c.requires,
  c.self.inside.slots.ok.0,
  length_entries c.self.inside.slots.items,
  ap length c.self.view_is,
)

pub returns : goal.returns
returns c =
    let there : c.args.id < length c.self.inside.slots.items =
    omega (arith, c.requires, length_entries c.self.inside.slots.items, ap length c.self.view_is) in
    c.bytes.ensures
    ∙ ap entry_of c.index.ensures
    ∙ sym (entry_there c.self.inside.slots.items c.args.id c.index.result.now there)
    ∙ ap (λ xs. block 128 xs (128 * c.args.id)) c.self.view_is
