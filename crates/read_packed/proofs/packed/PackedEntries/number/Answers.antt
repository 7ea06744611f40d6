use Rattle.std.proofs.Common.{◌<◌, ◌*◌, ◌∙◌, ap, arith, length, sym}
use Rattle.cfb_bytes.specs.Bytes.{block, u32_at}
use Rattle.read_packed.specs.Packed.{entry_of}
use Rattle.read_packed.proofs.Held.{entry_there, length_entries}
use Rattle.read_packed.proofs.packed.PackedEntries.number.Goals as goal

pub index-requires : goal.index-requires
index-requires c = omega (
  arith,
  c.requires.there,
  c.self.inside.slots.ok.0,
  length_entries
      c.self.inside.slots.items,
  ap length c.self.view_is,
)

pub returns : goal.returns
returns c =
    let there : c.args.id < length c.self.inside.slots.items =
    omega (arith, c.requires.there, length_entries c.self.inside.slots.items, ap length c.self.view_is) in
    c.number.ensures
    ∙ ap (λ slot. u32_at (entry_of slot) c.args.at) c.index.ensures
    ∙ ap (λ xs. u32_at xs c.args.at)
    (sym (entry_there c.self.inside.slots.items c.args.id c.index.result.now there)
    ∙ ap (λ xs. block 128 xs (128 * c.args.id)) c.self.view_is)
