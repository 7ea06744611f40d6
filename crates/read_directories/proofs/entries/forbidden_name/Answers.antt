use Rattle.std.proofs.Common.{◌<◌, ◌-◌, ◌*◌, ◌/◌, arith}
use Rattle.cfb_bytes.specs.Bytes.{u16_at}
use Rattle.cfb_entries.specs.Entries.{name_length}
use Rattle.cfb_entries.proofs.Reading.{unit_contained}
use Rattle.read_directories.proofs.entries.forbidden_name.Goals as goal

pub returns-then-read_u16-gt127 : goal.returns-then-read_u16-gt127
returns-then-read_u16-gt127 c =
    let lt : c.loop-k.k < name_length c.args.entry.now / 2 - 1 = omega (arith, c.requires.count, c.loop-k-test.true) in
    let past : 127 < u16_at c.args.entry.now (2 * c.loop-k.k) = omega (arith, c.read_u16.ensures) in
    (c.requires.whole, (u16_at c.args.entry.now (2 * c.loop-k.k), unit_contained c.args.entry.now c.loop-k.k lt, past))

pub returns : goal.returns
returns c =
    let lt : c.args.at < name_length c.args.entry.now / 2 - 1 = omega (arith, c.requires.count, c.requires.inside) in (
      c.requires.whole,
      (
        u16_at c.args.entry.now (2 * c.args.at),
        unit_contained c.args.entry.now c.args.at lt,
        c.requires.forbidden,
      ),
    )
