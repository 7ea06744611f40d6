use Rattle.std.proofs.Common.{◌≡◌, ◌∙◌, ◌+◌, ◌/◌, ap, sym}
use Rattle.cfb_chains.specs.Fat.{followed}
use Rattle.read_streams.specs.Chains.{IsFatOf}
use Rattle.read_streams.proofs.Shown.{long_lies, short_lies}
use Rattle.read_streams.proofs.blocks.blocks_at.Goals as goal

pub returns-then-is_short : goal.returns-then-is_short
returns-then-is_short c = record {
  lies = λ a h t d.
      let o : IsFatOf a d.layout c.in_ok-table.table = c.in_ok-table.ensures.fat a h t d in
      short_lies a d.layout c.args.place c.in_ok-places.places.items (sym c.is_short.ensures ∙ c.if-is_short.true)
      (c.in_ok-places.ensures.found a h t d o);
}

pub returns : goal.returns
returns c = record {
  lies = λ a h t d.
      let o : IsFatOf a d.layout c.in_ok-table.table = c.in_ok-table.ensures.fat a h t d in
      let count : followed c.in_ok-table.table c.count_sectors.result c.args.place.first
      ≡ followed c.in_ok-table.table ((c.args.place.size + 511) / 512) c.args.place.first =
      ap (λ n. followed c.in_ok-table.table n c.args.place.first) c.count_sectors.ensures in
      long_lies a d.layout c.args.place c.in_ok-table.table c.in_ok-sectors.sectors.items o
      (sym c.is_short.ensures ∙ c.if-is_short.false) (c.in_ok-sectors.ensures ∙ count);
}
