use Rattle.std.proofs.Common.{◌∙◌, ◌+◌, ◌*◌, ◌/◌, ℕ, ap, map}
use Rattle.cfb_header.specs.Bytes.{joined, sector, u32_at}
use Rattle.read_streams.specs.Blocks.{stream_sectors}
use Rattle.read_streams.specs.Chains.{begins_at, walked}
use Rattle.read_streams.proofs.blocks.short_blocks.Goals as goal

pub returns : goal.returns
returns c = record {
  found = λ a h t d o.
      let count : ℕ = (c.args.place.size + 63) / 64 in
      c.in_ok-places.ensures
      ∙ (λ i. map (begins_at ((c.deref-2.ensures.value ∙ c.in_ok-mini_stream.ensures.found a h t d o) i))
      ((c.deref-3.ensures.value ∙ c.in_ok-minis.ensures) i))
      ∙ (λ i. map (begins_at (stream_sectors a d.layout))
      (walked (λ n. u32_at (joined (sector c.args.file.now) (c.deref.ensures.value i)) (4 * n))
      c.args.place.first (c.count_minis.ensures i)))
      ∙ ap (λ (f : ℕ → ℕ). map (begins_at (stream_sectors a d.layout)) (walked f c.args.place.first count))
      (c.in_ok-mini_fat.ensures.next a h t d o);
}
