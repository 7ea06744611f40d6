use Rattle.std.proofs.Common.{◌≡◌, ◌+◌, ◌-◌, ◌*◌, ◌∙◌, ℕ, List, drop, length, min, take, get_or, arith}
use Rattle.cfb_bytes.specs.Bytes.{block}
use Rattle.cfb_header.specs.Bytes.{joined, sector}
use Rattle.read_source.proofs.Filling.{some_both, some_same}
use Rattle.read_streams.proofs.Buffers.{more_filled, same_long}
use Rattle.read_streams.proofs.filling.fill_sectors.Goals as goal

pub loop-done-preserved : goal.loop-done-preserved
loop-done-preserved g c =
    let i = c.loop-done.invariant in
    let old : List ℕ = c.loop-done.buffer in
    let ns : List ℕ = c.args.sectors.now in
    let done : ℕ = c.loop-done.done in
    let count : ℕ = c.run_length-count.result in
    let end : ℕ = c.min-end.result in
    let part : List ℕ = c.fill.new.buffer in
    let many : ℕ = length (take (end - 512 * done) (drop (512 * done) old)) in
    let at : ℕ = 512 * (get_or ns done 0 + 1) in
    record {
      all = i.all;
      long = same_long (512 * done) (end - 512 * done) old part c.fill.ensures.long ∙ i.long;
      within = c.run_length-count.ensures.inside;
      filled =
          some_both (g.S.Source.bytes c.args.source.now)
          (λ a. length a ≡ c.args.len → take (512 * done) old ≡ take (min (512 * done) (length old))
          (joined (sector a) ns))
          (λ a. length a ≡ c.args.len → part ≡ block many a at) _
          (λ a h r len.
          more_filled a ns old part done count (512 * done) end (omega arith)
          (omega (arith, i.all, i.long, c.loop-done-test.true))
          (omega (arith, c.min-end.ensures, c.saturating_mul.ensures)) c.run_length-count.ensures.inside
          c.run_length-count.ensures.in_turn (r len) (h len))
          i.filled (some_same (g.S.Source.bytes c.loop-done.source) (g.S.Source.bytes c.args.source.now)
          (λ a. length a ≡ c.args.len → part ≡ block many a at) i.kept c.in_ok-fill.ensures.filled);
      kept = c.fill.ensures.kept ∙ i.kept;
    }
