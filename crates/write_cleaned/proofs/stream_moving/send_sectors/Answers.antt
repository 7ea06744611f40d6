use Rattle.std.proofs.Common.{◌≡◌, ◌-◌, ◌*◌, ◌/◌, ◌++◌, ◌∙◌, ℕ, List, drop, length, take, arith}
use Rattle.cfb_header.specs.Bytes.{joined, sector}
use Rattle.write_parts.specs.Sends.{Sends}
use Rattle.read_source.proofs.Filling.{some_both, some_same}
use Rattle.write_cleaned.proofs.Pieces.{piece_sent, sector_bytes}
use Rattle.write_cleaned.proofs.stream_moving.send_sectors.Goals as goal

pub loop-done-preserved : goal.loop-done-preserved
loop-done-preserved g c =
    let i = c.loop-done.invariant in
    let ns : List ℕ = c.args.sectors.now in
    let size : ℕ = c.args.size in
    let done : ℕ = c.loop-done.done in
    let many : ℕ = c.min-many.result in
    let at : ℕ = 65536 * done / 512 in
    let known = g.S.Source.bytes c.args.source.now in
    let before = g.W.Write.contents c.args.writer.now in
    let mid = g.W.Write.contents c.loop-done.writer in
    let after = g.W.Write.contents c.room.new.writer in
    let old : List ℕ = c.args.waiting.now.items in
    let now : List ℕ = c.loop-done.waiting.items in
    let room : List ℕ = c.room.new.waiting.items in
    let new : List ℕ = c.push_sectors.new.waiting.items in
    record {
      pieces = i.pieces;
      sent =
          some_both known
          (λ a. length a ≡ c.args.len → Sends before mid old now (take (65536 * done) (sector_bytes a ns size)))
          (λ a. length a ≡ c.args.len → new ≡ room ++ take many
          (joined (sector a) (take (length ns - at) (drop at ns)))) _
          (λ a h r len.
          piece_sent a ns size before mid after old now room new done many at c.requires.enough
          (omega (arith, i.pieces, c.loop-done-test.true))
          (omega (arith, c.min-many.ensures)) (omega arith) (h len) c.in_ok-room.ensures (r len))
          i.sent
          (some_same (g.S.Source.bytes c.loop-done.source) known
          (λ a. length a ≡ c.args.len → new ≡ room ++ take many
          (joined (sector a) (take (length ns - at) (drop at ns)))) i.kept
          c.in_ok-push_sectors.ensures.pushed);
      kept = c.push_sectors.ensures.kept ∙ i.kept;
    }
